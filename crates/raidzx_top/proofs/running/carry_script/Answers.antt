use Rattle.std.proofs.Common.{List, ℕ, subst, sym}
use Rattle.std.specs.Prelude.{IfOk}
use Rattle.schedule.specs.WholeRun.{HasRunInTurn}
use Rattle.raidzx_top.specs.declared.order.Order.{Order as OrderOf}
use Rattle.raidzx_top.specs.Running.{HasCarried}
use Rattle.raidzx_top.proofs.Carrying.{carried_beside, carried_in_turn, was_unopened}
use Rattle.raidzx_top.proofs.running.carry_script.Goals as goal

pub returns-in-AsTheyCome-clause-carried : goal.returns-in-AsTheyCome-clause-carried
returns-in-AsTheyCome-clause-carried g c =
    let old = g.B.Bank.disk c.args.bank in
    let run = c.run_pool_beside in
    let new = g.B.Bank.disk run.result.bank in
    let items = run.result.journal.items in
    subst (λ (order : OrderOf). IfOk run.result.ran (HasCarried order c.args.script old new items)) (sym c.in-AsTheyCome.is)
    (carried_beside c.in-AsTheyCome.attaches c.args.script old new items run.result.ran run.ensures.run)

pub returns-in-AsTheyCome-clause-unopened : goal.returns-in-AsTheyCome-clause-unopened
returns-in-AsTheyCome-clause-unopened g c =
    let run = c.run_pool_beside in
    was_unopened (g.B.Bank.disk c.args.bank) (g.B.Bank.disk run.result.bank) run.result.ran run.ensures.cause
    run.ensures.cut run.ensures.untouched run.ensures.others run.ensures.opens

pub returns-in-AsListed-clause-carried : goal.returns-in-AsListed-clause-carried
returns-in-AsListed-clause-carried g c =
    let old = g.B.Bank.disk c.args.bank in
    let run = c.run_pool in
    let new = g.B.Bank.disk run.result.bank in
    let items = run.result.journal.items in
    subst (λ (order : OrderOf). IfOk run.result.ran (HasCarried order c.args.script old new items)) (sym c.in-AsListed.is)
    (carried_in_turn c.args.script old new items run.result.ran
    (subst (λ (letters : List ℕ). IfOk run.result.ran (HasRunInTurn c.args.script letters old new items)) c.order.ensures
    run.ensures.run) run.ensures.complete run.ensures.limit)

pub returns-in-AsListed-clause-unopened : goal.returns-in-AsListed-clause-unopened
returns-in-AsListed-clause-unopened g c =
    let run = c.run_pool in
    was_unopened (g.B.Bank.disk c.args.bank) (g.B.Bank.disk run.result.bank) run.result.ran run.ensures.cause
    run.ensures.cut run.ensures.untouched run.ensures.others run.ensures.opens
