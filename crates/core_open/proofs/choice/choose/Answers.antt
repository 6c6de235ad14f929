use Rattle.std.proofs.Common.{subst}
use Rattle.std.proofs.lemmas.Result.{IfOk-weaker}
use Rattle.core_open.specs.Holds.{shape_of}
use Rattle.core_open.specs.Votes.{IsPoolChoice}
use Rattle.core_open.proofs.Chosen.{chosen_none, chosen_some}
use Rattle.core_open.proofs.choice.choose.Goals as goal

pub returns-in-Some-clause-chosen : goal.returns-in-Some-clause-chosen
returns-in-Some-clause-chosen g c =
    let shape = shape_of (g.B.Bank.disk c.args.bank.now) in
    let silent = c.args.rings.now.silent in
    IfOk-weaker c.newest_candidates.result _ _
    (λ candidates newest image holds shown. chosen_some shape silent image c.in-Some.pool candidates.ubers.items
    candidates.entries.items
    (subst (λ pool. IsPoolChoice shape silent image pool) c.in-Some.is (c.in_ok-pool.ensures.chosen shape image shown))
    (newest image holds shown))
    c.newest_candidates.ensures.newest

pub returns-in-None-clause-chosen : goal.returns-in-None-clause-chosen
returns-in-None-clause-chosen g c = λ image holds shown.
    let shape = shape_of (g.B.Bank.disk c.args.bank.now) in
    let silent = c.args.rings.now.silent in
    chosen_none shape silent image c.none.result.ubers.items c.none.result.entries.items c.none.ensures.ubers
    (subst (λ pool. IsPoolChoice shape silent image pool) c.in-None.is (c.in_ok-pool.ensures.chosen shape image shown))
