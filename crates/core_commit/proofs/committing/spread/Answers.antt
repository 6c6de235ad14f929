use Rattle.std.proofs.Common.{ℕ, ◌<◌, ◌≤◌, ◌∙◌, IsTrue, false, ap, subst, arith, ⊎_elim}
use Rattle.std.proofs.lemmas.Bool.{cases_lt}
use Rattle.reflow_mark.specs.declared.reflow.Reflow.{Reflow}
use Rattle.uberblock_ring.specs.Devices.{count_of}
use Rattle.commit_job.specs.Stages.{spread_of}
use Rattle.core_state.specs.Committing.{point_of}
use Rattle.core_commit.proofs.SpreadCalls.{spread_all_inside, spread_gone, spread_spares, spread_short, spread_whole}
use Rattle.core_commit.proofs.Writing.{ran_writes}
use Rattle.core_commit.proofs.committing.spread.Goals as goal

pub make_all-requires-clause-inside : goal.make_all-requires-clause-inside
make_all-requires-clause-inside g c = spread_all_inside c.args.uber.now c.args.lack_page c.args.lack_uber
    c.spread-calls.result (c.spread-calls.ensures.value
    ∙ ap (λ (r : Reflow). spread_of r.to c.count.result c.args.lack_page c.args.lack_uber) c.reflow.ensures.value
    ∙ ap (λ (n : ℕ). spread_of c.args.uber.now.reflow.to n c.args.lack_page c.args.lack_uber) c.count.ensures.value)

pub returns-then-exceeds-clause-gone : goal.returns-then-exceeds-clause-gone
returns-then-exceeds-clause-gone g c = spread_gone c.args.uber.now c.args.entries.now c.args.lack_page c.args.lack_uber
    (point_of c.args.out.now (g.B.Bank.disk c.args.bank.now)) c.requires.right c.requires.index
    c.requires.fits.counted c.spread-calls.result c.make_all.new.calls
    (point_of c.make_all.new.out (g.B.Bank.disk c.make_all.new.bank)) (c.spread-calls.ensures.value
    ∙ ap (λ (r : Reflow). spread_of r.to c.count.result c.args.lack_page c.args.lack_uber) c.reflow.ensures.value
    ∙ ap (λ (n : ℕ). spread_of c.args.uber.now.reflow.to n c.args.lack_page c.args.lack_uber) c.count.ensures.value) c.make_all.ensures.ran

pub returns-then-exceeds-clause-spares : goal.returns-then-exceeds-clause-spares
returns-then-exceeds-clause-spares g c = spread_spares c.args.uber.now c.args.entries.now c.args.lack_page c.args.lack_uber
    (point_of c.args.out.now (g.B.Bank.disk c.args.bank.now)) c.requires.right c.requires.index
    c.requires.fits.counted c.spread-calls.result c.make_all.new.calls
    (point_of c.make_all.new.out (g.B.Bank.disk c.make_all.new.bank)) (c.spread-calls.ensures.value
    ∙ ap (λ (r : Reflow). spread_of r.to c.count.result c.args.lack_page c.args.lack_uber) c.reflow.ensures.value
    ∙ ap (λ (n : ℕ). spread_of c.args.uber.now.reflow.to n c.args.lack_page c.args.lack_uber) c.count.ensures.value) c.make_all.ensures.ran

pub returns-then-exceeds-clause-keeps : goal.returns-then-exceeds-clause-keeps
returns-then-exceeds-clause-keeps g c = spread_short c.args.uber.now c.args.entries.now c.args.lack_page c.args.lack_uber
    (point_of c.args.out.now (g.B.Bank.disk c.args.bank.now)) c.requires.right c.requires.index
    c.requires.fits.counted c.spread-calls.result c.make_all.new.calls
    (point_of c.make_all.new.out (g.B.Bank.disk c.make_all.new.bank)) (c.spread-calls.ensures.value
    ∙ ap (λ (r : Reflow). spread_of r.to c.count.result c.args.lack_page c.args.lack_uber) c.reflow.ensures.value
    ∙ ap (λ (n : ℕ). spread_of c.args.uber.now.reflow.to n c.args.lack_page c.args.lack_uber) c.count.ensures.value) c.make_all.ensures.ran
    (g.met.B.Bank.lawful c.args.bank.now) _

pub returns-clause-gone : goal.returns-clause-gone
returns-clause-gone g c = spread_gone c.args.uber.now c.args.entries.now c.args.lack_page c.args.lack_uber
    (point_of c.args.out.now (g.B.Bank.disk c.args.bank.now)) c.requires.right c.requires.index
    c.requires.fits.counted c.spread-calls.result c.make_all.new.calls
    (point_of c.make_all.new.out (g.B.Bank.disk c.make_all.new.bank)) (c.spread-calls.ensures.value
    ∙ ap (λ (r : Reflow). spread_of r.to c.count.result c.args.lack_page c.args.lack_uber) c.reflow.ensures.value
    ∙ ap (λ (n : ℕ). spread_of c.args.uber.now.reflow.to n c.args.lack_page c.args.lack_uber) c.count.ensures.value) c.make_all.ensures.ran

pub returns-clause-spares : goal.returns-clause-spares
returns-clause-spares g c = spread_spares c.args.uber.now c.args.entries.now c.args.lack_page c.args.lack_uber
    (point_of c.args.out.now (g.B.Bank.disk c.args.bank.now)) c.requires.right c.requires.index
    c.requires.fits.counted c.spread-calls.result c.make_all.new.calls
    (point_of c.make_all.new.out (g.B.Bank.disk c.make_all.new.bank)) (c.spread-calls.ensures.value
    ∙ ap (λ (r : Reflow). spread_of r.to c.count.result c.args.lack_page c.args.lack_uber) c.reflow.ensures.value
    ∙ ap (λ (n : ℕ). spread_of c.args.uber.now.reflow.to n c.args.lack_page c.args.lack_uber) c.count.ensures.value) c.make_all.ensures.ran

pub returns-clause-keeps : goal.returns-clause-keeps
returns-clause-keeps g c = spread_whole c.args.uber.now c.args.entries.now c.args.lack_page c.args.lack_uber
    (point_of c.args.out.now (g.B.Bank.disk c.args.bank.now)) c.requires.right c.requires.index
    c.requires.fits.counted c.spread-calls.result c.make_all.new.calls
    (point_of c.make_all.new.out (g.B.Bank.disk c.make_all.new.bank)) (c.spread-calls.ensures.value
    ∙ ap (λ (r : Reflow). spread_of r.to c.count.result c.args.lack_page c.args.lack_uber) c.reflow.ensures.value
    ∙ ap (λ (n : ℕ). spread_of c.args.uber.now.reflow.to n c.args.lack_page c.args.lack_uber) c.count.ensures.value) c.make_all.ensures.ran
    (g.met.B.Bank.lawful c.args.bank.now) _
    (c.make_all.ensures.ends (⊎_elim
    (λ (over : c.parity.result < count_of c.make_all.new.out).
    let never : IsTrue false = subst IsTrue c.if-exceeds.false (c.exceeds.ensures.value.1 over) in absurd cc)
    (λ (few : count_of c.make_all.new.out ≤ c.parity.result). omega (arith, few, c.parity.ensures.value))
    (cases_lt c.parity.result (count_of c.make_all.new.out))))

pub returns-then-exceeds-clause-writes : goal.returns-then-exceeds-clause-writes
returns-then-exceeds-clause-writes g c = ran_writes c.args.uber.now c.args.entries.now c.args.lack_page c.args.lack_uber
    c.spread-calls.result c.make_all.new.calls (point_of c.args.out.now (g.B.Bank.disk c.args.bank.now))
    (point_of c.make_all.new.out (g.B.Bank.disk c.make_all.new.bank)) (g.met.B.Bank.lawful c.args.bank.now)
    (c.spread-calls.ensures.value
    ∙ ap (λ (r : Reflow). spread_of r.to c.count.result c.args.lack_page c.args.lack_uber) c.reflow.ensures.value
    ∙ ap (λ (n : ℕ). spread_of c.args.uber.now.reflow.to n c.args.lack_page c.args.lack_uber) c.count.ensures.value) c.make_all.ensures.ran

pub returns-clause-writes : goal.returns-clause-writes
returns-clause-writes g c = ran_writes c.args.uber.now c.args.entries.now c.args.lack_page c.args.lack_uber
    c.spread-calls.result c.make_all.new.calls (point_of c.args.out.now (g.B.Bank.disk c.args.bank.now))
    (point_of c.make_all.new.out (g.B.Bank.disk c.make_all.new.bank)) (g.met.B.Bank.lawful c.args.bank.now)
    (c.spread-calls.ensures.value
    ∙ ap (λ (r : Reflow). spread_of r.to c.count.result c.args.lack_page c.args.lack_uber) c.reflow.ensures.value
    ∙ ap (λ (n : ℕ). spread_of c.args.uber.now.reflow.to n c.args.lack_page c.args.lack_uber) c.count.ensures.value) c.make_all.ensures.ran
