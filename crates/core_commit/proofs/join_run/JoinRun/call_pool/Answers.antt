use Rattle.std.proofs.Common.{refl, sym, subst}
use Rattle.core_state.specs.Committing.{point_of}
use Rattle.core_commit.specs.declared.guest.JoinTurn.TheVariants.{PoolCall}
use Rattle.core_commit.specs.JoinRun.{JoinRun}
use Rattle.core_commit.specs.JoinTurns.{IsNextTurnOf, FitsJoin, HasCalledPool}
use Rattle.core_commit.proofs.JoinTurns.{laid_on, still_joins, fits_on}
use Rattle.core_commit.proofs.join_run.JoinRun.call_pool.Goals as goal

pub invariant_of-result : goal.invariant_of-result
invariant_of-result g c =
    let before = point_of c.args.out.now (g.B.Bank.disk c.args.bank.now) in
    let after = point_of c.step.new.out (g.B.Bank.disk c.step.new.bank) in
    let old : JoinRun = record { run = c.self.inside.run; guest = c.self.inside.guest } in
    let new : JoinRun = record { run = c.step.new.self; guest = c.self.inside.guest } in
    let turn = subst (λ (join : JoinRun). IsNextTurnOf join c.args.out.now PoolCall) (sym c.self.view_is)
    c.requires.turn in
    still_joins old before after new c.self.invariant
    (laid_on c.step.result old.run new.run before after turn.0 turn.1 turn.2 c.step.ensures.steps)

pub returns-clause-called : goal.returns-clause-called
returns-clause-called g c =
    let before = point_of c.args.out.now (g.B.Bank.disk c.args.bank.now) in
    let after = point_of c.step.new.out (g.B.Bank.disk c.step.new.bank) in
    let old : JoinRun = record { run = c.self.inside.run; guest = c.self.inside.guest } in
    let new : JoinRun = record { run = c.step.new.self; guest = c.self.inside.guest } in
    let turn = subst (λ (join : JoinRun). IsNextTurnOf join c.args.out.now PoolCall) (sym c.self.view_is)
    c.requires.turn in
    subst (λ (join : JoinRun). HasCalledPool join before new after) c.self.view_is (record {
      turn = turn;
      called = (laid_on c.step.result old.run new.run before after turn.0 turn.1 turn.2 c.step.ensures.steps).called;
      same = refl;
    })

pub returns-clause-fits : goal.returns-clause-fits
returns-clause-fits g c =
    let before = point_of c.args.out.now (g.B.Bank.disk c.args.bank.now) in
    let after = point_of c.step.new.out (g.B.Bank.disk c.step.new.bank) in
    let old : JoinRun = record { run = c.self.inside.run; guest = c.self.inside.guest } in
    let new : JoinRun = record { run = c.step.new.self; guest = c.self.inside.guest } in
    let turn = subst (λ (join : JoinRun). IsNextTurnOf join c.args.out.now PoolCall) (sym c.self.view_is)
    c.requires.turn in
    fits_on old new before after
    (laid_on c.step.result old.run new.run before after turn.0 turn.1 turn.2 c.step.ensures.steps)
    c.step.ensures.spares.later
    (subst (λ (join : JoinRun). FitsJoin join before.out before.disk) (sym c.self.view_is) c.requires.fits)
    c.step.ensures.fits c.step.ensures.below
