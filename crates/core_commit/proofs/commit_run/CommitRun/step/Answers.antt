use Rattle.std.proofs.Common.{refl, sym, ◌∙◌, subst, List}
use Rattle.block_record.specs.declared.entry.IndexEntry.{IndexEntry}
use Rattle.core_commit.specs.declared.commit_run.CommitStep.TheVariants.{Called, Ended}
use Rattle.core_commit.specs.CommitTurns.{CommitRun, IsMadeReady}
use Rattle.uberblock_ring.specs.Uberblock.{Uber}
use Rattle.core_commit.specs.Ran.{IsCallInPool, MadeOne}
use Rattle.core_state.specs.Committing.{point_of}
use Rattle.core_commit.proofs.Running.{none_left}
use Rattle.core_commit.proofs.Stepping.{next_inside, next_used, called_right, has_called, steps_went, steps_gone}
use Rattle.core_commit.proofs.commit_run.CommitRun.step.Goals as goal

pub returns-in_default-clause-steps : goal.returns-in_default-clause-steps
returns-in_default-clause-steps g c = record {
  none = none_left c.args.out.now c.args.self.now.calls (sym c.ready.ensures.value ∙ c.in_default.is);
  is_ready = c.ready.ensures.ready;
  right = c.ready.ensures.right;
  same = refl;
}

pub make-requires-clause-inside : goal.make-requires-clause-inside
make-requires-clause-inside g c = subst (λ (uber : Uber). IsCallInPool uber c.in-Some.call) (sym c.deref.ensures) (next_inside c.args.self.now
    (record {
      uber = c.self.inside.uber.value;
      entries = c.self.inside.entries.items;
      calls = c.self.inside.calls;
      stage = c.self.inside.stage;
    }) c.args.out.now
    (subst (λ (r : CommitRun). IsMadeReady c.args.out.now c.args.self.now r) (sym c.self.view_is) c.ready.ensures.ready)
    c.self.invariant.0 c.in-Some.call (sym c.ready.ensures.value ∙ c.in-Some.is))

pub make-requires-clause-in_use : goal.make-requires-clause-in_use
make-requires-clause-in_use g c = next_used c.args.self.now
    (record {
      uber = c.self.inside.uber.value;
      entries = c.self.inside.entries.items;
      calls = c.self.inside.calls;
      stage = c.self.inside.stage;
    }) c.args.out.now
    (subst (λ (r : CommitRun). IsMadeReady c.args.out.now c.args.self.now r) (sym c.self.view_is) c.ready.ensures.ready)
    c.self.invariant.0 c.in-Some.call (sym c.ready.ensures.value ∙ c.in-Some.is)

pub invariant_of-self : goal.invariant_of-self
invariant_of-self g c = (
  called_right c.args.self.now
      (record {
        uber = c.self.inside.uber.value;
        entries = c.self.inside.entries.items;
        calls = c.self.inside.calls;
        stage = c.self.inside.stage;
      }) c.args.out.now
      (subst (λ (r : CommitRun). IsMadeReady c.args.out.now c.args.self.now r) (sym c.self.view_is) c.ready.ensures.ready)
      c.self.invariant.0 c.in-Some.call (sym c.ready.ensures.value ∙ c.in-Some.is) c.advance.new.self
      c.advance.ensures.left,
  c.self.invariant.1,
)

pub returns-clause-steps : goal.returns-clause-steps
returns-clause-steps g c = has_called c.args.self.now
    (record {
      uber = c.self.inside.uber.value;
      entries = c.self.inside.entries.items;
      calls = c.self.inside.calls;
      stage = c.self.inside.stage;
    }) c.args.out.now
    (subst (λ (r : CommitRun). IsMadeReady c.args.out.now c.args.self.now r) (sym c.self.view_is) c.ready.ensures.ready)
    c.self.invariant.0 c.in-Some.call (sym c.ready.ensures.value ∙ c.in-Some.is) c.advance.new.self
    c.advance.ensures.left (point_of c.args.out.now (g.B.Bank.disk c.args.bank.now))
    (point_of c.make.new.out (g.B.Bank.disk c.make.new.bank)) refl
    (subst (λ (entries : List IndexEntry). MadeOne c.self.inside.uber.value entries c.in-Some.call
    (point_of c.args.out.now (g.B.Bank.disk c.args.bank.now))
    (point_of c.make.new.out (g.B.Bank.disk c.make.new.bank))) c.deref-2.ensures.value
    (subst (λ (uber : Uber). MadeOne uber c.deref-2.result.now c.in-Some.call
    (point_of c.args.out.now (g.B.Bank.disk c.args.bank.now))
    (point_of c.make.new.out (g.B.Bank.disk c.make.new.bank))) c.deref.ensures c.make.ensures.made))

pub returns-in_default-clause-gone : goal.returns-in_default-clause-gone
returns-in_default-clause-gone g c = steps_gone Ended c.args.self.now c.ready.new.self
    (point_of c.args.out.now (g.B.Bank.disk c.args.bank.now)) (point_of c.args.out.now (g.B.Bank.disk c.args.bank.now))
    (returns-in_default-clause-steps g c)

pub returns-in_default-clause-spares : goal.returns-in_default-clause-spares
returns-in_default-clause-spares g c = (steps_went Ended c.args.self.now c.ready.new.self
    (point_of c.args.out.now (g.B.Bank.disk c.args.bank.now)) (point_of c.args.out.now (g.B.Bank.disk c.args.bank.now))
    (returns-in_default-clause-steps g c)).spares

pub returns-clause-gone : goal.returns-clause-gone
returns-clause-gone g c = steps_gone Called c.args.self.now _
    (point_of c.args.out.now (g.B.Bank.disk c.args.bank.now)) (point_of c.make.new.out (g.B.Bank.disk c.make.new.bank))
    (returns-clause-steps g c)

pub returns-clause-spares : goal.returns-clause-spares
returns-clause-spares g c = (steps_went Called c.args.self.now _
    (point_of c.args.out.now (g.B.Bank.disk c.args.bank.now)) (point_of c.make.new.out (g.B.Bank.disk c.make.new.bank))
    (returns-clause-steps g c)).spares
