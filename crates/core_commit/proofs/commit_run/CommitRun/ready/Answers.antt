use Rattle.std.proofs.Common.{sym, subst, ap, ◌∙◌, ◌<◌, ◌≤◌, ◌^◌}
use Rattle.uberblock_ring.specs.Devices.{count_of}
use Rattle.uberblock_ring.specs.Uberblock.{Uber}
use Rattle.core_commit.specs.CommitTurns.{CommitRun}
use Rattle.core_commit.proofs.Stepping.{signing_right}
use Rattle.core_commit.proofs.commit_run.CommitRun.ready.Goals as goal

pub invariant_of-self : goal.invariant_of-self
invariant_of-self c = (
  signing_right (record {
    uber = c.self.inside.uber.value;
    entries = c.self.inside.entries.items;
    calls = c.self.inside.calls;
    stage = c.self.inside.stage;
  }) c.args.out c.set_out.new.self
      (c.set_out.ensures.value ∙ ap (λ (u : Uber). record u { out = c.args.out }) c.deref_mut.ensures.value) c.self.invariant.0
      (subst (λ (r : CommitRun). c.args.out < 2 ^ r.uber.reflow.to) (sym c.self.view_is) c.requires.below)
      (subst (λ (r : CommitRun). count_of c.args.out ≤ r.uber.parity) (sym c.self.view_is) c.requires.few),
  c.self.invariant.1,
)

pub returns-then-is_laid-clause-right : goal.returns-then-is_laid-clause-right
returns-then-is_laid-clause-right c = (invariant_of-self c).0.right
