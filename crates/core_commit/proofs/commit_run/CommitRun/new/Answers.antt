use Rattle.std.proofs.Common.{◌∙◌, ap}
use Rattle.reflow_mark.specs.declared.reflow.Reflow.{Reflow}
use Rattle.uberblock_ring.specs.Uberblock.{Uber}
use Rattle.commit_job.specs.Stages.{plan_of}
use Rattle.core_commit.proofs.Planned.{plan_inside}
use Rattle.core_commit.proofs.commit_run.CommitRun.new.Goals as goal

pub invariant_of-result : goal.invariant_of-result
invariant_of-result c = (
  record {
    right = c.requires.right;
    index = c.requires.index;
    counted = c.requires.counted;
    inside = plan_inside c.args.uber.value c.new-calls.result
        (c.new-calls.ensures.value ∙ ap (λ (r : Reflow). plan_of r.to c.count.result) c.reflow.ensures.value
        ∙ ap (λ (u : Uber). plan_of u.reflow.to c.count.result) c.deref.ensures
        ∙ ap (plan_of c.args.uber.value.reflow.to) (c.count.ensures.value ∙ ap (λ (u : Uber). u.count) c.deref-2.ensures));
  },
  c.requires.page,
)
