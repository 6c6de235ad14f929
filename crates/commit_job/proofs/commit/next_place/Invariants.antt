use Rattle.std.proofs.Common.{◌≡◌}
use Rattle.commit_job.specs.Plan.{left_from}
use Rattle.commit_job.specs.Stages.{after_next, calls_left}
use Rattle.commit_job.proofs.commit.next_place.Given as goal

abbrev pub invariant-loop-place : goal.invariant-loop-place
invariant-loop-place l = record {
  left : calls_left l.out (left_from l.fn.plan l.fn.first) ≡ calls_left l.out (left_from l.fn.plan l.place);
  after : after_next l.out (left_from l.fn.plan l.fn.first) ≡ after_next l.out (left_from l.fn.plan l.place);
}
