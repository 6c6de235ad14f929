use Rattle.std.proofs.Common.{arith}
use Rattle.commit_job.proofs.Lefts.{step_is}
use Rattle.commit_job.proofs.commit.Commit.next.Goals as goal

pub returns-then-place-len : goal.returns-then-place-len
returns-then-place-len c = record {
  value = (step_is c.self.inside.plan c.self.inside.place c.next_place-place.result c.args.out c.args.self.now c.call_at.result c.self.view_is
      c.next_place-place.ensures.left c.next_place-place.ensures.after
      (c.next_place-place.ensures.due (omega (arith, c.if-place-len.true, c.len.ensures.value))) c.call_at.ensures.value).next;
}
