use Rattle.std.proofs.Common.{◌∙◌, refl}
use Rattle.std.specs.Prelude.{not}
use Rattle.uberblock_ring.specs.Devices.{has_device}
use Rattle.commit_job.specs.Plan.{is_meant}
use Rattle.commit_job.specs.Stages.{device_of}
use Rattle.commit_job.proofs.Lefts.{not_due, passed_left}
use Rattle.commit_job.proofs.commit.next_place.Goals as goal

pub loop-place-preserved : goal.loop-place-preserved
loop-place-preserved c =
    let call = c.call_at.result in
    let passed = passed_left c.args.plan.now c.loop-place.place c.args.out call c.call_at.ensures.value _ _ refl refl
    (not_due (is_meant c.args.plan.now.meant call) (not (has_device c.args.out (device_of call))) c.is_due.result c.is_due.ensures.value
    c.if-is_due.false) in
    record { left = c.loop-place.invariant.left ∙ passed.0; after = c.loop-place.invariant.after ∙ passed.1 }
