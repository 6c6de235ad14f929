-- A commit's calls from a place on.
use Rattle.std.specs.Prelude.{◌≡◌, ℕ, ◌≤◌, List, drop, filter, length, slice_get, Some, Bool, true, false}
use Rattle.uberblock_ring.specs.Devices.{has_device}
use Rattle.commit_job.specs.declared.call.CommitCall.{CommitCall}
use Rattle.commit_job.specs.declared.call.CommitCall.TheVariants.{IndexWrite, BaseSync, UberWrite, UberSync}
use Rattle.commit_job.specs.declared.plan.Meant.{Meant}
use Rattle.commit_job.specs.declared.plan.Meant.TheVariants.{All, Spread}
use Rattle.commit_job.specs.declared.plan.Plan.{Plan}
use Rattle.commit_job.specs.Stages.{device_of, plan_of}

-- A call of the whole plan is to be made.
abbrev pub is_meant : Meant → CommitCall → Bool
is_meant All call = true
is_meant (Spread page uber) (IndexWrite device part) = has_device page device
is_meant (Spread page uber) (BaseSync device) = false
is_meant (Spread page uber) (UberWrite device) = has_device uber device
is_meant (Spread page uber) (UberSync device) = true

-- all calls, meant or not
abbrev pub whole_of : Plan → List CommitCall
whole_of plan = plan_of plan.devices plan.count

-- the calls that are to be made from a place of the whole plan on
abbrev pub left_from : Plan → ℕ → List CommitCall
left_from plan place = filter (is_meant plan.meant) (drop place (whole_of plan))

-- The whole plan is of few devices and entries, and the place is in it or at its end.
pub record IsSmall (plan : Plan) (place : ℕ) : Type 0 where
  pub narrow : plan.devices ≤ 64
  pub few : plan.count ≤ 512
  pub inside : place ≤ length (whole_of plan)

-- The call at a place is to be made, where these devices are out.
pub record IsDueAt (plan : Plan) (out place : ℕ) : Type 0 where
  pub call : CommitCall
  pub there : slice_get (whole_of plan) place ≡ Some call
  pub meant : is_meant plan.meant call ≡ true
  pub in_use : has_device out (device_of call) ≡ false
