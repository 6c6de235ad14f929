-- How a `status` ends: the pool that the devices show is looked at, and its text written.
use Rattle.std.specs.Prelude.{◌≡◌, ◌≢◌, ◌⊎◌, ℕ, ◌^◌, ◌<◌, ◌≤◌}
use Rattle.bank_trait.specs.Causes.{FaultCounted}
use Rattle.bank_trait.specs.Disk.{Disk, Image, Unchanged}
use Rattle.uberblock_ring.specs.Devices.{count_of}
use Rattle.uberblock_ring.specs.Valid.{IsRightUber}
use Rattle.core_open.specs.Causes.{IsOpenCause}
use Rattle.core_open.specs.Failing.{HaveFailed}
use Rattle.core_open.specs.Holds.{HoldsImage, shape_of}
use Rattle.core_open.specs.Looking.{IsSeenIn}
use Rattle.core_open.specs.declared.sight.Look.{Look}
use Rattle.core_open.specs.declared.why.OpenWhy.{OpenWhy}
use Rattle.core_open.specs.declared.why.OpenWhy.TheVariants as reason
use Rattle.client_script.specs.Written.{IsAdded, IsPartAdded}
use Rattle.pool_status.specs.StatusText.{text_of_status}
use Rattle.raidzx_top.specs.declared.status.Status.{Status}
use Rattle.raidzx_top.specs.declared.status.Status.TheVariants as status
use Rattle.raidzx_top.specs.Call.{Stream}
use Rattle.raidzx_top.specs.Exit.{why_status}
use Rattle.raidzx_top.specs.Making.{IsSaid}
use Rattle.raidzx_top.specs.RunText.{status_line}

-- A look at the bank tells this: what the devices that answered choose, the others having failed meanwhile, and the
-- devices of the pool that are out, no more than there are parities.
pub record IsLookAt (old new : Disk) (look : Look) : Type 0 where
  pub seen : (image : Image) → HoldsImage old image → IsSeenIn (shape_of old) image look
  pub silent : HaveFailed old new look.silent
  pub right : IsRightUber look.uber
  pub few : count_of look.out ≤ look.uber.parity
  pub below : look.out < 2 ^ look.uber.reflow.to

-- Its text was written, or the sink failed on the way.
pub record WasSeen (old new : Disk) (sink sink_after : Stream) (given : Status) : Type 0 where
  pub look : Look
  pub is : IsLookAt old new look
  pub told : ((given ≡ status.Done)
      × IsAdded sink.bytes sink_after.bytes (text_of_status look.uber look.out))
      ⊎ ((given ≡ status.SinkFault) × FaultCounted sink.faults sink_after.faults
      × IsPartAdded sink.bytes sink_after.bytes (text_of_status look.uber look.out))

-- There was no pool to look at, or too many of its devices are out.
pub record WasUnseen (old new : Disk) (sink sink_after : Stream) (given : Status) : Type 0 where
  pub why : OpenWhy
  pub cause : IsOpenCause old new why
  pub no_limit : (group : ℕ) → why ≢ reason.Limit group
  pub status_is : given ≡ why_status why
  pub said : IsSaid sink.bytes sink_after.bytes sink.faults sink_after.faults (status_line given)

-- how a `status` ends: however that is, nothing but counts of faults has changed
pub record EndsStatus (old new : Disk) (sink sink_after : Stream) (given : Status) : Type 0 where
  pub unchanged : Unchanged old new
  pub ends : WasSeen old new sink sink_after given ⊎ WasUnseen old new sink sink_after given
