-- What each step of a commit does that a new device may join.
use Rattle.std.specs.Prelude.{◌≡◌, ◌≢◌, ◌⊎◌, ℕ, ◌+◌, ◌^◌, ◌<◌, ◌≤◌, Option, Some, None, true, false, Result, Ok, Err}
use Rattle.std.specs.Prelude.{slice_get, if◌then◌else◌, nat_lt}
use Rattle.bank_trait.specs.declared.Failed.{Failed}
use Rattle.bank_trait.specs.Disk.{Disk, Synced, Wrote}
use Rattle.block_record.specs.Page.{page_sectors}
use Rattle.uberblock_ring.specs.Devices.{has_device}
use Rattle.uberblock_ring.specs.Uberblock.{area_sector}
use Rattle.commit_job.specs.declared.call.CommitCall.{CommitCall}
use Rattle.commit_job.specs.declared.call.CommitCall.TheVariants.{IndexWrite}
use Rattle.commit_job.specs.Stages.{calls_left}
use Rattle.core_state.specs.Committing.{Point}
use Rattle.core_commit.specs.declared.commit_run.CommitStep.{CommitStep}
use Rattle.core_commit.specs.Ran.{FitsBank, IsLaying, IsSigning, index_part}
use Rattle.core_commit.specs.CommitTurns.{CommitRun, CommitSteps, HasCalled}
use Rattle.core_commit.specs.Widening.{widened_run, widened_uber}
use Rattle.core_commit.specs.declared.guest.Guest.{Guest}
use Rattle.core_commit.specs.declared.guest.Guest.TheVariants.{Laid, Settled, Lost}
use Rattle.core_commit.specs.declared.guest.JoinTurn.{JoinTurn}
use Rattle.core_commit.specs.declared.guest.JoinTurn.TheVariants.{PoolCall, GuestWrite, GuestSync, Decision}
use Rattle.core_commit.specs.declared.join_run.JoinStep.{JoinStep}
use Rattle.core_commit.specs.declared.join_run.JoinStep.TheVariants.{GoesOn, Joined, Dropped}
use Rattle.core_commit.specs.declared.join_run.WhyDropped.{WhyDropped}
use Rattle.core_commit.specs.declared.join_run.WhyDropped.TheVariants.{NewDeviceFailed, DeviceOut}
use Rattle.core_commit.specs.JoinRun.{JoinRun}

-- the next of so many sectors of the index page that the device is still to be laid
abbrev pub part_left : Guest → ℕ → Option ℕ
part_left (Laid parts) sectors = if nat_lt parts sectors then Some parts else None
part_left Settled sectors = None
part_left Lost sectors = None

-- A sector of the index page is written.
abbrev pub IsPageWrite : CommitCall → Type 0
IsPageWrite (IndexWrite device part) = Unit {0}
IsPageWrite other = ⊥

-- Nothing is left of the pool's first half.
abbrev pub IsLaidBy : Option CommitCall → Type 0
IsLaidBy next = (call : CommitCall) → next ≡ Some call → IsSigning call

-- What comes next: pages before syncs, and of each the pool's calls before those on the device; then the decision.
abbrev pub IsNextTurn : Option CommitCall → Guest → ℕ → JoinTurn → Type 0
IsNextTurn next guest sectors PoolCall = (call : CommitCall) × (next ≡ Some call) × IsLaying call
    × (IsPageWrite call ⊎ (part_left guest sectors ≡ None))
IsNextTurn next guest sectors (GuestWrite part) = (guest ≡ Laid part) × (part < sectors)
    × ((call : CommitCall) → next ≡ Some call → IsPageWrite call → ⊥)
IsNextTurn next guest sectors GuestSync = (parts : ℕ) × (guest ≡ Laid parts) × (sectors ≤ parts) × IsLaidBy next
IsNextTurn next guest sectors Decision = ((guest ≡ Settled) ⊎ (guest ≡ Lost)) × IsLaidBy next

abbrev pub IsNextTurnOf : JoinRun → ℕ → JoinTurn → Type 0
IsNextTurnOf join out turn =
    IsNextTurn (slice_get (calls_left out join.run.calls) 0) join.guest (page_sectors join.run.uber.count) turn

-- The pool's next call was made, and the device is left alone.
pub record HasCalledPool (old : JoinRun) (before : Point) (new : JoinRun) (after : Point) : Type 0 where
  pub turn : IsNextTurnOf old before.out PoolCall
  pub called : HasCalled old.run before new.run after
  pub same : new.guest ≡ old.guest

-- how far the device has come after a call on it
abbrev pub guest_after : Result (Unit {0}) Failed → Guest → Guest
guest_after (Ok value) guest = guest
guest_after (Err failed) guest = Lost

-- A sector of the index page was written to the device, and nobody is out for it.
pub record HasLaidGuest (old : JoinRun) (before : Point) (new : JoinRun) (after : Point) : Type 0 where
  pub part : ℕ
  pub turn : IsNextTurnOf old before.out (GuestWrite part)
  pub result : Result (Unit {0}) Failed
  pub wrote : Wrote before.disk after.disk old.run.uber.reflow.to (area_sector old.run.uber.area + part)
      (index_part old.run.entries part) result
  pub new_is : new ≡ record { run = old.run; guest = guest_after result (Laid (part + 1)) }
  pub out : after.out ≡ before.out

-- The device was synced, and nobody is out for it.
pub record HasSyncedGuest (old : JoinRun) (before : Point) (new : JoinRun) (after : Point) : Type 0 where
  pub turn : IsNextTurnOf old before.out GuestSync
  pub result : Result (Unit {0}) Failed
  pub synced : Synced before.disk after.disk old.run.uber.reflow.to result
  pub new_is : new ≡ record { run = old.run; guest = guest_after result Settled }
  pub out : after.out ≡ before.out

-- The device has joined: it is synced and no device of the pool is out. The group's second half has begun with it.
pub record HasJoined (old : JoinRun) (before : Point) (run : CommitRun) (after : Point) : Type 0 where
  pub turn : IsNextTurnOf old before.out Decision
  pub synced : old.guest ≡ Settled
  pub whole : before.out ≡ 0
  pub result : CommitStep
  pub steps : CommitSteps (widened_run old.run) before run after result

-- A call on the device failed; or this device of the pool is out, and none below it.
abbrev pub IsWhy : Guest → ℕ → ℕ → WhyDropped → Type 0
IsWhy guest device out (NewDeviceFailed failed) = (guest ≡ Lost) × (failed ≡ device)
IsWhy guest device out (DeviceOut lowest) = (guest ≢ Lost) × (has_device out lowest ≡ true)
    × ((other : ℕ) → other < lowest → has_device out other ≡ false)

-- The device has not joined, and the group's second half has begun without it.
pub record HasDropped (old : JoinRun) (before : Point) (run : CommitRun) (why : WhyDropped) (after : Point) :
    Type 0 where
  pub turn : IsNextTurnOf old before.out Decision
  pub because : IsWhy old.guest old.run.uber.reflow.to before.out why
  pub result : CommitStep
  pub steps : CommitSteps old.run before run after result

-- what a step does to the commit and to the devices
abbrev pub JoinSteps : JoinRun → Point → JoinStep → Point → Type 0
JoinSteps old before (GoesOn new) after =
    HasCalledPool old before new after ⊎ (HasLaidGuest old before new after ⊎ HasSyncedGuest old before new after)
JoinSteps old before (Joined run) after = HasJoined old before run after
JoinSteps old before (Dropped run why) after = HasDropped old before run why after

-- The group can be written on the bank, to the pool's devices that are in use and to the one behind them.
pub record FitsJoin (join : JoinRun) (out : ℕ) (disk : Disk) : Type 0 where
  pub bank : FitsBank (widened_uber join.run.uber) join.run.entries out disk
  pub below : out < 2 ^ join.run.uber.reflow.to

-- The second half can be written on the bank.
pub record FitsRun (run : CommitRun) (out : ℕ) (disk : Disk) : Type 0 where
  pub bank : FitsBank run.uber run.entries out disk
  pub below : out < 2 ^ run.uber.reflow.to

abbrev pub FitsStep : JoinStep → ℕ → Disk → Type 0
FitsStep (GoesOn new) out disk = FitsJoin new out disk
FitsStep (Joined run) out disk = FitsRun run out disk
FitsStep (Dropped run why) out disk = FitsRun run out disk
