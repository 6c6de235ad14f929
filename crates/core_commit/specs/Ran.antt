-- Which device calls a commit made, one by one.
use Rattle.std.specs.Prelude.{◌≡◌, ℕ, ◌+◌, ◌*◌, ◌<◌, ◌≤◌, List, [], ◌∷◌, Some, false, take, drop, slice_get, Result}
use Rattle.std.specs.Prelude.{length}
use Rattle.bank_trait.specs.declared.Failed.{Failed}
use Rattle.bank_trait.specs.Disk.{Disk, Wrote, Synced}
use Rattle.block_record.specs.declared.entry.IndexEntry.{IndexEntry}
use Rattle.block_record.specs.Page.{page_sectors, index_page}
use Rattle.uberblock_ring.specs.Devices.{has_device}
use Rattle.uberblock_ring.specs.Uberblock.{Uber, encoded, slot_of, area_sector}
use Rattle.commit_job.specs.declared.call.CommitCall.{CommitCall}
use Rattle.commit_job.specs.declared.call.CommitCall.TheVariants.{IndexWrite, BaseSync, UberWrite, UberSync}
use Rattle.commit_job.specs.Stages.{device_of, calls_left, after_next}
use Rattle.core_state.specs.Committing.{Point, Called}

-- one sector of the index page, counted from 0: 512 bytes
abbrev pub index_part : List IndexEntry → ℕ → List ℕ
index_part entries part = take 512 (drop (512 * part) (index_page entries))

-- What the bank is after a call of a commit of this uberblock, with this index.
abbrev pub HasMade : Uber → List IndexEntry → CommitCall → Disk → Disk → Result (Unit {0}) Failed
    → Type 0
HasMade uber entries (IndexWrite device part) old new result =
    Wrote old new device (area_sector uber.area + part) (index_part entries part) result
HasMade uber entries (BaseSync device) old new result = Synced old new device result
HasMade uber entries (UberWrite device) old new result =
    Wrote old new device (slot_of uber.group) (encoded uber device) result
HasMade uber entries (UberSync device) old new result = Synced old new device result

-- A call was made, and its device is out from then on where it failed.
pub record MadeOne (uber : Uber) (entries : List IndexEntry) (call : CommitCall)
    (before after : Point) : Type 0 where
  pub result : Result (Unit {0}) Failed
  pub made : HasMade uber entries call before.disk after.disk result
  pub called : Called (device_of call) result before after

-- a call, and the devices out and the disk before and after it
pub record Step : Type 0 where
  pub call : CommitCall
  pub before : Point
  pub after : Point

-- No index or base is left to be written or synced.
abbrev pub IsSigning : CommitCall → Type 0
IsSigning (UberWrite device) = Unit {0}
IsSigning (UberSync device) = Unit {0}
IsSigning other = ⊥

-- An index or a base is written or synced.
abbrev pub IsLaying : CommitCall → Type 0
IsLaying call = IsSigning call → ⊥

-- These calls were made, the last one first: each was the next one that was left.
abbrev pub RanBy : Uber → List IndexEntry → List Step → List CommitCall → Point → List CommitCall → Point
    → Type 0
RanBy uber entries [] plan point left now = (left ≡ plan) × (now ≡ point)
RanBy uber entries (step ∷ steps) plan point left now =
    (rest : List CommitCall) × RanBy uber entries steps plan point rest step.before
    × (slice_get (calls_left step.before.out rest) 0 ≡ Some step.call)
    × MadeOne uber entries step.call step.before step.after
    × (left ≡ after_next step.before.out rest) × (now ≡ step.after)

-- From a plan some calls were made.
abbrev pub Ran : Uber → List IndexEntry → List CommitCall → Point → List CommitCall → Point → Type 0
Ran uber entries plan point left now =
    (steps : List Step) × RanBy uber entries steps plan point left now

-- A call is to a device and sector that are there.
abbrev pub IsCallInPool : Uber → CommitCall → Type 0
IsCallInPool uber (IndexWrite device part) =
    (device < uber.reflow.to) × (part < page_sectors uber.count)
IsCallInPool uber call = device_of call < uber.reflow.to

-- The uberblock and its index can be written on this bank: it has each device that isn't out.
pub record FitsBank (uber : Uber) (entries : List IndexEntry) (out : ℕ) (disk : Disk) : Type 0 where
  pub devices : (device : ℕ) → device < uber.reflow.to → has_device out device ≡ false
      → device < disk.devices
  pub few : uber.reflow.to ≤ 16
  pub sectors : 192 ≤ disk.sectors
  pub area : uber.area ≤ 1
  pub counted : length entries ≡ uber.count
  pub count : uber.count ≤ 512
