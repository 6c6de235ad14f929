-- What is known of a commit that a device may join, between two of its steps.
use Rattle.std.specs.Prelude.{◌≡◌, ◌⊎◌, ℕ, ◌+◌, ◌<◌, ◌≤◌, Some, IsSome, false}
use Rattle.bank_trait.specs.Disk.{Disk, Later}
use Rattle.block_record.specs.Page.{page_sectors}
use Rattle.uberblock_ring.specs.Devices.{has_device}
use Rattle.uberblock_ring.specs.Uberblock.{area_sector}
use Rattle.core_state.specs.Keeps.{Kept, Setting}
use Rattle.core_state.specs.Certain.{able}
use Rattle.core_state.specs.Committing.{Point, page_part}
use Rattle.core_state.specs.Rings.{ReadsNoUber}
use Rattle.core_commit.specs.declared.commit_run.Stage.TheVariants.{Lays}
use Rattle.core_commit.specs.CommitTurns.{IsCommitting}
use Rattle.core_commit.specs.Widening.{IsWidenable, MayJoin}
use Rattle.core_commit.specs.declared.guest.Guest.{Guest}
use Rattle.core_commit.specs.declared.guest.Guest.TheVariants.{Laid, Settled, Lost}
use Rattle.core_commit.specs.JoinRun.{JoinRun}

-- A device shows no uberblock, tells what it reads up to the data rows, and reads so many sectors of a group's page.
pub record ReadsParts (disk : Disk) (next : Kept) (device parts : ℕ) : Type 0 where
  pub blank : ReadsNoUber disk device
  pub told : (device_sector : ℕ) → device_sector < 192 → IsSome (disk.reads device device_sector)
  pub page : (part : ℕ) → part < parts → part < page_sectors next.uber.count
      → disk.reads device (area_sector next.uber.area + part) ≡ Some (page_part next part)

-- The device has come so far: it reads what was written to it, and may join once it is synced. Of one that is lost
-- nothing is said.
abbrev pub GuestSoFar : Disk → Kept → ℕ → Guest → Type 0
GuestSoFar disk next device (Laid parts) = ReadsParts disk next device parts
GuestSoFar disk next device Settled = MayJoin disk next device
GuestSoFar disk next device Lost = Unit {0}

-- The commit is in its first half, and the device behind the pool's, which may join it, has come so far.
pub record IsJoining (setting : Setting) (first next : Kept) (join : JoinRun) (point : Point) : Type 0 where
  pub pool : IsWidenable setting first next
  pub lays : join.run.stage ≡ Lays
  pub commits : IsCommitting setting first next join.run point
  pub guest : GuestSoFar point.disk next setting.reach join.guest

-- What a device reads up to the data rows, and what its ring could hold, is as it was.
pub record LeavesHead (device : ℕ) (old new : Disk) : Type 0 where
  pub reads : (device_sector : ℕ) → device_sector < 192
      → new.reads device device_sector ≡ old.reads device device_sector
  pub could : (slot : ℕ) → slot < 32 → able new device slot ≡ able old device slot

-- Outside the rings and the index areas each device of the pool that is still in use reads what it read, and nothing
-- is forgotten of earlier moments.
pub record SparesPool (width : ℕ) (before after : Point) : Type 0 where
  pub later : Later before.disk after.disk
  pub reads : (device device_sector : ℕ) → device < width → has_device after.out device ≡ false
      → ((32 ≤ device_sector) × (device_sector < 64)) ⊎ (192 ≤ device_sector)
      → after.disk.reads device device_sector ≡ before.disk.reads device device_sector
