-- What a commit leaves alone, and which devices go out in it.
use Rattle.std.specs.Prelude.{◌≡◌, ◌≢◌, ◌⊎◌, ℕ, ◌+◌, ◌<◌, ◌≤◌, true, false}
use Rattle.bank_trait.specs.Causes.{FaultCounted}
use Rattle.bank_trait.specs.Disk.{Later}
use Rattle.bank_trait.specs.Regions.{TouchesOnly}
use Rattle.block_record.specs.Page.{page_sectors}
use Rattle.uberblock_ring.specs.Devices.{has_device, count_of, IsWithin}
use Rattle.uberblock_ring.specs.Uberblock.{Uber, slot_of, area_sector}
use Rattle.core_state.specs.Committing.{Point}

-- Devices go out and stay out, each for a call that failed on it; the group lists those that were out
-- before and no more than are out now.
pub record HaveGoneOut (before : Point) (listed : ℕ) (after : Point) : Type 0 where
  pub earlier : IsWithin before.out listed
  pub stay : IsWithin listed after.out
  pub each : (device : ℕ) → has_device after.out device ≡ true
      → (has_device before.out device ≡ true)
      ⊎ FaultCounted (before.disk.faults device) (after.disk.faults device)

-- Outside the rings and the index areas each device still in use reads what it read, and nothing is
-- forgotten of earlier moments.
pub record SparesData (before after : Point) : Type 0 where
  pub later : Later before.disk after.disk
  pub reads : (device device_sector : ℕ) → has_device after.out device ≡ false
      → ((32 ≤ device_sector) × (device_sector < 64)) ⊎ (192 ≤ device_sector)
      → after.disk.reads device device_sector ≡ before.disk.reads device device_sector

-- the sectors of a pool's devices that are in use
abbrev pub IsOnInUse : ℕ → ℕ → ℕ → ℕ → Type 0
IsOnInUse width out device device_sector = (device < width) × (has_device out device ≡ false)

-- A sector is neither in the slot of the group nor in its index page.
abbrev pub IsElsewhere : Uber → ℕ → Type 0
IsElsewhere uber device_sector = (device_sector ≢ slot_of uber.group)
    × ((part : ℕ) → part < page_sectors uber.count → device_sector ≢ area_sector uber.area + part)

-- No device is touched but those of the pool that were in use, at each moment, and none comes back; each
-- one still in use reads what it read but in the slot and the index page of the group.
pub record TouchesGroup (uber : Uber) (before after : Point) : Type 0 where
  pub only : TouchesOnly (IsOnInUse uber.reflow.to before.out) before.disk after.disk
  pub stay : IsWithin before.out after.out
  pub reads : (device device_sector : ℕ) → has_device after.out device ≡ false
      → IsElsewhere uber device_sector
      → after.disk.reads device device_sector ≡ before.disk.reads device device_sector

-- Nothing is called where more devices are out than there are parities, and no more go out than the first
-- one too many.
pub record StopsInTime (parity : ℕ) (before after : Point) : Type 0 where
  pub none : parity < count_of before.out → after ≡ before
  pub last : count_of before.out ≤ parity → count_of after.out ≤ parity + 1
