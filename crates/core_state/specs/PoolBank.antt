-- The bank that a pool stands on.
use Rattle.std.specs.Prelude.{◌≡◌, ℕ, ◌+◌, ◌<◌, ◌≤◌, false}
use Rattle.bank_trait.specs.Disk.{Disk}
use Rattle.width_map.specs.Place.{first_data_sector}
use Rattle.reflow_mark.specs.declared.reflow.Reflow.{Reflow}
use Rattle.uberblock_ring.specs.Devices.{has_device}

-- The bank has the devices of the pool, but for some that are out, and its data rows.
pub record HasPool (reflow : Reflow) (out : ℕ) (disk : Disk) : Type 0 where
  pub devices : (device : ℕ) → device < reflow.to → has_device out device ≡ false
      → device < disk.devices
  pub sectors : first_data_sector + reflow.rows ≤ disk.sectors
