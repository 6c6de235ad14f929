-- Sectors that may be written without touching what is certain.
use Rattle.std.specs.Prelude.{◌≡◌, ◌≢◌, ℕ, ◌+◌, ◌<◌, ◌≤◌, List, ◌∷◌, false, Contains}
use Rattle.block_record.specs.Page.{page_sectors}
use Rattle.uberblock_ring.specs.Devices.{has_device}
use Rattle.uberblock_ring.specs.Uberblock.{area_sector}
use Rattle.core_state.specs.Keeps.{Kept, Setting}
use Rattle.core_state.specs.Certain.{Asks}

-- The sector is no slot, holds no block of the groups, and is in no page of the first that is relied on.
pub record IsSpare (setting : Setting) (first : Kept) (later : List Kept)
    (device device_sector : ℕ) : Type 0 where
  pub ring : 32 ≤ device_sector
  pub page : device < first.uber.reflow.to → has_device setting.failed device ≡ false → (part : ℕ)
      → part < page_sectors first.uber.count
      → device_sector ≢ area_sector first.uber.area + part
  pub cells : (kept : Kept) (bytes : List ℕ) → Contains (first ∷ later) kept
      → (asks : Asks kept device device_sector bytes)
      → Contains kept.excepted (asks.cell.sector, (device, device_sector))
