-- What a bank holds, as an image.
use Rattle.std.specs.Prelude.{◌≡◌, ℕ, ◌<◌, List, Some}
use Rattle.bank_trait.specs.Disk.{Image, Disk}
use Rattle.core_state.specs.Shown.{Shape}
use Rattle.core_state.specs.Keeps.{Kept, Setting}
use Rattle.core_state.specs.Collision.{HasNoOtherUber, HasNoOtherPage}

abbrev pub shape_of : Disk → Shape
shape_of disk = record { devices = disk.devices; sectors = disk.sectors }

-- The sectors of the bank hold what the image has.
pub record HoldsImage (disk : Disk) (image : Image) : Type 0 where
  pub each : (device device_sector : ℕ) → device < disk.devices → device_sector < disk.sectors
      → disk.reads device device_sector ≡ Some (image device device_sector)

-- No uberblock in what the bank holds is one that its slot was not handed, and no page in it is by chance one of these
-- groups'.
pub record HoldsNoOther (setting : Setting) (groups : List Kept) (disk : Disk) : Type 0 where
  pub ubers : (image : Image) → HoldsImage disk image → HasNoOtherUber setting.shape disk disk.clock image
  pub pages : (image : Image) → HoldsImage disk image → HasNoOtherPage setting groups image
