-- A bank that holds what a stop left, and nothing else.
use Rattle.std.specs.Prelude.{◌≡◌, ◌⊎◌, ℕ, ◌<◌, ◌≤◌, [], Contains}
use Rattle.bank_trait.specs.Disk.{Image, Disk, MayLeave}
use Rattle.core_state.specs.Shown.{Shape}
use Rattle.core_open.specs.Holds.{HoldsImage, shape_of}

-- Two images have the same bytes on each sector of a bank of this shape.
pub record SameOn (shape : Shape) (one other : Image) : Type 0 where
  pub at : (device device_sector : ℕ) → device < shape.devices → device_sector < shape.sectors
      → one device device_sector ≡ other device device_sector

-- The image is that of a bank of this shape: where the bank has no sector it has no bytes.
pub record IsImageOf (shape : Shape) (image : Image) : Type 0 where
  pub outside : (device device_sector : ℕ)
      → (shape.devices ≤ device) ⊎ (shape.sectors ≤ device_sector)
      → image device device_sector ≡ []

-- The bank holds this image alone: its sectors have the image's bytes, could hold those, and a crash now leaves no
-- others there.
pub record HoldsAlone (disk : Disk) (image : Image) : Type 0 where
  pub holds : HoldsImage disk image
  pub could : (device device_sector : ℕ) → device < disk.devices → device_sector < disk.sectors
      → Contains (disk.could disk.clock device device_sector) (image device device_sector)
  pub leaves : (left : Image) → MayLeave disk left → SameOn (shape_of disk) left image
