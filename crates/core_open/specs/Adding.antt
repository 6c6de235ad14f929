-- A bank that begins with the devices of another one.
use Rattle.std.specs.Prelude.{◌≡◌, ◌≢◌, ℕ, ◌<◌, ◌≤◌, List, Some, Contains}
use Rattle.bank_trait.specs.Disk.{Image, Disk}
use Rattle.bank_trait.specs.Regions.{Tells}
use Rattle.uberblock_ring.specs.Uberblock.{Uber}
use Rattle.core_state.specs.Shown.{Shows}
use Rattle.core_state.specs.Keeps.{Kept, Setting, IsNotOutvoted}
use Rattle.core_state.specs.Collision.{MightStand}
use Rattle.core_open.specs.Holds.{HoldsNoOther, shape_of}

-- The bank has these devices, as many sectors of each or more, and maybe further devices. What a crash leaves for
-- certain on them it leaves here too, and no sector of theirs could hold anything else.
pub record ExtendsBank (old new : Disk) : Type 0 where
  pub devices : old.devices ≤ new.devices
  pub sectors : old.sectors ≤ new.sectors
  pub leaves : (device device_sector : ℕ) (bytes : List ℕ)
      → old.leaves old.clock device device_sector ≡ Some bytes
      → new.leaves new.clock device device_sector ≡ Some bytes
  pub could : (device device_sector : ℕ) (bytes : List ℕ) → device < old.devices
      → device_sector < old.sectors → Contains (new.could new.clock device device_sector) bytes
      → Contains (old.could old.clock device device_sector) bytes

-- the same pool and devices that may fail, on this bank
abbrev pub setting_on : Setting → Disk → Setting
setting_on setting disk = record setting { shape = shape_of disk }

-- Its further devices show no uberblock of the pool, and with them too the devices that are left of this pool outvote
-- each other one. It tells what it holds, and no uberblock or page in that is another's by chance.
pub record MayBeAdded (setting : Setting) (groups : List Kept) (old new : Disk) : Type 0 where
  pub begins : ExtendsBank old new
  pub pool : setting.reach ≤ old.devices
  pub blank : (image : Image) (device : ℕ) (uber : Uber) → MightStand (shape_of new) new new.clock image
      → old.devices ≤ device → Shows (shape_of new) image device uber → uber.pool ≢ setting.pool
  pub votes : (image : Image) → MightStand (shape_of new) new new.clock image
      → IsNotOutvoted (setting_on setting new) image
  pub tells : Tells new
  pub no_other : HoldsNoOther (setting_on setting new) groups new
