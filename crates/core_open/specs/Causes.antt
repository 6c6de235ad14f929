-- Why a pool is not opened.
use Rattle.std.specs.Prelude.{◌≡◌, ◌⊎◌, ℕ, ◌+◌, ◌<◌, List, true, ⊤}
use Rattle.bank_trait.specs.Causes.{FaultCounted}
use Rattle.bank_trait.specs.Disk.{Image, Disk}
use Rattle.block_record.specs.declared.entry.IndexEntry.{IndexEntry}
use Rattle.uberblock_ring.specs.Devices.{has_device, count_of, IsWithin}
use Rattle.uberblock_ring.specs.Uberblock.{Uber, max_group}
use Rattle.core_state.specs.Shown.{Shape}
use Rattle.core_state.specs.Choosing.{IsChosen, IsOutAtOpening}
use Rattle.core_open.specs.declared.why.OpenWhy.{OpenWhy}
use Rattle.core_open.specs.declared.why.OpenWhy.TheVariants.{NotPool, TooManyFailed, Limit, NoMemory}
use Rattle.core_open.specs.Failing.{HaveFailed}
use Rattle.core_open.specs.Finding.{IsFindCause}
use Rattle.core_open.specs.Holds.{HoldsImage, shape_of}

-- what the devices choose but for the silent ones
pub record IsChoiceWithout (shape : Shape) (silent : ℕ) (image : Image) : Type 0 where
  pub device : ℕ
  pub uber : Uber
  pub entries : List IndexEntry
  pub chosen : IsChosen shape silent image device uber entries

-- what the devices that answered choose, where those that didn't failed in this call
pub record IsShownChoice (old new : Disk) (image : Image) : Type 0 where
  pub silent : ℕ
  pub failed : HaveFailed old new silent
  pub choice : IsChoiceWithout (shape_of old) silent image

-- The device was out at opening by that choice, or failed in this call.
abbrev pub IsOutFor : (old new : Disk) → {silent : ℕ} → {image : Image}
    → IsChoiceWithout (shape_of old) silent image → ℕ → Type 0
IsOutFor old new {silent = silent} {image = image} choice device =
    IsOutAtOpening (shape_of old) silent image choice.uber device
    ⊎ FaultCounted (old.faults device) (new.faults device)

-- Each of these devices was.
abbrev pub AreOutFor : (old new : Disk) → {silent : ℕ} → {image : Image}
    → IsChoiceWithout (shape_of old) silent image → ℕ → Type 0
AreOutFor old new choice devices =
    (device : ℕ) → has_device devices device ≡ true → IsOutFor old new choice device

-- More devices than the parity are listed, each out at opening or failed in this call.
pub record AreTooMany (old new : Disk) (image : Image) (listed : ℕ) : Type 0 where
  pub shown : IsShownChoice old new image
  pub many : shown.choice.uber.parity < count_of listed
  pub each : AreOutFor old new shown.choice listed

-- But for the silent ones the devices choose a group of this width and parity; and each of these devices
-- was out at opening then, or failed in this call.
pub record AreOutIn (old new : Disk) (silent width parity devices : ℕ) (image : Image) : Type 0 where
  pub choice : IsChoiceWithout (shape_of old) silent image
  pub width_is : choice.uber.reflow.to ≡ width
  pub parity_is : choice.uber.parity ≡ parity
  pub each : AreOutFor old new choice devices

-- The devices that are out of a pool that was opened with this uberblock, by the choice without the silent
-- ones: each has its reason, and the uberblock lists no other.
pub record AreOutOf (old new : Disk) (silent : ℕ) (uber : Uber) (out : ℕ) : Type 0 where
  pub lists : IsWithin uber.out out
  pub each : (image : Image) → HoldsImage old image
      → AreOutIn old new silent uber.reflow.to uber.parity out image

-- Nothing was found; or the chosen group is too near the greatest; or too many devices are out. What
-- speaks of contents is said of each image that the bank holds.
abbrev pub IsOpenCause : Disk → Disk → OpenWhy → Type 0
IsOpenCause old new NotPool = IsFindCause old new NotPool
IsOpenCause old new (TooManyFailed out) = IsFindCause old new (TooManyFailed out)
    ⊎ ((image : Image) → HoldsImage old image → AreTooMany old new image out)
IsOpenCause old new (Limit group) = (image : Image) → HoldsImage old image
    → (shown : IsShownChoice old new image) × (max_group < shown.choice.uber.group + 2)
IsOpenCause old new NoMemory = ⊤
