-- What an opening found, and why it found nothing.
use Rattle.std.specs.Prelude.{◌≡◌, ◌≢◌, ℕ, ◌+◌, ◌^◌, ◌<◌, ◌≤◌, List, [], true, false, ⊤}
use Rattle.bank_trait.specs.Disk.{Image, Disk}
use Rattle.block_record.specs.declared.entry.IndexEntry.{IndexEntry}
use Rattle.uberblock_ring.specs.Devices.{has_device}
use Rattle.uberblock_ring.specs.Uberblock.{Uber}
use Rattle.core_state.specs.Map.{Map}
use Rattle.core_state.specs.Shown.{Shape, IsCandidate}
use Rattle.core_state.specs.Choosing.{IsChosen, IsNotPool}
use Rattle.core_state.specs.Opening.{Found as FoundOf, AreOut, LackUber}
use Rattle.core_open.specs.declared.finding.Found.{Found}
use Rattle.core_open.specs.declared.why.OpenWhy.{OpenWhy}
use Rattle.core_open.specs.declared.why.OpenWhy.TheVariants.{NotPool, TooManyFailed, Limit, NoMemory}
use Rattle.core_open.specs.Failing.{HaveFailed}
use Rattle.core_open.specs.Holds.{HoldsImage, shape_of}
use Rattle.core_open.specs.Lacking.{HasAllBut}

-- what was read of the image and chosen, with the map of the chosen group
abbrev pub found_of : Shape → Image → Found → Map → FoundOf
found_of shape image found map = record {
  shape = shape;
  silent = found.silent;
  image = image;
  chosen = record { uber = found.uber; entries = found.entries.items; others = []; map = map; excepted = [] };
}

-- The device shows a candidate of the uberblock's pool and group.
abbrev pub ShowsTwin : Shape → ℕ → Image → Uber → ℕ → Type 0
ShowsTwin shape silent image uber device = (twin : Uber) × (entries : List IndexEntry)
    × IsCandidate shape silent uber.pool image device twin entries × (twin.group ≡ uber.group)

-- It is what the devices that answered had to be opened with: of the devices in use each shows the
-- chosen group or is listed as lacking it.
pub record IsFoundIn (shape : Shape) (image : Image) (found : Found) : Type 0 where
  pub chosen : IsChosen shape found.silent image found.device found.uber found.entries.items
  pub out : (map : Map) → AreOut (found_of shape image found map) found.out
  pub lacks_uber : (map : Map)
      → LackUber (found_of shape image found map) found.out found.lacks_uber
  pub shows : (device : ℕ) → device < found.uber.reflow.to → has_device found.out device ≡ false
      → has_device found.lacks_uber device ≡ false
      → ShowsTwin shape found.silent image found.uber device

-- Whatever the bank tells, an opening may go on with what was found: the data rows are on the
-- devices, each device in use is one of the bank's that didn't fail, and those that are out are
-- devices of the pool.
pub record FitsOpening (disk : Disk) (found : Found) : Type 0 where
  pub room : 192 + found.uber.reflow.rows ≤ disk.sectors
  pub devices : HasAllBut disk found.uber.reflow.to found.out
  pub below : found.out < 2 ^ found.uber.reflow.to
  pub silent : (device : ℕ) → device < found.uber.reflow.to
      → has_device found.silent device ≡ true → has_device found.out device ≡ true

-- Nothing is there to open, and these devices failed.
abbrev pub IsNothingFound : ℕ → OpenWhy → Type 0
IsNothingFound silent NotPool = silent ≡ 0
IsNothingFound silent (TooManyFailed out) = (out ≡ silent) × (silent ≢ 0)
IsNothingFound silent (Limit group) = ⊥
IsNothingFound silent NoMemory = ⊥

-- No device failed, or those did that are named; and the others show nothing to open.
abbrev pub IsFindCause : Disk → Disk → OpenWhy → Type 0
IsFindCause old new NotPool = (image : Image) → HoldsImage old image
    → IsNotPool (shape_of old) 0 image
IsFindCause old new (TooManyFailed out) = (out ≢ 0) × HaveFailed old new out
    × ((image : Image) → HoldsImage old image → IsNotPool (shape_of old) out image)
IsFindCause old new (Limit group) = ⊥
IsFindCause old new NoMemory = ⊤
