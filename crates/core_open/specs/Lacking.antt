-- Which devices in use lack an index page.
use Rattle.std.specs.Prelude.{◌≡◌, ℕ, ◌<◌, List, Bool, true, false}
use Rattle.bank_trait.specs.Disk.{Image, Disk}
use Rattle.block_record.specs.declared.entry.IndexEntry.{IndexEntry}
use Rattle.uberblock_ring.specs.Devices.{has_device}
use Rattle.uberblock_ring.specs.Uberblock.{Uber}
use Rattle.core_state.specs.Shown.{Gives}
use Rattle.core_open.specs.Holds.{HoldsImage, shape_of}
use Rattle.core_open.specs.Pages.{IsGivenPage}

-- The bank has each device below the width but those in the set.
abbrev pub HasAllBut : Disk → ℕ → ℕ → Type 0
HasAllBut disk width devices =
    (device : ℕ) → device < width → has_device devices device ≡ false → device < disk.devices

-- No image that the bank holds gives the page of these entries on the device.
pub record LacksPage (disk : Disk) (uber : Uber) (device : ℕ) (entries : List IndexEntry) :
    Type 0 where
  pub none : (image : Image) → HoldsImage disk image
      → Gives (shape_of disk) image uber entries device → ⊥

-- The device gives the page of these entries; of the pool's before it each that isn't silent lacks it.
pub record IsFirstGiver (disk : Disk) (silent : ℕ) (uber : Uber) (entries : List IndexEntry)
    (giver : ℕ) : Type 0 where
  pub gives : IsGivenPage disk uber giver entries
  pub before : (device : ℕ) → device < giver → device < uber.reflow.to
      → has_device silent device ≡ false → LacksPage disk uber device entries

-- The device gives the page of these entries, or it lacks it.
abbrev pub GivesOrLacks : Disk → Uber → ℕ → List IndexEntry → Bool → Type 0
GivesOrLacks disk uber device entries true = IsGivenPage disk uber device entries
GivesOrLacks disk uber device entries false = LacksPage disk uber device entries

-- Of the devices below the width that aren't out, the set has those that lack the page of these
-- entries; the others give it.
pub record AreLacking (disk : Disk) (uber : Uber) (entries : List IndexEntry)
    (width out devices : ℕ) : Type 0 where
  pub in_use : (device : ℕ) → has_device devices device ≡ true
      → (device < width) × (has_device out device ≡ false)
  pub lack : (device : ℕ) → has_device devices device ≡ true → LacksPage disk uber device entries
  pub give : (device : ℕ) → device < width → has_device out device ≡ false
      → has_device devices device ≡ false → IsGivenPage disk uber device entries
