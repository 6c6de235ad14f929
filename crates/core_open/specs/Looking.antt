-- What a look at a pool tells, and when nothing but memory may be exhausted to it.
use Rattle.std.specs.Prelude.{◌≡◌, ◌↔◌, ℕ, List, true}
use Rattle.bank_trait.specs.Disk.{Image, Disk}
use Rattle.block_record.specs.declared.entry.IndexEntry.{IndexEntry}
use Rattle.uberblock_ring.specs.Devices.{has_device}
use Rattle.core_state.specs.Shown.{Shape}
use Rattle.core_state.specs.Choosing.{IsChosen, IsOutAtOpening}
use Rattle.core_state.specs.Keeps.{Kept, Setting}
use Rattle.core_open.specs.declared.sight.Look.{Look}
use Rattle.core_open.specs.declared.why.OpenWhy.{OpenWhy}
use Rattle.core_open.specs.declared.why.OpenWhy.TheVariants as reason
use Rattle.core_open.specs.Opens.{IsInSight}

-- It is the uberblock that the devices which answered choose, on some device and with some index, and
-- exactly the devices that are out at opening then.
pub record IsSeenIn (shape : Shape) (image : Image) (look : Look) : Type 0 where
  pub device : ℕ
  pub entries : List IndexEntry
  pub chosen : IsChosen shape look.silent image device look.uber entries
  pub out : (other : ℕ) → has_device look.out other ≡ true
      ↔ IsOutAtOpening shape look.silent image look.uber other

-- Where nothing hinders a look, nothing but memory may be exhausted.
abbrev pub IsLookForMemory : Disk → Disk → OpenWhy → Type 0
IsLookForMemory old new why = (setting : Setting) (first : Kept) (later : List Kept)
    → IsInSight setting first later old new
    → why ≡ reason.NoMemory
