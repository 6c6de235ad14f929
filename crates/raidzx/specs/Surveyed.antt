-- What a survey of the images says of the pool.
use Rattle.std.specs.Prelude.{◌≡◌, ◌⊎◌, ℕ, ◌<◌, ◌≤◌, Bool, false}
use Rattle.bank_trait.specs.Disk.{Disk, Image}
use Rattle.uberblock_ring.specs.Devices.{count_of}
use Rattle.core_open.specs.declared.finding.Found.{Found}
use Rattle.core_open.specs.Failing.{HaveFailed}
use Rattle.core_open.specs.Finding.{IsFoundIn}
use Rattle.core_open.specs.Holds.{HoldsImage, shape_of}
use Rattle.raidzx.specs.declared.door.Pool.{Pool}
use Rattle.raidzx.specs.declared.door.Pool.TheVariants.{Chosen}
use Rattle.raidzx.specs.declared.door.Survey.{Survey}
use Rattle.raidzx.specs.declared.standing.Known.{Known}
use Rattle.raidzx.specs.ForGood.{ChooseNone}
use Rattle.raidzx.specs.Places.{AreListed}
use Rattle.raidzx.specs.PlainlyWell.{IsPlainlyWell}

-- What is known of the pool is what was found on so many devices, of which few enough are out.
pub record IsPoolOf (found : Found) (devices : ℕ) (survey : Survey) (known : Known) : Type 0 where
  pub named : known.named ≡ devices
  pub uber : known.uber ≡ found.uber
  pub out : known.out ≡ found.out
  pub few : count_of found.out ≤ found.uber.parity
  pub listed : AreListed survey.sightings.list.items found.uber known.listed
  pub entries : survey.entries.items ≡ found.entries.items

-- It is what an opening finds in all that the bank holds.
pub record IsPoolFound (old new : Disk) (survey : Survey) (known : Known) : Type 0 where
  pub found : Found
  pub is : IsPoolOf found old.devices survey known
  pub silent : HaveFailed old new found.silent
  pub chosen : (image : Image) → HoldsImage old image → IsFoundIn (shape_of old) image found

-- The pool that is told as chosen is the one that an opening finds.
abbrev pub FindsPool : Disk → Disk → Survey → Type 0
FindsPool old new survey = (known : Known) → survey.pool ≡ Chosen known → IsPoolFound old new survey known

-- An opening finds a pool of which too many devices are out.
pub record FindsTooManyOut (old new : Disk) (image : Image) : Type 0 where
  pub found : Found
  pub silent : HaveFailed old new found.silent
  pub chosen : IsFoundIn (shape_of old) image found
  pub many : found.uber.parity < count_of found.out

-- An opening finds none, or one of which too many devices are out.
abbrev pub FindsNoneToOpen : Disk → Disk → Type 0
FindsNoneToOpen old new = (image : Image) → HoldsImage old image
    → ChooseNone old new image ⊎ FindsTooManyOut old new image

-- No pool is told as chosen.
abbrev pub ToldAsNone : Pool → Type 0
ToldAsNone pool = (known : Known) → pool ≡ Chosen known → ⊥

-- Where no pool is told as chosen, an opening finds none that it opens, or not everything was asked for and the images
-- are plainly well.
abbrev pub FindsNone : Disk → Disk → Bool → Survey → Type 0
FindsNone old new asks_all survey = ToldAsNone survey.pool
    → ((asks_all ≡ false) × IsPlainlyWell survey.sightings old.devices) ⊎ FindsNoneToOpen old new
