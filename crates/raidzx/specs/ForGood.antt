-- Which devices a run's last group lists as out.
use Rattle.std.specs.Prelude.{◌≡◌, ◌⊎◌, ℕ, ◌<◌, ◌==◌, if◌then◌else◌, List, length, Option, Some, None}
use Rattle.bank_trait.specs.Disk.{Image, Disk}
use Rattle.uberblock_ring.specs.Uberblock.{Uber}
use Rattle.core_state.specs.declared.item.Group.{Group as GroupItem}
use Rattle.core_state.specs.declared.item.Item.{Item}
use Rattle.core_state.specs.Choosing.{IsNotPool}
use Rattle.core_state.specs.Legal.{GroupAt, IsGroupBefore}
use Rattle.core_open.specs.Causes.{IsShownChoice}
use Rattle.core_open.specs.Failing.{HaveFailed}
use Rattle.core_open.specs.Holds.{HoldsImage, shape_of}
use Rattle.raidzx.specs.Rings.{ShowsNoneOut}

-- The last of the groups that a journal lists before this index has this number, or there is none.
abbrev pub IsLastBefore : List Item → ℕ → Option ℕ → Type 0
IsLastBefore items index (Some number) =
    (group : GroupItem) × IsGroupBefore items index group × (group.group ≡ number)
IsLastBefore items index None = (place : ℕ) (group : GroupItem) → place < index
    → GroupAt items place group → ⊥

-- Each device shows the group, and that it lists none as out.
abbrev pub AllShowNoneOut : Disk → ℕ → Type 0
AllShowNoneOut disk group = (device : ℕ) → device < disk.devices → ShowsNoneOut disk group device

-- the devices that an uberblock lists as out, where it is one of this group
abbrev pub out_of_group : ℕ → Uber → ℕ
out_of_group group uber = if uber.group == group then uber.out else 0

-- The devices that answered show nothing to open.
pub record ChooseNone (old new : Disk) (image : Image) : Type 0 where
  pub silent : ℕ
  pub failed : HaveFailed old new silent
  pub none : IsNotPool (shape_of old) silent image

-- None are out where each device shows that, or where the devices that answered choose nothing, or another group than
-- this one. Else they are those that the chosen uberblock lists.
abbrev pub AreListedOut : Disk → Disk → Image → ℕ → ℕ → Type 0
AreListedOut old new image group out =
    ((shown : IsShownChoice old new image) × (out ≡ out_of_group group shown.choice.uber))
    ⊎ ((out ≡ 0) × (AllShowNoneOut old group ⊎ ChooseNone old new image))

-- They are those that the last group of the journal lists as out, as each image has it that the bank holds; none where
-- there is no group.
abbrev pub AreOutByLast : Disk → Disk → Option ℕ → ℕ → Type 0
AreOutByLast old new None out = out ≡ 0
AreOutByLast old new (Some group) out = (image : Image) → HoldsImage old image
    → AreListedOut old new image group out

-- The same of the last group of a journal with these items.
abbrev pub AreOutForGood : Disk → Disk → List Item → ℕ → Type 0
AreOutForGood old new items out =
    (last : Option ℕ) × IsLastBefore items (length items) last × AreOutByLast old new last out
