-- The last group of a journal, item by item.
use Rattle.std.proofs.Common.{◌≡◌, ℕ, ◌+◌, ◌<◌, List, Option, Some, None, refl, arith, below_more}
use Rattle.std.specs.Prelude.{slice_get}
use Rattle.core_state.specs.declared.item.Entry.{Entry}
use Rattle.core_state.specs.declared.item.Group.{Group as GroupItem}
use Rattle.core_state.specs.declared.item.Item.{Item}
use Rattle.core_state.specs.declared.item.Item.TheVariants.{Group, Call}
use Rattle.core_state.specs.Legal.{GroupAt}
use Rattle.raidzx.specs.ForGood.{IsLastBefore}

-- one more item, which is a group
pub last_is : (items : List Item) (index : ℕ) (group : GroupItem) → slice_get items index ≡ Some (Group group)
    → IsLastBefore items (index + 1) (Some group.group)
last_is items index group there = (
  group,
  record {
    place = index;
    there = there;
    before = omega arith;
    latest = λ k other after before found. absurd (omega (arith, after, before));
  },
  refl,
)

-- A call stands there, and no group.
no_group : (items : List Item) (index : ℕ) (entry : Entry) → slice_get items index ≡ Some (Call entry)
    → (group : GroupItem) → GroupAt items index group → ⊥
no_group items index entry there group found = cc

-- one more item, which is a call
pub last_stays : (items : List Item) (index : ℕ) (entry : Entry) → slice_get items index ≡ Some (Call entry)
    → (last : Option ℕ) → IsLastBefore items index last → IsLastBefore items (index + 1) last
last_stays items index entry there (Some number) (group, last, is) = (
  group,
  record {
    place = last.place;
    there = last.there;
    before = omega (arith, last.before);
    latest = λ k other after before found. below_more (λ j. (one : GroupItem) → last.place < j → GroupAt items j one → ⊥) index
        (λ j below one behind at. last.latest j one behind below at)
        (λ one behind at. no_group items index entry there one at) k before other after found;
  },
  is,
)
last_stays items index entry there None none =
    λ place group before. below_more (λ j. (one : GroupItem) → GroupAt items j one → ⊥) index
    (λ j below one. none j one below) (no_group items index entry there) place before group
