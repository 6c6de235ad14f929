-- Where the entries of a caller stand while a call of its own is under way.
use Rattle.schedule.proofs.Words.{ℕ, ◌<◌, ◌≤◌, List, [], ◌∷◌, ◌++◌, length, arith, slice_get_within, Item, Group, Call}
use Rattle.schedule.proofs.Words.{IsPrevious, first_has, new_or_before, AllBelow}
use Rattle.core_state.specs.declared.item.Group.{Group as GroupItem}

-- They stand below the journal's end,
pub below_end : (items : List Item) (caller : ℕ) → AllBelow items caller (length items)
below_end items caller place entry there same = slice_get_within items place (Call entry) there

-- or a group is listed.
pub below_group : {caller point : ℕ} (items : List Item) (group : GroupItem) → AllBelow items caller point
    → AllBelow (items ++ Group group ∷ []) caller point
below_group items group below place entry there same = search (new_or_before, arith)

-- So does the previous one of an entry that comes next.
pub previous_below : (items more : List Item) {caller point previous : ℕ} → 1 ≤ point → AllBelow items caller point
    → IsPrevious (items ++ more) caller (length items) previous → previous < point
previous_below items more some below is = search (first_has, arith)
