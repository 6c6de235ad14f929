-- The group with which a journal begins.
use Rattle.std.specs.Prelude.{◌≡◌, ◌+◌, List}
use Rattle.core_state.specs.declared.item.Group.{Group as GroupItem}
use Rattle.core_state.specs.declared.item.Item.{Item}
use Rattle.core_state.specs.Legal.{GroupAt}
use Rattle.core_state.specs.Keeps.{Kept}

-- The journal begins with the group that renews this one: two after it, with its widths.
pub record BeginsAfter (chosen : Kept) (items : List Item) : Type 0 where
  pub first : GroupItem
  pub there : GroupAt items 0 first
  pub number : first.group ≡ chosen.uber.group + 2
  pub widths : (first.from ≡ chosen.uber.reflow.from) × (first.to ≡ chosen.uber.reflow.to)
