-- How the groups of a journal are numbered, whatever the devices hold.
use Rattle.std.specs.Prelude.{◌≡◌, ℕ, ◌+◌, List, length}
use Rattle.core_state.specs.declared.item.Group.{Group as GroupItem}
use Rattle.core_state.specs.declared.item.Item.{Item}
use Rattle.core_state.specs.Legal.{GroupAt, IsGroupBefore}
use Rattle.core_turns.specs.Core.{Core}

-- Each group has the number after that of the group before it.
pub record GroupsAreNumbered (items : List Item) : Type 0 where
  pub each : (index : ℕ) (before next : GroupItem) → IsGroupBefore items index before → GroupAt items index next
      → next.group ≡ before.group + 1

-- So it is, and the last one is the last group that the pool has answered.
pub record IsNumbered (items : List Item) (core : Core) : Type 0 where
  pub group : GroupItem
  pub latest : IsGroupBefore items (length items) group
  pub number : core.pool.uber.group ≡ group.group
  pub numbered : GroupsAreNumbered items
