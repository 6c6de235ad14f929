-- Where the answers of a journal tell of a limit: the groups, or the ids that a table has room for.
use Rattle.std.specs.Prelude.{◌≡◌, ◌≢◌, ◌⊎◌, ℕ, ◌+◌, ◌<◌, ◌≤◌, List, length, Some, None, All, Contains, nat_eq}
use Rattle.std.specs.List.{IsDistinct}
use Rattle.core_state.specs.declared.answer.Kind.TheVariants as kind
use Rattle.core_state.specs.declared.item.Group.{Group as GroupItem}
use Rattle.core_state.specs.declared.item.Item.{Item}
use Rattle.core_state.specs.Map.{Map}
use Rattle.core_state.specs.Legal.{IsGroupBefore}
use Rattle.client_script.specs.Script.{Placed, Script}
use Rattle.uberblock_ring.specs.Uberblock.{max_group}

-- The last group before this index is the last that a sync may end.
pub record IsAtLastGroup (items : List Item) (index reached : ℕ) : Type 0 where
  pub reached_is : reached ≡ max_group
  pub group : GroupItem
  pub before : IsGroupBefore items index group
  pub last : max_group ≤ group.group + 1

-- The map has the id, or a call of the script puts it.
abbrev pub IsHeldOrPut : Script → Map → ℕ → Type 0
IsHeldOrPut script map id = (map id ≢ None)
    ⊎ ((placed : Placed) × Contains script.calls placed × (placed.call.kind ≡ kind.Put)
    × (placed.call.id ≡ Some id))

-- The ids of the map and those that the script puts are more than a table has room for.
pub record HasTooManyIds (script : Script) (map : Map) : Type 0 where
  pub ids : List ℕ
  pub distinct : IsDistinct nat_eq ids
  pub many : 512 < length ids
  pub each : All (IsHeldOrPut script map) ids
