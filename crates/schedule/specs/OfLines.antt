-- A journal whose entries follow the lines of a script.
use Rattle.std.specs.Prelude.{◌≡◌, ℕ, List, [], ◌∷◌, map, take}
use Rattle.core_state.specs.declared.item.Entry.{Entry}
use Rattle.core_state.specs.declared.item.Group.{Group as GroupItem}
use Rattle.core_state.specs.declared.item.Item.{Item}
use Rattle.core_state.specs.declared.item.Item.TheVariants.{Group, Call}
use Rattle.core_state.specs.Legal.{CallAt, GroupAt}
use Rattle.client_script.specs.Script.{Script}
use Rattle.journal_law.specs.Points.{point_after}

-- whose calls a script lists, line by line
abbrev pub actors_in : Script → List ℕ
actors_in script = map (λ placed. placed.actor) script.calls

-- whose calls a journal answers, entry by entry
abbrev pub callers_in : List Item → List ℕ
callers_in [] = []
callers_in (Group group ∷ items) = callers_in items
callers_in (Call entry ∷ items) = entry.caller ∷ callers_in items

-- The journal answers the first calls of the script, so many, in the order of their lines, and each call was whole
-- before the next began: a read speaks of the map just before its entry, and a group has all that was listed before it.
pub record FollowsLines (script : Script) (items : List Item) : Type 0 where
  pub answered : ℕ
  pub callers : callers_in items ≡ take answered (actors_in script)
  pub reads : (index : ℕ) (entry : Entry) → CallAt items index entry
      → entry.at ≡ point_after entry.kind index entry.answer
  pub groups : (index : ℕ) (group : GroupItem) → GroupAt items index group → group.after ≡ index
