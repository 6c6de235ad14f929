-- The groups of a journal stay numbered, turn by turn.
use Rattle.schedule.proofs.Words.{Core, Entry, Group, GroupAt, GroupsAreNumbered, IsGroupBefore, IsNumbered, Item, List}
use Rattle.schedule.proofs.Words.{None, Option, Pool, ScriptCall, Some, TurnState, [], ap, arith, first_item}
use Rattle.schedule.proofs.Words.{group_before_first, group_for, inl, inr, latest_alone, latest_grown_call}
use Rattle.schedule.proofs.Words.{latest_grown_group, length, listed_on, new_or_before, refl, sym, ℕ, ◌++◌, ◌+◌, ◌<◌}
use Rattle.schedule.proofs.Words.{◌∙◌, ◌∷◌, ◌≡◌}
use Rattle.core_state.specs.declared.item.Group.{Group as GroupItem}
use Rattle.core_state.specs.declared.item.Item.TheVariants.{Call as CallItem}
use Rattle.schedule.proofs.turn.BothListed.{one_latest}
use Rattle.schedule.proofs.run.Opened.{resting}
use Rattle.schedule.proofs.turn.UsingTurns.{HasAnswered}
use Rattle.schedule.proofs.turn.UsingWorks.{TurnLeaves}

same_group : {one other : GroupItem} → Group one ≡ Group other → one ≡ other
same_group is = cc

-- A journal of one group is numbered.
numbered_alone : (group : GroupItem) → GroupsAreNumbered (Group group ∷ [])
numbered_alone group = grind arith

-- So is that of a pool that was opened.
pub first_numbered : (pool : Pool) → IsNumbered (Group (first_item pool) ∷ []) (resting pool)
first_numbered pool = record {
  group = first_item pool;
  latest = latest_alone (first_item pool);
  number = refl;
  numbered = numbered_alone (first_item pool);
}

module _ {items : List Item} (numbered : GroupsAreNumbered items) where
  -- An earlier group is numbered as before.
  earlier : (more : List Item) (index : ℕ) {before : GroupItem} (next : GroupItem) → index < length items
      → IsGroupBefore (items ++ more) index before → GroupAt items index next → next.group ≡ before.group + 1
  earlier more index {before = before} next below is there = numbered.each index before next
      (search (group_before_first, arith)) there

  -- An answer more,
  numbered_call : (entry : Entry) → GroupsAreNumbered (items ++ CallItem entry ∷ [])
  numbered_call entry = record {
    each = λ index before next is there. elim (new_or_before items (CallItem entry) index (Group next) there) [
      | inl new ↦ cc
      | inr old ↦ search earlier
    ];
  }

  -- and a group more, with the next number.
  numbered_group : {last : GroupItem} (group : GroupItem) → IsGroupBefore items (length items) last
      → group.group ≡ last.group + 1 → GroupsAreNumbered (items ++ Group group ∷ [])
  numbered_group group latest number = record {
    each = λ index before next is there. elim (new_or_before items (Group group) index (Group next) there) [
      | inl new ↦ ap (λ (g : GroupItem). g.group) (sym (same_group new.1)) ∙ number
          ∙ ap (λ (g : GroupItem). g.group + 1) (one_latest latest
          (group_before_first items (Group group ∷ []) (length items) before (omega arith) (search arith)))
      | inr old ↦ search earlier
    ];
  }

-- ---- a turn

-- So the groups are numbered behind what a turn lists: a group, if it answers one,
numbered_on : {items : List Item} {old new : Core} (at : ℕ) (made : Option ℕ) → HasAnswered old new made
    → IsNumbered items old → IsNumbered (listed_on new.pool.uber.reflow items at made) new
numbered_on at None group stood = search arith
numbered_on {items} {new = new} at (Some number) group stood = record {
  group = group_for new at number;
  latest = search (latest_grown_group, arith);
  number = group.0;
  numbered = numbered_group stood.numbered (group_for new at number) stood.latest (cc);
}

-- and an answer.
numbered_answer : {items : List Item} {core : Core} (entry : Entry) → IsNumbered items core
    → IsNumbered (items ++ CallItem entry ∷ []) core
numbered_answer entry stood = search (latest_grown_call, numbered_call)

pub turn_numbers : {calls : List ScriptCall} {actor : ℕ} {before after : TurnState} → TurnLeaves calls actor before after
    → IsNumbered before.items before.state.core → IsNumbered after.items after.state.core
turn_numbers leaves stood = grind (arith, numbered_on, numbered_answer)
