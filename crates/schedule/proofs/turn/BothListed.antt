-- A group and the answer of the call that made it are listed at once.
use Rattle.schedule.proofs.Words.{each_grown, groups_with_call, ◌≡◌, inl, inr, ℕ, ◌<◌, ◌≤◌, List, [], ◌∷◌, ◌++◌, length}
use Rattle.schedule.proofs.Words.{refl, arith, length-append, cases_lt, Entry, Item, Group, Call, Map, PutBytes}
use Rattle.schedule.proofs.Words.{GroupAt, IsGroupBefore, Calls, Follows, GroupsAreRight, Kept, Groups, contains_none}
use Rattle.schedule.proofs.Words.{grown_has, group_before_first, new_or_before, width_step_where}
use Rattle.core_state.specs.declared.item.Group.{Group as GroupItem}

-- The last group before an index is one alone.
pub one_latest : {items : List Item} {index : ℕ} {one other : GroupItem} → IsGroupBefore items index one
    → IsGroupBefore items index other → one ≡ other
one_latest {items = items} {one = one} {other = other} first second = grind (arith, cases_lt)

module _ (items : List Item) (group : GroupItem) (entry : Entry) where
  abbrev with_group : List Item
  with_group = items ++ Group group ∷ []

  abbrev pub with_both : List Item
  with_both = (items ++ Group group ∷ []) ++ Call entry ∷ []

  module _ {item : GroupItem} (right : GroupsAreRight items) (latest : IsGroupBefore items (length items) item)
      (follows : Follows with_both (length items) item group) where
    older : (index : ℕ) (before next : GroupItem) → index < length items → IsGroupBefore with_both index before
        → GroupAt items index next → Follows with_both index before next
    older index before next low is there =
        let first : IsGroupBefore items index before = search (group_before_first, length-append, arith) in
        let was = right.each index before next first there in
        record {
          number = was.number;
          later = was.later;
          listed = was.listed;
          widths = width_step_where before next (λ is. (is.0, is.1, search grown_has, is.3)) was.widths;
        }

    newest : {index : ℕ} (before next : GroupItem) → index ≡ length items → group ≡ next
        → IsGroupBefore with_both index before → Follows with_both index before next
    newest before next at same is =
        let first : IsGroupBefore items (length items) before = search (group_before_first, length-append, at, arith) in
        search (same, one_latest, first, arith)

    -- The groups are right, also where the answer tells that a device was attached with the new one.
    pub both_right : GroupsAreRight with_both
    both_right = record {
      first = right.first;
      there = search grown_has;
      from_start = right.from_start;
      each = λ index before next is there. elim (new_or_before with_group (Call entry) index (Group next) there) [
        | inl new ↦ cc
        | inr old ↦ elim (new_or_before items (Group group) index (Group next) old.1) [
          | inl new ↦ newest before next new.0 (cc) is
          | inr older_one ↦ search older
        ]
      ];
    }

  -- The groups of a run are the same with the answer.
  pub groups_both : {calls : Calls} {handed : PutBytes} {opening : Map} {known : List Kept}
      → ((index : ℕ) (other : GroupItem) → GroupAt items index other → other.after ≤ index) → group.after ≤ length items
      → (groups : Groups calls handed opening known with_group) → groups.begun ≡ []
      → (grown : Groups calls handed opening known with_both) × (grown.answered ≡ groups.answered) × (grown.begun ≡ [])
  groups_both {handed = handed} {opening = opening} within after groups none =
      (search (groups_with_call, each_grown, each_within, contains_none, arith), refl, refl)
    where
      each_within : (index : ℕ) (other : GroupItem) → GroupAt with_group index other → other.after ≤ length with_group
      each_within index other there = search (new_or_before, length-append, after, arith)
