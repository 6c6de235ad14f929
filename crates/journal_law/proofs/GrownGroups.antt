-- The groups of a journal that grows by one item.
use Rattle.std.proofs.Common.{[], ◌≡◌, inl, inr, ⊎_elim, ℕ, zero, suc, ◌+◌, ◌<◌, ◌≤◌, List, ◌∷◌, ◌++◌, length, Option}
use Rattle.std.proofs.Common.{Some, None, refl, sym, ◌∙◌, ap, subst, arith}
use Rattle.std.specs.Prelude.{slice_get}
use Rattle.std.proofs.lemmas.Bool.{cases_lt}
use Rattle.std.proofs.lemmas.List.{length-append}
use Rattle.core_state.specs.declared.item.Entry.{Entry}
use Rattle.core_state.specs.declared.item.Group.{Group as GroupItem}
use Rattle.core_state.specs.declared.item.Item.{Item}
use Rattle.core_state.specs.declared.item.Item.TheVariants.{Group, Call}
use Rattle.core_state.specs.Map.{Map, PutBytes}
use Rattle.core_state.specs.Legal.{GroupAt, IsGroupBefore}
use Rattle.core_state.specs.Journal.{IsAttachOf, IsWidthStep, Follows, GroupsAreRight}
use Rattle.core_state.specs.Keeps.{Kept}
use Rattle.core_state.specs.Moment.{IsGroupOf}
use Rattle.journal_law.proofs.Grown.{grown_has, last_there, new_or_before, map_before, group_before_first}

-- A call is no group, and two groups that stand at one index are one.
call_no_group : (entry : Entry) (group : GroupItem) → Call entry ≡ Group group → ⊥
call_no_group entry group is = cc

same_group : (one other : GroupItem) → Group one ≡ Group other → one ≡ other
same_group one other is = cc

one_there : (items : List Item) (index : ℕ) (one other : GroupItem) → GroupAt items index one
    → GroupAt items index other
    → one ≡ other
one_there items index one other first second = same_item (sym first ∙ second)
  where
    same_item : Some (Group one) ≡ Some (Group other) → one ≡ other
    same_item is = cc

nothing_there : (index : ℕ) (item : Item) → slice_get [] index ≡ Some item → ⊥
nothing_there index item is = cc

-- There is one group before an index at most.
one_before : (items : List Item) (index : ℕ) (one other : GroupItem)
    → IsGroupBefore items index one → IsGroupBefore items index other
    → one ≡ other
one_before items index one other first second = ⊎_elim
    (λ (less : first.place < second.place).
    absurd (first.latest second.place other less second.before second.there))
    (λ (not_less : second.place ≤ first.place). ⊎_elim
    (λ (more : second.place < first.place).
    absurd (second.latest first.place one more first.before first.there))
    (λ (not_more : first.place ≤ second.place).
    let same : first.place ≡ second.place = omega arith in
    one_there items second.place one other
    (subst (λ (k : ℕ). GroupAt items k one) same first.there) second.there)
    (cases_lt second.place first.place)) (cases_lt first.place second.place)

-- What lets a group be wider may be told in other words.
pub width_step_where : {attached told : Type 0} (before next : GroupItem) → (attached → told)
    → IsWidthStep attached before next → IsWidthStep told before next
width_step_where before next tells (inl same) = inl same
width_step_where before next tells (inr (inl ended)) = inr (inl ended)
width_step_where before next tells (inr (inr began)) = inr (inr (tells began.0, began.1, began.2, began.3))

-- An earlier group follows the one before it in the grown journal too.
follows_grown : (items more : List Item) (index : ℕ) (before next : GroupItem)
    → Follows items index before next
    → Follows (items ++ more) index before next
follows_grown items more index before next follows = record {
  number = follows.number;
  later = follows.later;
  listed = follows.listed;
  widths = width_step_where before next attached follows.widths;
}
  where
    attached : IsAttachOf items (before.from + 1) next.group
        → IsAttachOf (items ++ more) (before.from + 1) next.group
    attached is = (is.0, is.1, grown_has items more is.0 (Call is.1) is.2, is.3)

earlier_follows : (items more : List Item) → GroupsAreRight items
    → (index : ℕ) (before next : GroupItem) → index < length items
    → IsGroupBefore (items ++ more) index before → GroupAt items index next
    → Follows (items ++ more) index before next
earlier_follows items more right index before next below is there =
    follows_grown items more index before next (right.each index before next
    (group_before_first items more index before (omega (arith, below)) is) there)

-- A new answer leaves the groups right.
pub groups_grown_call : (items : List Item) (entry : Entry) → GroupsAreRight items
    → GroupsAreRight (items ++ Call entry ∷ [])
groups_grown_call items entry right = record {
  first = right.first;
  there = grown_has items (Call entry ∷ []) 0 (Group right.first) right.there;
  from_start = right.from_start;
  each = λ index before next is there.
      elim (new_or_before items (Call entry) index (Group next) there) [
        | inl new ↦ absurd (call_no_group entry next new.1)
        | inr old ↦ earlier_follows items (Call entry ∷ []) right index before next old.0 is old.1
      ];
}

-- A new group that follows the last one leaves them right.
pub groups_grown_group : (items : List Item) (group : GroupItem) → GroupsAreRight items
    → (before : GroupItem) → IsGroupBefore items (length items) before
    → Follows (items ++ Group group ∷ []) (length items) before group
    → GroupsAreRight (items ++ Group group ∷ [])
groups_grown_group items group right before latest follows = record {
  first = right.first;
  there = grown_has items (Group group ∷ []) 0 (Group right.first) right.there;
  from_start = right.from_start;
  each = λ index other next is there.
      elim (new_or_before items (Group group) index (Group next) there) [
        | inl new ↦ at_end index other next new.0 (same_group group next new.1) is
        | inr old ↦ earlier_follows items (Group group ∷ []) right index other next old.0 is old.1
      ];
}
  where
    at_end : (index : ℕ) (other next : GroupItem) → index ≡ length items → group ≡ next
        → IsGroupBefore (items ++ Group group ∷ []) index other
        → Follows (items ++ Group group ∷ []) index other next
    at_end index other next end same is =
        let there : IsGroupBefore (items ++ Group group ∷ []) (length items) other =
        subst (λ (k : ℕ). IsGroupBefore (items ++ Group group ∷ []) k other) end is in
        let first : IsGroupBefore items (length items) other =
        group_before_first items (Group group ∷ []) (length items) other (omega arith) there in
        subst (λ (k : ℕ). Follows (items ++ Group group ∷ []) k other next) (sym end)
        (subst (λ (g : GroupItem). Follows (items ++ Group group ∷ []) (length items) other g) same
        (subst (λ (g : GroupItem). Follows (items ++ Group group ∷ []) (length items) g group)
        (one_before items (length items) before other latest first) follows))

-- The groups of a journal of one group, which was begun at its start.
pub group_alone : (group : GroupItem) → group.after ≡ 0 → GroupsAreRight (Group group ∷ [])
group_alone group from_start = record {
  first = group;
  there = refl;
  from_start = from_start;
  each = λ index before next is there. none index before next is there;
}
  where
    none : (index : ℕ) (before next : GroupItem) → IsGroupBefore (Group group ∷ []) index before
        → GroupAt (Group group ∷ []) index next
        → Follows (Group group ∷ []) index before next
    none zero before next is there = absurd (omega (arith, is.before))
    none (suc index) before next is there = absurd (nothing_there index (Group next) there)

-- The last group is still the last one behind a new answer.
pub latest_grown_call : (items : List Item) (entry : Entry) (group : GroupItem)
    → IsGroupBefore items (length items) group
    → IsGroupBefore (items ++ Call entry ∷ []) (length (items ++ Call entry ∷ [])) group
latest_grown_call items entry group is = record {
  place = is.place;
  there = grown_has items (Call entry ∷ []) is.place (Group group) is.there;
  before = omega (arith, is.before, length-append items (Call entry ∷ []));
  latest = λ k other after before there.
      elim (new_or_before items (Call entry) k (Group other) there) [
        | inl new ↦ call_no_group entry other new.1
        | inr old ↦ is.latest k other after old.0 old.1
      ];
}

-- A new group is the last one.
pub latest_grown_group : (items : List Item) (group : GroupItem)
    → IsGroupBefore (items ++ Group group ∷ []) (length (items ++ Group group ∷ [])) group
latest_grown_group items group = record {
  place = length items;
  there = last_there items (Group group);
  before = omega (arith, length-append items (Group group ∷ []));
  latest = λ k other after before there.
      omega (arith, after, before, length-append items (Group group ∷ []));
}

pub latest_alone : (group : GroupItem) → IsGroupBefore (Group group ∷ []) 1 group
latest_alone group = latest_grown_group [] group

-- What a journal says of a group that was begun after some of its items, it says when it has grown.
pub group_of_grown : (handed : PutBytes) (opening : Map) (items : List Item) (group : GroupItem)
    (kept : Kept) (more : List Item) → group.after ≤ length items
    → IsGroupOf handed opening items group kept
    → IsGroupOf handed opening (items ++ more) group kept
group_of_grown handed opening items group kept more within is = record {
  number = is.number;
  widths = is.widths;
  map = λ id. is.map id
      ∙ ap (λ (map : Map). map id) (sym (map_before handed opening items more group.after within));
  excepted = is.excepted;
}

-- Behind the first item of a journal there is always a group before.
pub group_before : (items : List Item) (first : GroupItem) → GroupAt items 0 first → (index : ℕ)
    → 0 < index
    → (group : GroupItem) × IsGroupBefore items index group
group_before items first there zero after = absurd (omega (arith, after))
group_before items first there (suc zero) after = (
  first,
  record {
    place = 0;
    there = there;
    before = omega arith;
    latest = λ k other above below at_k. omega (arith, above, below);
  },
)
group_before items first there (suc (suc index)) after =
    by (group_before items first there (suc index) (omega arith)) (slice_get items (suc index)) refl
  where
    past : (group : GroupItem) → IsGroupBefore items (suc index) group
        → ((other : GroupItem) → GroupAt items (suc index) other → ⊥)
        → IsGroupBefore items (suc (suc index)) group
    past group is no_group = record {
      place = is.place;
      there = is.there;
      before = omega (arith, is.before);
      latest = λ k other above below at_k. ⊎_elim
          (λ (less : k < suc index). is.latest k other above less at_k)
          (λ (not_less : suc index ≤ k).
          let same : k ≡ suc index = omega arith in
          no_group other (subst (λ (at : ℕ). GroupAt items at other) same at_k))
          (cases_lt k (suc index));
    }

    by : (group : GroupItem) × IsGroupBefore items (suc index) group → (here : Option Item)
        → slice_get items (suc index) ≡ here
        → (group : GroupItem) × IsGroupBefore items (suc (suc index)) group
    by earlier (Some (Group group)) is = (
      group,
      record {
        place = suc index;
        there = is;
        before = omega arith;
        latest = λ k other above below at_k. omega (arith, above, below);
      },
    )
    by earlier (Some (Call entry)) is = (earlier.0, past earlier.0 earlier.1 (λ other at. cc))
    by earlier None is = (earlier.0, past earlier.0 earlier.1 (λ other at. cc))

-- A group was begun after no more items than stand before it.
pub after_listed : (items : List Item) → GroupsAreRight items → (index : ℕ) (group : GroupItem)
    → GroupAt items index group
    → group.after ≤ index
after_listed items right zero group there =
    let same : group ≡ right.first = one_there items 0 group right.first there right.there in
    omega (arith, ap (λ (g : GroupItem). g.after) same, right.from_start)
after_listed items right (suc index) group there =
    let before : (before : GroupItem) × IsGroupBefore items (suc index) before =
    group_before items right.first right.there (suc index) (omega arith) in
    (right.each (suc index) before.0 group before.1 there).listed
