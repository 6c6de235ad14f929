-- The groups of a run whose journal grows by one item.
use Rattle.std.proofs.Common.{[], ◌≡◌, ℕ, zero, suc, ◌+◌, ◌<◌, ◌≤◌, List, ◌∷◌, ◌++◌, length, Some, refl}
use Rattle.std.proofs.Common.{sym, ◌∙◌, ap, subst}
use Rattle.std.proofs.Common.{arith}
use Rattle.std.specs.Prelude.{Contains}
use Rattle.std.specs.List.{AllZip}
use Rattle.std.proofs.lemmas.List.{length-append}
use Rattle.std.proofs.lemmas.Option.{slice_get_within}
use Rattle.core_state.specs.declared.item.Entry.{Entry}
use Rattle.core_state.specs.declared.item.Group.{Group as GroupItem}
use Rattle.core_state.specs.declared.item.Item.{Item}
use Rattle.core_state.specs.declared.item.Item.TheVariants.{Group, Call}
use Rattle.core_state.specs.Map.{Map, PutBytes}
use Rattle.core_state.specs.Legal.{GroupAt, IsGroupBefore}
use Rattle.core_state.specs.Journal.{Calls, GroupsAreRight}
use Rattle.core_state.specs.Keeps.{Kept}
use Rattle.core_state.specs.Moment.{AwaitsAttach, IsAnsweredWithin, groups_in, item_of, IsGroupOf, IsBegunAfter}
use Rattle.core_state.specs.Moment.{IsUnanswered, Groups}
use Rattle.core_state.proofs.Listed.{contains_none}
use Rattle.journal_law.proofs.Grown.{first_has, grown_has, map_before}
use Rattle.journal_law.proofs.GrownGroups.{group_of_grown, after_listed, width_step_where}

-- The groups of a journal with a new item.
pub groups_with_call : (items : List Item) (entry : Entry)
    → groups_in (items ++ Call entry ∷ []) ≡ groups_in items
groups_with_call [] entry = refl
groups_with_call (Group group ∷ items) entry =
    ap (λ (groups : List GroupItem). group ∷ groups) (groups_with_call items entry)
groups_with_call (Call other ∷ items) entry = groups_with_call items entry

groups_with_group : (items : List Item) (group : GroupItem)
    → groups_in (items ++ Group group ∷ []) ≡ groups_in items ++ group ∷ []
groups_with_group [] group = refl
groups_with_group (Group other ∷ items) group =
    ap (λ (groups : List GroupItem). other ∷ groups) (groups_with_group items group)
groups_with_group (Call entry ∷ items) group = groups_with_group items group

-- What a journal says of its groups, it says when it has grown, if each was begun within it.
pub each_grown : (handed : PutBytes) (opening : Map) (items more part : List Item) (answered : List Kept)
    → ((index : ℕ) (group : GroupItem) → GroupAt part index group → group.after ≤ length items)
    → AllZip (IsGroupOf handed opening items) (groups_in part) answered
    → AllZip (IsGroupOf handed opening (items ++ more)) (groups_in part) answered
each_grown handed opening items more [] [] within each = each
each_grown handed opening items more [] (kept ∷ answered) within each = each
each_grown handed opening items more (Call entry ∷ part) answered within each =
    each_grown handed opening items more part answered
    (λ index group there. within (suc index) group there) each
each_grown handed opening items more (Group group ∷ part) [] within each = each
each_grown handed opening items more (Group group ∷ part) (kept ∷ answered) within each = (
  group_of_grown handed opening items group kept more (within 0 group refl) each.0,
  each_grown handed opening items more part answered
      (λ index other there. within (suc index) other there) each.1,
)

-- The groups of a journal were each begun within it.
all_within : (items : List Item) → GroupsAreRight items → (index : ℕ) (group : GroupItem)
    → GroupAt items index group
    → group.after ≤ length items
all_within items right index group there =
    omega (
      arith,
      after_listed items right index group there,
      slice_get_within items index (Group group) there,
    )

-- One more group, and what is kept of it.
each_pushed : (handed : PutBytes) (opening : Map) (items : List Item) (groups : List GroupItem)
    (answered : List Kept) (group : GroupItem) (kept : Kept)
    → AllZip (IsGroupOf handed opening items) groups answered
    → IsGroupOf handed opening items group kept
    → AllZip (IsGroupOf handed opening items) (groups ++ group ∷ []) (answered ++ kept ∷ [])
each_pushed handed opening items [] [] group kept each is = (is, tt)
each_pushed handed opening items [] (first ∷ answered) group kept each is = absurd each
each_pushed handed opening items (first ∷ groups) [] group kept each is = absurd each
each_pushed handed opening items (other ∷ groups) (first ∷ answered) group kept each is =
    (each.0, each_pushed handed opening items groups answered group kept each.1 is)

-- A journal that has grown answers what it answered.
answered_grown : (items more : List Item) (after caller call : ℕ) → IsAnsweredWithin items after caller call
    → IsAnsweredWithin (items ++ more) after caller call
answered_grown items more after caller call is = record {
  index = is.index;
  entry = is.entry;
  there = grown_has items more is.index (Call is.entry) is.there;
  within = is.within;
  own = is.own;
  number_is = is.number_is;
}

-- An attach that was to be answered then is told so by a journal that has grown.
pub awaits_grown : (calls : Calls) (items more : List Item) (after : ℕ) → after ≤ length items
    → AwaitsAttach calls items after → AwaitsAttach calls (items ++ more) after
awaits_grown calls items more after within awaits = record {
  caller = awaits.caller;
  number = awaits.number;
  asked = awaits.asked;
  earlier = λ call low. answered_grown items more after awaits.caller (call + 1) (awaits.earlier call low);
  before = λ index entry below there. awaits.before index entry below
      (first_has items more index (Call entry) (omega (arith, below, within)) there);
}

-- A group that was begun and isn't answered stays so.
begun_grown : (calls : Calls) (handed : PutBytes) (opening : Map) (items more : List Item) (last : GroupItem)
    (kept : Kept) → IsBegunAfter calls handed opening items last kept
    → IsBegunAfter calls handed opening (items ++ more) last kept
begun_grown calls handed opening items more last kept is = record {
  number = is.number;
  after = is.after;
  listed = (is.listed.0, omega (arith, is.listed.1, length-append items more));
  map = λ id. is.map id ∙ ap (λ (map : Map). map id)
      (sym (map_before handed opening items more is.after is.listed.1));
  excepted = is.excepted;
  widths = width_step_where last (item_of kept is.after) (awaits_grown calls items more is.after is.listed.1) is.widths;
}

unanswered_grown : (calls : Calls) (handed : PutBytes) (opening : Map) (items more : List Item) (known : List Kept)
    (groups : List GroupItem) (kept : Kept) → IsUnanswered calls handed opening items known groups kept
    → IsUnanswered calls handed opening (items ++ more) known groups kept
unanswered_grown calls handed opening items more known [] kept is = is
unanswered_grown calls handed opening items more known (group ∷ groups) kept is =
    begun_grown calls handed opening items more _ kept is

-- A new answer changes no group of a run.
pub groups_call : (calls : Calls) (handed : PutBytes) (opening : Map) (known : List Kept) (items : List Item)
    (groups : Groups calls handed opening known items) → GroupsAreRight items → (entry : Entry)
    → (grown : Groups calls handed opening known (items ++ Call entry ∷ []))
    × (grown.answered ≡ groups.answered) × (grown.begun ≡ groups.begun)
groups_call calls handed opening known items groups right entry = (
  record {
    answered = groups.answered;
    begun = groups.begun;
    each = subst (λ (list : List GroupItem).
        AllZip (IsGroupOf handed opening (items ++ Call entry ∷ [])) list groups.answered)
        (sym (groups_with_call items entry)) (each_grown handed opening items (Call entry ∷ [])
        items groups.answered (all_within items right) groups.each);
    one = groups.one;
    unanswered = λ kept has. subst (λ (list : List GroupItem).
        IsUnanswered calls handed opening (items ++ Call entry ∷ []) known list kept)
        (sym (groups_with_call items entry)) (unanswered_grown calls handed opening items
        (Call entry ∷ []) known (groups_in items) kept (groups.unanswered kept has));
  },
  refl,
  refl,
)

-- A new group is answered behind the others.
pub groups_end : (calls : Calls) (handed : PutBytes) (opening : Map) (known : List Kept) (items : List Item)
    (groups : Groups calls handed opening known items) → groups.begun ≡ []
    → (group : GroupItem) (kept : Kept)
    → IsGroupOf handed opening (items ++ Group group ∷ []) group kept → GroupsAreRight items
    → (grown : Groups calls handed opening known (items ++ Group group ∷ []))
    × (grown.answered ≡ groups.answered ++ kept ∷ []) × (grown.begun ≡ [])
groups_end calls handed opening known items groups none group kept is right = (
  record {
    answered = groups.answered ++ kept ∷ [];
    begun = [];
    each = subst (λ (list : List GroupItem). AllZip (IsGroupOf handed opening
        (items ++ Group group ∷ [])) list (groups.answered ++ kept ∷ []))
        (sym (groups_with_group items group)) (each_pushed handed opening
        (items ++ Group group ∷ []) (groups_in items) groups.answered group kept
        (each_grown handed opening items (Group group ∷ []) items groups.answered
        (all_within items right) groups.each) is);
    one = omega arith;
    unanswered = λ other has. absurd (contains_none other has);
  },
  refl,
  refl,
)

-- The last group before the end of a journal is the last of its groups.
no_groups : (items : List Item)
    → ((index : ℕ) (group : GroupItem) → GroupAt items index group → ⊥)
    → groups_in items ≡ []
no_groups [] none = refl
no_groups (Group group ∷ items) none = absurd (none 0 group refl)
no_groups (Call entry ∷ items) none =
    no_groups items (λ index group there. none (suc index) group there)

last_in : (items : List Item) (place : ℕ) (last : GroupItem) → GroupAt items place last
    → ((index : ℕ) (group : GroupItem) → place < index → GroupAt items index group → ⊥)
    → (front : List GroupItem) × (groups_in items ≡ front ++ last ∷ [])
last_in [] place last there latest = absurd (nothing there)
  where
    nothing : GroupAt [] place last → ⊥
    nothing is = cc
last_in (Group group ∷ items) zero last there latest = (
  [],
  (λ i. same there i
      ∷ no_groups items (λ index other at. latest (suc index) other (omega arith) at) i),
)
  where
    same : Some (Group group) ≡ Some (Group last) → group ≡ last
    same is = cc
last_in (Call entry ∷ items) zero last there latest = absurd (no_group there)
  where
    no_group : Some (Call entry) ≡ Some (Group last) → ⊥
    no_group is = cc
last_in (Group group ∷ items) (suc place) last there latest =
    let later : (front : List GroupItem) × (groups_in items ≡ front ++ last ∷ []) =
    last_in items place last there
    (λ index other after at. latest (suc index) other (omega (arith, after)) at) in
    (group ∷ later.0, ap (λ (groups : List GroupItem). group ∷ groups) later.1)
last_in (Call entry ∷ items) (suc place) last there latest = last_in items place last there
    (λ index other after at. latest (suc index) other (omega (arith, after)) at)

-- A group that was begun after the last one is the one that isn't answered.
begun_after_last : (calls : Calls) (handed : PutBytes) (opening : Map) (items : List Item) (known : List Kept)
    (front : List GroupItem) (last : GroupItem) (kept : Kept)
    → IsBegunAfter calls handed opening items last kept
    → IsUnanswered calls handed opening items known (front ++ last ∷ []) kept
begun_after_last calls handed opening items known [] last kept is = is
begun_after_last calls handed opening items known (first ∷ []) last kept is = is
begun_after_last calls handed opening items known (first ∷ next ∷ front) last kept is =
    begun_after_last calls handed opening items known (next ∷ front) last kept is

after_last_begun : (calls : Calls) (handed : PutBytes) (opening : Map) (items : List Item) (known : List Kept)
    (front : List GroupItem) (last : GroupItem) (kept : Kept)
    → IsUnanswered calls handed opening items known (front ++ last ∷ []) kept
    → IsBegunAfter calls handed opening items last kept
after_last_begun calls handed opening items known [] last kept is = is
after_last_begun calls handed opening items known (first ∷ []) last kept is = is
after_last_begun calls handed opening items known (first ∷ next ∷ front) last kept is =
    after_last_begun calls handed opening items known (next ∷ front) last kept is

-- The group that isn't answered was begun after the last one.
pub groups_begun : (calls : Calls) (handed : PutBytes) (opening : Map) (known : List Kept) (items : List Item)
    (groups : Groups calls handed opening known items) (last : GroupItem)
    → IsGroupBefore items (length items) last → (kept : Kept) → Contains groups.begun kept
    → IsBegunAfter calls handed opening items last kept
groups_begun calls handed opening known items groups last latest kept has =
    after_last_begun calls handed opening items known found.0 last kept
    (subst (λ (list : List GroupItem). IsUnanswered calls handed opening items known list kept) found.1
    (groups.unanswered kept has))
  where
    found : (front : List GroupItem) × (groups_in items ≡ front ++ last ∷ [])
    found = last_in items latest.place last latest.there
        (λ index group above there. latest.latest index group above
        (slice_get_within items index (Group group) there) there)

-- A new group was begun after the last one, or none was.
pub groups_cut : (calls : Calls) (handed : PutBytes) (opening : Map) (known : List Kept) (items : List Item)
    (groups : Groups calls handed opening known items) → groups.begun ≡ [] → (last : GroupItem)
    → IsGroupBefore items (length items) last → (begun : List Kept) → length begun ≤ 1
    → ((kept : Kept) → Contains begun kept → IsBegunAfter calls handed opening items last kept)
    → (grown : Groups calls handed opening known items)
    × (grown.answered ≡ groups.answered) × (grown.begun ≡ begun)
groups_cut calls handed opening known items groups none last latest begun one after = (
  record {
    answered = groups.answered;
    begun = begun;
    each = groups.each;
    one = one;
    unanswered = λ kept has. subst (λ (list : List GroupItem).
        IsUnanswered calls handed opening items known list kept) (sym found.1)
        (begun_after_last calls handed opening items known found.0 last kept (after kept has));
  },
  refl,
  refl,
)
  where
    found : (front : List GroupItem) × (groups_in items ≡ front ++ last ∷ [])
    found = last_in items latest.place last latest.there
        (λ index group above there. latest.latest index group above
        (slice_get_within items index (Group group) there) there)

-- The groups of a journal of one group.
pub groups_one : (calls : Calls) (handed : PutBytes) (opening : Map) (known : List Kept) (group : GroupItem)
    (kept : Kept) → IsGroupOf handed opening (Group group ∷ []) group kept
    → (groups : Groups calls handed opening known (Group group ∷ []))
    × (groups.answered ≡ kept ∷ []) × (groups.begun ≡ [])
groups_one calls handed opening known group kept is = (
  record {
    answered = kept ∷ [];
    begun = [];
    each = (is, tt);
    one = omega arith;
    unanswered = λ other has. absurd (contains_none other has);
  },
  refl,
  refl,
)
