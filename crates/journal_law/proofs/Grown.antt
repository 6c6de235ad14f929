-- A journal that grows by one item: what its indexes have, and the map after it.
use Rattle.std.proofs.Common.{[], ◌≡◌, ◌⊎◌, inl, inr, ℕ, zero, suc, ◌<◌, ◌≤◌, List, ◌∷◌, ◌++◌, length, Some, refl, ap}
use Rattle.std.proofs.Common.{arith}
use Rattle.std.specs.Prelude.{slice_get}
use Rattle.std.proofs.lemmas.List.{take-append-le}
use Rattle.std.proofs.Math.Seq.{take-length}
use Rattle.core_state.specs.declared.item.Entry.{Entry}
use Rattle.core_state.specs.declared.item.Group.{Group as GroupItem}
use Rattle.core_state.specs.declared.item.Item.{Item}
use Rattle.core_state.specs.declared.item.Item.TheVariants.{Group, Call}
use Rattle.core_state.specs.Map.{Map, PutBytes, map_of, map_after, map_after_answer}
use Rattle.core_state.specs.Legal.{IsPrevious, IsGroupBefore}

-- What an index has, it has in the grown journal.
pub grown_has : (items more : List Item) (index : ℕ) (item : Item)
    → slice_get items index ≡ Some item
    → slice_get (items ++ more) index ≡ Some item
grown_has [] more index item there = absurd (nothing there)
  where
    nothing : slice_get [] index ≡ Some item → ⊥
    nothing same = cc
grown_has (first ∷ items) more zero item there = there
grown_has (first ∷ items) more (suc index) item there = grown_has items more index item there

-- What an index below the first items' number has in the grown journal, it has in them.
pub first_has : (items more : List Item) (index : ℕ) (item : Item) → index < length items
    → slice_get (items ++ more) index ≡ Some item
    → slice_get items index ≡ Some item
first_has [] more index item below there = absurd (omega (arith, below))
first_has (first ∷ items) more zero item below there = there
first_has (first ∷ items) more (suc index) item below there =
    first_has items more index item (omega (arith, below)) there

-- The new item stands behind those before it.
pub last_there : (items : List Item) (last : Item)
    → slice_get (items ++ last ∷ []) (length items) ≡ Some last
last_there [] last = refl
last_there (first ∷ items) last = last_there items last

-- An item of the grown journal is the new one, or is one of those before it.
pub new_or_before : (items : List Item) (last : Item) (index : ℕ) (item : Item)
    → slice_get (items ++ last ∷ []) index ≡ Some item
    → ((index ≡ length items) × (last ≡ item))
    ⊎ ((index < length items) × (slice_get items index ≡ Some item))
new_or_before [] last zero item there = inl (refl, same there)
  where
    same : Some last ≡ Some item → last ≡ item
    same is = cc
new_or_before [] last (suc index) item there = absurd (nothing there)
  where
    nothing : slice_get [] index ≡ Some item → ⊥
    nothing same = cc
new_or_before (first ∷ items) last zero item there = inr (omega arith, there)
new_or_before (first ∷ items) last (suc index) item there =
    elim (new_or_before items last index item there) [
      | inl new ↦ inl (ap suc new.0, new.1)
      | inr before ↦ inr (omega (arith, before.0), before.1)
    ]

-- The map after the grown journal is made from that after the first items.
map_of_grown : (handed : PutBytes) (opening : Map) (items more : List Item)
    → map_of handed opening (items ++ more) ≡ map_of handed (map_of handed opening items) more
map_of_grown handed opening [] more = refl
map_of_grown handed opening (Group group ∷ items) more = map_of_grown handed opening items more
map_of_grown handed opening (Call entry ∷ items) more =
    map_of_grown handed (map_after_answer handed opening entry entry.answer) items more

-- A new answer changes the map as it says.
pub map_grown_call : (handed : PutBytes) (opening : Map) (items : List Item) (entry : Entry)
    → map_of handed opening (items ++ Call entry ∷ [])
    ≡ map_after_answer handed (map_of handed opening items) entry entry.answer
map_grown_call handed opening items entry = map_of_grown handed opening items (Call entry ∷ [])

-- A new group changes no map.
pub map_grown_group : (handed : PutBytes) (opening : Map) (items : List Item) (group : GroupItem)
    → map_of handed opening (items ++ Group group ∷ []) ≡ map_of handed opening items
map_grown_group handed opening items group = map_of_grown handed opening items (Group group ∷ [])

-- The map after all items of a journal is that of the journal.
pub map_at_end : (handed : PutBytes) (opening : Map) (items : List Item)
    → map_after handed opening items (length items) ≡ map_of handed opening items
map_at_end handed opening items = ap (map_of handed opening) (take-length items)

-- The map after some of the first items is the same in the grown journal.
pub map_before : (handed : PutBytes) (opening : Map) (items more : List Item) (k : ℕ)
    → k ≤ length items
    → map_after handed opening (items ++ more) k ≡ map_after handed opening items k
map_before handed opening items more k below =
    ap (map_of handed opening) (take-append-le k items more below)

-- Up to the end of the first items, the groups and the previous entries are the same in the grown
-- journal.
pub group_before_grown : (items more : List Item) (index : ℕ) (group : GroupItem)
    → index ≤ length items → IsGroupBefore items index group
    → IsGroupBefore (items ++ more) index group
group_before_grown items more index group within is = record {
  place = is.place;
  there = grown_has items more is.place (Group group) is.there;
  before = is.before;
  latest = λ k other after before there. is.latest k other after before
      (first_has items more k (Group other) (omega (arith, before, within)) there);
}

pub group_before_first : (items more : List Item) (index : ℕ) (group : GroupItem)
    → index ≤ length items → IsGroupBefore (items ++ more) index group
    → IsGroupBefore items index group
group_before_first items more index group within is = record {
  place = is.place;
  there = first_has items more is.place (Group group) (omega (arith, is.before, within)) is.there;
  before = is.before;
  latest = λ k other after before there. is.latest k other after before
      (grown_has items more k (Group other) there);
}

pub previous_in_first : (items more : List Item) (caller index previous : ℕ) → index < length items
    → IsPrevious (items ++ more) caller index previous
    → IsPrevious items caller index previous
previous_in_first items more caller index previous below is = record {
  there = elim is.there [
    | inl none ↦ inl none
    | inr entry ↦ inr (
      entry.0,
      entry.1,
      first_has items more previous (Call entry.0) (omega (arith, entry.1, below)) entry.2,
      entry.3,
    )
  ];
  latest = λ k entry after before there. is.latest k entry after before
      (grown_has items more k (Call entry) there);
}
