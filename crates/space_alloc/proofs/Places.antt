-- Places among entries that begin one after another.
use Rattle.std.proofs.Common.{◌≡◌, ℕ, ◌+◌, ◌-◌, ◌<◌, ◌≤◌, true, false, ltb, List, ◌∷◌, ◌++◌, length, get_or, set, take}
use Rattle.std.proofs.Common.{drop, ◌∙◌, ap, sym, subst, arith, ⊎_elim, length-drop, length-take}
use Rattle.std.specs.Prelude.{Some, Contains, slice_get}
use Rattle.std.specs.List.Sorted.{IsPartitionPoint}
use Rattle.std.proofs.lemmas.Bool.{cases_eq, cases_lt, ltb-false, ltb-true}
use Rattle.std.proofs.lemmas.Grind.{get_or-set_at}
use Rattle.std.proofs.lemmas.List.{get_or_default, get_or-drop, get_or-set_other, get_or-take, length-set}
use Rattle.std.proofs.lemmas.Option.{slice_get-get_or}
use Rattle.range_locks.proofs.Pairs.{all_pairs_insert}
use Rattle.space_alloc.specs.declared.entry.Entry.{Entry}
use Rattle.space_alloc.specs.Entries.{BeginInOrder, IsPartitionedAt}

-- None begins before an earlier one.
pub begins_rise : (entries : List Entry) (i j : ℕ) (default other : Entry) → BeginInOrder entries → i ≤ j → j < length entries
    → (get_or entries i default).start ≤ (get_or entries j other).start
begins_rise entries i j default other rise order within =
    let same = ap (λ (e : Entry). e.start) (get_or_default entries j default other within) in
    ⊎_elim (λ before. omega (arith, rise i j default before within, same))
    (λ from. let one : i ≡ j = omega (arith, order, from) in
    let here = ap (λ (n : ℕ). (get_or entries n default).start) one in omega (arith, here, same)) (cases_lt i j)

-- A search by halves finds a place,
pub place_halved : (entries : List Entry) (start at : ℕ) → at ≤ length entries
    → IsPartitionPoint (λ (e : Entry). ltb e.start start ≡ true) (λ (e : Entry). ltb e.start start ≡ false) entries at
    → IsPartitionedAt entries start start at at
place_halved entries start at within point = record {
  order = omega arith;
  within = within;
  before = λ k default less. ltb-true _ _ (point.0 k default (omega arith) less);
  behind = λ k default from inside. ltb-false _ _ (point.1 k default from inside);
}

module _ (entries : List Entry) (order : BeginInOrder entries) where
  -- and so do the two entries beside it.
  pub place_here : (start at : ℕ) (last first : Entry) → at ≤ length entries → (0 < at → (get_or entries (at - 1) last).start < start)
      → (at < length entries → start ≤ (get_or entries at first).start) → IsPartitionedAt entries start start at at
  place_here start at last first within passed met = record {
    order = omega arith;
    within = within;
    before = λ k default less.
        let rise = begins_rise entries k (at - 1) default last order (omega (arith, less)) (omega (arith, less, within)) in
        let low = passed (omega (arith, less)) in omega (arith, rise, low);
    behind = λ k default from inside.
        let rise = begins_rise entries at k first default order from inside in
        let high = met (omega (arith, from, inside)) in omega (arith, rise, high);
  }

  -- An entry that is listed stands where the first stands that does not begin before it.
  pub place_of : (entry : Entry) (at : ℕ) → Contains entries entry → IsPartitionedAt entries entry.start entry.start at at → slice_get entries at ≡ Some entry
  place_of entry at (k, inside, is) place =
      let start_is = ap (λ (e : Entry). e.start) is in
      let from : at ≤ k = ⊎_elim (λ less. absurd (let low = place.before k entry less in omega (arith, low, start_is))) (λ most. most) (cases_lt k at) in
      let to : k ≤ at = ⊎_elim
      (λ less. absurd (let high = place.behind at entry (omega arith) (omega (arith, less, inside)) in let rise = order at k entry less inside in
      omega (arith, high, rise, start_is))) (λ most. most) (cases_lt at k) in
      ap (λ (n : ℕ). slice_get entries n) (omega (arith, from, to)) ∙ slice_get-get_or entries k entry inside ∙ ap (λ (e : Entry). Some e) is

  -- Another entry may stand in the place of this one,
  pub gap_here : (start at : ℕ) → IsPartitionedAt entries start start at at → at < length entries → IsPartitionedAt entries start (start + 1) at (at + 1)
  gap_here start at place within = record {
    order = omega arith;
    within = omega (arith, within);
    before = place.before;
    behind = λ k default from inside.
        let high = place.behind at default (omega arith) within in let rise = order at k default (omega (arith, from)) inside in
        omega (arith, high, rise);
  }

  -- or before it, where it begins elsewhere,
  pub gap_before : (start at : ℕ) → IsPartitionedAt entries start start at at
      → ((default : Entry) → at < length entries → (get_or entries at default).start ≡ start → ⊥) → IsPartitionedAt entries start (start + 1) at at
  gap_before start at place elsewhere = record {
    order = omega arith;
    within = place.within;
    before = place.before;
    behind = λ k default from inside. ⊎_elim (λ below. omega (arith, below))
        (λ most. let rise = begins_rise entries at k default default order from inside in
        let high = place.behind at default (omega arith) (omega (arith, from, inside)) in
        absurd (elsewhere default (omega (arith, from, inside)) (omega (arith, most, rise, high)))) (cases_lt start (get_or entries k default).start);
  }

  -- or in the place of the one before.
  pub gap_last : (start at : ℕ) → IsPartitionedAt entries start (start + 1) at at → 0 < at → IsPartitionedAt entries start (start + 1) (at - 1) (at - 1 + 1)
  gap_last start at gap some = record {
    order = omega arith;
    within = (let within = gap.within in omega (arith, within, some));
    before = λ k default less. gap.before k default (omega (arith, less));
    behind = λ k default from inside. gap.behind k default (omega (arith, from, some)) inside;
  }

  pub order_set : (entry : Entry) (at : ℕ) → IsPartitionedAt entries entry.start (entry.start + 1) at (at + 1) → BeginInOrder (set entries at entry)
  order_set entry at gap i j default less within =
      let inside : j < length entries = subst (λ (n : ℕ). j < n) (length-set entries at entry) within in
      let here : at < length entries = (let most = gap.within in omega (arith, most)) in
      let changed : (k : ℕ) → k ≡ at → (get_or (set entries at entry) k default).start ≡ entry.start =
      λ k same. ap (λ (e : Entry). e.start) (get_or-set_at entries at k entry default same here) in
      let stays : (k : ℕ) → (k ≡ at → ⊥) → (get_or (set entries at entry) k default).start ≡ (get_or entries k default).start =
      λ k other. ap (λ (e : Entry). e.start) (get_or-set_other entries at k entry default other) in
      ⊎_elim
      (λ first. let high = gap.behind j default (omega (arith, first, less)) inside in
      omega (arith, changed i first, stays j (λ same. omega (arith, same, first, less)), high))
      (λ not_first. ⊎_elim
      (λ second. let low = gap.before i default (omega (arith, second, less)) in omega (arith, stays i not_first, changed j second, low))
      (λ not_second. omega (arith, stays i not_first, stays j not_second, order i j default less inside))
      (cases_eq j at)) (cases_eq i at)

  pub order_insert : (entry : Entry) (at : ℕ) → IsPartitionedAt entries entry.start (entry.start + 1) at at
      → BeginInOrder (take at entries ++ entry ∷ drop at entries)
  order_insert entry at gap = all_pairs_insert (λ (e later : Entry). e.start < later.start) entries at entry order
      (λ k default within. let short : k < at = search (arith, length-take, within) in
      subst (λ (e : Entry). e.start < entry.start) (sym (get_or-take at entries k default short)) (gap.before k default short))
      (λ k default within. let inside : at + k < length entries = search (arith, length-drop, within) in
      subst (λ (e : Entry). entry.start < e.start) (sym (get_or-drop at entries k default))
      (let high = gap.behind (at + k) default (omega arith) inside in omega (arith, high)))
