-- Edges, one put in or taken out.
use Rattle.std.proofs.Common.{◌≡◌, ◌≢◌, ℕ, suc, ◌+◌, ◌<◌, ◌≤◌, List, [], ◌∷◌, ◌++◌, length, take, drop, get_or, ◌∙◌, ap}
use Rattle.std.proofs.Common.{subst, arith, ⊎_elim, length-take, length-drop}
use Rattle.std.specs.Prelude.{cond, nat_le, insert, remove, set, slice_get, Err, Ok, Some}
use Rattle.std.specs.Ordering.{nat_cmp}
use Rattle.std.specs.List.Sorted.{IsBinarySearchResult}
use Rattle.std.proofs.lemmas.Bool.{cases_eq, cases_lt}
use Rattle.std.proofs.lemmas.List.{get_or_default, get_or-drop, get_or-set_other, get_or-take, length-set}
use Rattle.std.proofs.lemmas.Grind.{get_or-set_at}
use Rattle.std.proofs.lemmas.Option.{get_or_from_slice_get, slice_get-get_or, slice_get_within}
use Rattle.std.proofs.lemmas.List.Sorted.{searched}
use Rattle.std.proofs.lemmas.List.Sums.{sum_by-append, sum_by-cons, sum_by-insert, sum_by-remove, sum_by-set}
use Rattle.range_locks.proofs.Pairs.{all_pairs_insert, all_pairs_leave}
use Rattle.space_alloc.proofs.Lists.{split_at}
use Rattle.space_alloc.specs.Edges.{edges_to, IsFlipped, IsRising}

-- what an edge adds at a sector
abbrev pub step_of : ℕ → ℕ → ℕ
step_of sector edge = cond (nat_le edge sector) 1 0

pub edges_cons : (edge : ℕ) (edges : List ℕ) (sector : ℕ) → edges_to (edge ∷ edges) sector ≡ step_of sector edge + edges_to edges sector
edges_cons edge edges sector = sum_by-cons (step_of sector) edge edges

pub edges_append : (edges others : List ℕ) (sector : ℕ) → edges_to (edges ++ others) sector ≡ edges_to edges sector + edges_to others sector
edges_append edges others sector = sum_by-append (step_of sector) edges others

-- One that is put in, or taken out, is flipped.
pub inserted_flips : (edges : List ℕ) (at edge : ℕ) → IsFlipped edges (insert edges at edge) (edge ∷ [])
inserted_flips edges at edge sector =
    let more : edges_to (insert edges at edge) sector ≡ edges_to edges sector + step_of sector edge = sum_by-insert (step_of sector) edges at edge in
    let one = edges_cons edge [] sector in
    omega (arith, more, one)

pub removed_flips : (edges : List ℕ) (at edge : ℕ) → at < length edges → get_or edges at 0 ≡ edge → IsFlipped edges (remove edges at) (edge ∷ [])
removed_flips edges at edge within here sector =
    let less : edges_to (remove edges at) sector + step_of sector (get_or edges at 0) ≡ edges_to edges sector = sum_by-remove (step_of sector) edges at 0 within in
    let same = ap (step_of sector) here in
    let one = edges_cons edge [] sector in
    omega (arith, less, same, one)

-- Flips follow one another.
pub flips_then : (old between new : List ℕ) (start end : ℕ) → IsFlipped old between (start ∷ []) → IsFlipped between new (end ∷ [])
    → IsFlipped old new (start ∷ end ∷ [])
flips_then old between new start end first second sector =
    let one = first sector in
    let other = second sector in
    let both = edges_append (start ∷ []) (end ∷ []) sector in
    omega (arith, one, other, both)

-- They rise still.
pub removed_rises : (edges : List ℕ) (at : ℕ) → at < length edges → IsRising edges → IsRising (remove edges at)
removed_rises edges at within rising =
    all_pairs_leave (λ edge later. edge < later) (take at edges) (drop (suc at) edges) (get_or edges at 0)
    (subst IsRising (split_at edges (get_or edges at 0) at (slice_get-get_or edges at 0 within)) rising)

pub rising_weakly : (edges : List ℕ) → IsRising edges → (i j : ℕ) → i ≤ j → j < length edges → get_or edges i 0 ≤ get_or edges j 0
rising_weakly edges rising i j order within = ⊎_elim
    (λ before. let less : get_or edges i 0 < get_or edges j 0 = rising i j 0 before within in omega (arith, less))
    (λ from. let same : i ≡ j = omega (arith, order, from) in omega (arith, ap (λ (n : ℕ). get_or edges n 0) same))
    (cases_lt i j)

pub inserted_rises : (edges : List ℕ) (at edge : ℕ) → IsBinarySearchResult (λ y. nat_cmp y edge) edges (Err at) → IsRising edges
    → IsRising (insert edges at edge)
inserted_rises edges at edge found rising =
    let place = searched edges edge (Err at) found (rising_weakly edges rising) in
    all_pairs_insert (λ one later. one < later) edges at edge rising
    (λ k default within. let short : k < at = search (arith, length-take, within) in
    let inside : k < length edges = search (arith, length-take, within) in
    let low : get_or edges k 0 < edge = place.1 k short in
    let same : get_or (take at edges) k default ≡ get_or edges k 0 = get_or-take at edges k default short ∙ get_or_default edges k default 0 inside in
    omega (arith, same, low))
    (λ k default within. let inside : at + k < length edges = search (arith, length-drop, within) in
    let high : edge < get_or edges (at + k) 0 = place.2 (at + k) (omega arith) inside in
    let same : get_or (drop at edges) k default ≡ get_or edges (at + k) 0 = get_or-drop at edges k default ∙ get_or_default edges (at + k) default 0 inside in
    omega (arith, same, high))

-- An edge that moves is taken out and put in again.
pub set_flips : (edges : List ℕ) (at from to : ℕ) → at < length edges → get_or edges at 0 ≡ from → IsFlipped edges (set edges at to) (from ∷ to ∷ [])
set_flips edges at from to within here sector =
    let moved : edges_to (set edges at to) sector + step_of sector (get_or edges at 0) ≡ edges_to edges sector + step_of sector to =
    sum_by-set (step_of sector) edges at to 0 within in
    let same = ap (step_of sector) here in
    let both = edges_cons from (to ∷ []) sector in
    let one = edges_cons to [] sector in
    omega (arith, moved, same, both, one)

-- They rise still where it stays above those before it and below those behind it.
pub set_rises : (edges : List ℕ) (at to : ℕ) → at < length edges → IsRising edges
    → ((k : ℕ) → k < at → get_or edges k 0 < to) → ((k : ℕ) → at < k → k < length edges → to < get_or edges k 0)
    → IsRising (set edges at to)
set_rises edges at to within rising low high i j default before inside =
    let len : length (set edges at to) ≡ length edges = length-set edges at to in
    let j_in : j < length edges = omega (arith, inside, len) in
    let other : (k : ℕ) → k ≢ at → k < length edges → get_or (set edges at to) k default ≡ get_or edges k 0 =
    λ k apart k_in. get_or-set_other edges at k to default apart ∙ get_or_default edges k default 0 k_in in
    let here : (k : ℕ) → k ≡ at → get_or (set edges at to) k default ≡ to = λ k same. get_or-set_at edges at k to default same within in
    ⊎_elim
    (λ (first : i ≡ at). let a = here i first in let b = other j (λ same. omega (arith, same, first, before)) j_in in
    let above : to < get_or edges j 0 = high j (omega (arith, first, before)) j_in in omega (arith, a, b, above))
    (λ (apart : i ≢ at). let i_in : i < length edges = omega (arith, before, j_in) in let a = other i apart i_in in ⊎_elim
    (λ (second : j ≡ at). let b = here j second in let below : get_or edges i 0 < to = low i (omega (arith, second, before)) in omega (arith, a, b, below))
    (λ (far : j ≢ at). let b = other j far j_in in let less : get_or edges i 0 < get_or edges j 0 = rising i j 0 before j_in in omega (arith, a, b, less))
    (cases_eq j at))
    (cases_eq i at)

-- An edge moves up to a sector below the next one,
pub moved_up_rises : (edges : List ℕ) (at start end : ℕ) → IsBinarySearchResult (λ y. nat_cmp y start) edges (Ok at) → start < end
    → (at + 1 < length edges → end < get_or edges (at + 1) 0) → IsRising edges → IsRising (set edges at end)
moved_up_rises edges at start end found order next rising =
    let place = searched edges start (Ok at) found (rising_weakly edges rising) in
    set_rises edges at end place.0 rising
    (λ k before. let less : get_or edges k 0 < get_or edges at 0 = rising k at 0 before place.0 in omega (arith, less, place.1, order))
    (λ k behind k_in. let above : end < get_or edges (at + 1) 0 = next (omega (arith, behind, k_in)) in
    let weak : get_or edges (at + 1) 0 ≤ get_or edges k 0 = rising_weakly edges rising (at + 1) k (omega (arith, behind)) k_in in
    omega (arith, above, weak))

-- or down to one between it and the edge before.
module _ (edges : List ℕ) (at start end : ℕ) (here : slice_get edges at ≡ Some end) where
  within : at < length edges
  within = slice_get_within edges at end here

  read : get_or edges at 0 ≡ end
  read = get_or_from_slice_get edges at end 0 here

  pub moved_down_rises : IsBinarySearchResult (λ y. nat_cmp y start) edges (Err at) → IsRising edges → IsRising (set edges at start)
  moved_down_rises found rising =
      let place = searched edges start (Err at) found (rising_weakly edges rising) in
      set_rises edges at start within rising place.1
      (λ k behind k_in. let first : start < get_or edges at 0 = place.2 at (omega arith) within in
      let less : get_or edges at 0 < get_or edges k 0 = rising at k 0 behind k_in in omega (arith, first, less))

  pub moved_down_flips : IsFlipped edges (set edges at start) (start ∷ end ∷ [])
  moved_down_flips sector =
      let flips = set_flips edges at end start within read sector in
      let one = edges_append (start ∷ []) (end ∷ []) sector in
      let other = edges_append (end ∷ []) (start ∷ []) sector in
      omega (arith, flips, one, other)
