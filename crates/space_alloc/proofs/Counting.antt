-- How many edges stand at or below a sector, and how many free runs there are.
use Rattle.std.proofs.Common.{◌≡◌, Bool, true, false, ℕ, zero, suc, ◌+◌, ◌-◌, ◌*◌, ◌/◌, ◌%◌, ◌<◌, ◌≤◌, List, [], ◌∷◌}
use Rattle.std.proofs.Common.{◌++◌, length, take, drop, get_or, ◌∙◌, ap, subst, arith, ⊎_elim, length-append}
use Rattle.std.specs.Prelude.{Some, Contains, cond, nat_lt}
use Rattle.std.proofs.lemmas.Bool.{cases_lt}
use Rattle.std.proofs.lemmas.Bool.Decides.{nat_tests}
use Rattle.std.proofs.lemmas.List.{get_or_default, get_or_past}
use Rattle.std.proofs.lemmas.List.Elements.{Contains-append_cases, Contains-append_left, Contains-append_right}
use Rattle.std.proofs.lemmas.Option.{slice_get-get_or}
use Rattle.range_locks.proofs.Lists.{listed_cases}
use Rattle.space_alloc.specs.Edges.{edges_to, IsUnused, IsRising}
use Rattle.space_alloc.specs.Fit.{HasBegins, IsRunTo, first_run}
use Rattle.space_alloc.proofs.Flipping.{edges_cons, rising_weakly}
use Rattle.space_alloc.proofs.Lists.{split_at}
use Rattle.space_alloc.proofs.Unused.{step_one, step_none}

count_at : (edges : List ℕ) (k sector : ℕ) → k ≤ length edges → ((i : ℕ) → i < k → get_or edges i 0 ≤ sector)
    → ((i : ℕ) → k ≤ i → i < length edges → sector < get_or edges i 0) → edges_to edges sector ≡ k
count_at [] k sector within low high = omega (arith, within)
count_at (edge ∷ edges) zero sector within low high =
    let rest : edges_to edges sector ≡ 0 = count_at edges 0 sector (omega arith) (λ i less. absurd (omega (arith, less)))
    (λ i from inside. high (suc i) (omega arith) (omega (arith, inside))) in
    let none = step_none sector edge (high 0 (omega arith) (omega arith)) in
    let more = edges_cons edge edges sector in
    omega (arith, rest, none, more)
count_at (edge ∷ edges) (suc k) sector within low high =
    let rest : edges_to edges sector ≡ k = count_at edges k sector (omega (arith, within)) (λ i less. low (suc i) (omega (arith, less)))
    (λ i from inside. high (suc i) (omega (arith, from)) (omega (arith, inside))) in
    let one = step_one sector edge (low 0 (omega arith)) in
    let more = edges_cons edge edges sector in
    omega (arith, rest, one, more)

-- Between two edges as many stand at or below a sector as come before.
pub count_between : (edges : List ℕ) (k sector : ℕ) → IsRising edges → k ≤ length edges → ((i : ℕ) → i + 1 ≡ k → get_or edges i 0 ≤ sector)
    → (k < length edges → sector < get_or edges k 0) → edges_to edges sector ≡ k
count_between edges zero sector rising within low high = count_at edges 0 sector within (λ i less. absurd (omega (arith, less)))
    (λ i from inside. let above : get_or edges 0 0 ≤ get_or edges i 0 = rising_weakly edges rising 0 i from inside in
    let first = high (omega (arith, inside)) in omega (arith, above, first))
count_between edges (suc k) sector rising within low high = count_at edges (suc k) sector within
    (λ i less. let below : get_or edges i 0 ≤ get_or edges k 0 = rising_weakly edges rising i k (omega (arith, less)) (omega (arith, within)) in
    let last = low k (omega arith) in omega (arith, below, last))
    (λ i from inside. let above : get_or edges (suc k) 0 ≤ get_or edges i 0 = rising_weakly edges rising (suc k) i from inside in
    let first = high (omega (arith, from, inside)) in omega (arith, above, first))

-- The free run that ends at an edge, or at the capacity behind the last one.
pub run_to : (edges : List ℕ) (capacity start last : ℕ) → IsRising edges → last % 2 ≡ 0 → last ≤ length edges
    → ((i : ℕ) → i + 1 ≡ last → get_or edges i 0 ≤ start) → IsRunTo edges capacity start (get_or edges last capacity) (last + 1)
run_to edges capacity start last rising even within low = record {
  odd = omega (arith, even);
  unused = λ sector from below.
      let count = count_between edges last sector rising within (λ i is. let least = low i is in omega (arith, least, from))
      (λ inside. let same = get_or_default edges last capacity 0 inside in omega (arith, below, same)) in
      omega (arith, count, even);
  ends = λ k is inside.
      let same : k ≡ last = omega (arith, is) in
      get_or_default edges k 0 capacity inside ∙ ap (λ (n : ℕ). get_or edges n capacity) same;
  behind = λ sector from below unused. behind_it sector from below unused;
}
  where
    past : (sector : ℕ) → get_or edges last capacity ≤ sector → sector < capacity → last < length edges
    past sector from below = ⊎_elim (λ inside. inside)
        (λ beyond. let same : get_or edges last capacity ≡ capacity = get_or_past edges last capacity beyond in absurd (omega (arith, from, below, same)))
        (cases_lt last (length edges))

    at_last : (sector : ℕ) → last < length edges → get_or edges last capacity ≤ sector → get_or edges last 0 ≤ sector
    at_last sector inside from = let same = get_or_default edges last capacity 0 inside in omega (arith, same, from)

    odd_here : (sector : ℕ) → last < length edges → get_or edges last capacity ≤ sector → IsUnused edges sector
        → (last + 1 < length edges → sector < get_or edges (last + 1) 0) → ⊥
    odd_here sector inside from unused high =
        let count = count_between edges (last + 1) sector rising (omega (arith, inside))
        (λ i is. let same : i ≡ last = omega (arith, is) in let least = at_last sector inside from in
        let here = ap (λ (n : ℕ). get_or edges n 0) same in omega (arith, least, here)) high in
        omega (arith, count, even, unused)

    behind_it : (sector : ℕ) → get_or edges last capacity ≤ sector → sector < capacity → IsUnused edges sector
        → (last + 1 < length edges) × (get_or edges last capacity < get_or edges (last + 1) 0) × (get_or edges (last + 1) 0 ≤ sector)
    behind_it sector from below unused =
        let inside : last < length edges = past sector from below in
        ⊎_elim
        (λ more. let step : get_or edges last 0 < get_or edges (last + 1) 0 = rising last (last + 1) 0 (omega arith) more in
        let same = get_or_default edges last capacity 0 inside in (
          more,
          omega (arith, step, same),
          ⊎_elim (λ less. absurd (odd_here sector inside from unused (λ again. less))) (λ most. most)
              (cases_lt sector (get_or edges (last + 1) 0)),
        ))
        (λ none. absurd (odd_here sector inside from unused (λ more. absurd (omega (arith, more, none)))))
        (cases_lt (last + 1) (length edges))

-- So many different numbers that a list has are no more than it has.
pub few_of : (m : ℕ) (f : ℕ → ℕ) (xs : List ℕ) → ((i j : ℕ) → i < j → j < m → f i < f j) → ((j : ℕ) → j < m → Contains xs (f j)) → m ≤ length xs
few_of zero f xs rising listed = omega arith
few_of (suc m) f xs rising listed =
    let last : Contains xs (f m) = listed m (omega arith) in
    let at = last.0 in
    let parts : xs ≡ take at xs ++ f m ∷ drop (suc at) xs =
    split_at xs (f m) at (slice_get-get_or xs at (f m) last.1 ∙ ap (λ (n : ℕ). Some n) last.2) in
    let rest : m ≤ length (take at xs ++ drop (suc at) xs) = few_of m f (take at xs ++ drop (suc at) xs)
    (λ i j less below. rising i j less (omega (arith, below)))
    (λ j below. ⊎_elim (λ left. Contains-append_left (take at xs) (drop (suc at) xs) (f j) left)
    (λ right. ⊎_elim
    (λ same. let less : f j < f m = rising j m below (omega arith) in absurd (omega (arith, less, same)))
    (λ behind. Contains-append_right (take at xs) (drop (suc at) xs) (f j) behind)
    (listed_cases (f m) (f j) (drop (suc at) xs) right))
    (Contains-append_cases (take at xs) (f m ∷ drop (suc at) xs) (f j)
    (subst (λ (l : List ℕ). Contains l (f j)) parts (listed j (omega (arith, below)))))) in
    let whole = ap (λ (l : List ℕ). length l) parts ∙ length-append (take at xs) (f m ∷ drop (suc at) xs) in
    let less = length-append (take at xs) (drop (suc at) xs) in
    omega (arith, rest, whole, less)

-- where the free run with this number begins, of those that the edges tell of, when one begins at sector 0
abbrev begin_of : List ℕ → ℕ → ℕ
begin_of edges zero = 0
begin_of edges (suc i) = get_or edges (2 * i + 1) 0

module _ (edges : List ℕ) (capacity next : ℕ) (begins : List ℕ) (rising : IsRising edges) (some : 0 < capacity) (odd : next % 2 ≡ 1)
    (seen : (edge : ℕ) → edge + 2 < next → (edge < length edges) × (get_or edges edge 0 < capacity)) (all : HasBegins edges capacity begins) where
  listed_behind : (i : ℕ) → 2 * i + 3 < next → Contains begins (get_or edges (2 * i + 1) 0)
  listed_behind i below =
      let here = seen (2 * i + 1) (omega (arith, below)) in
      let step : get_or edges (2 * i) 0 < get_or edges (2 * i + 1) 0 = rising (2 * i) (2 * i + 1) 0 (omega arith) here.0 in
      all (get_or edges (2 * i + 1) 0) here.1
      (let count = count_between edges (2 * i + 2) (get_or edges (2 * i + 1) 0) rising (let inside = here.0 in omega (arith, inside))
      (λ k is. let same = ap (λ (n : ℕ). get_or edges n 0) (omega (arith, is)) in
      let this : get_or edges k 0 ≡ get_or edges (2 * i + 1) 0 = same in omega (arith, this))
      (λ more. rising (2 * i + 1) (2 * i + 2) 0 (omega arith) more) in omega (arith, count))
      (λ before is unused.
      let count = count_between edges (2 * i + 1) before rising (let inside = here.0 in omega (arith, inside))
      (λ k last. let same = ap (λ (n : ℕ). get_or edges n 0) (omega (arith, last)) in
      let this : get_or edges k 0 ≡ get_or edges (2 * i) 0 = same in omega (arith, this, step, is))
      (λ more. omega (arith, is)) in omega (arith, count, unused))

  rising_behind : (i j : ℕ) → i < j → 2 * j + 3 < next → get_or edges (2 * i + 1) 0 < get_or edges (2 * j + 1) 0
  rising_behind i j less below = rising (2 * i + 1) (2 * j + 1) 0 (omega (arith, less)) (seen (2 * j + 1) (omega (arith, below))).0

  listed_first : 0 < get_or edges 0 capacity → Contains begins 0
  listed_first first = all 0 some
      (let count = count_between edges 0 0 rising (omega arith) (λ k is. absurd (omega (arith, is)))
      (λ more. let same = get_or_default edges 0 capacity 0 more in omega (arith, first, same)) in omega (arith, count))
      (λ before is. absurd (omega (arith, is)))

  with_first : 0 < get_or edges 0 capacity → next / 2 ≤ length begins
  with_first first = few_of (next / 2) (begin_of edges) begins rises listed
    where
      above : (j : ℕ) → 2 * j + 3 < next → 0 < get_or edges (2 * j + 1) 0
      above j below =
          let here = seen (2 * j + 1) (omega (arith, below)) in
          let low : get_or edges 0 0 < get_or edges (2 * j + 1) 0 = rising 0 (2 * j + 1) 0 (omega arith) here.0 in
          omega (arith, low)

      rises : (i j : ℕ) → i < j → j < next / 2 → begin_of edges i < begin_of edges j
      rises zero zero less below = absurd (omega (arith, less))
      rises zero (suc j) less below = above j (omega (arith, below, odd))
      rises (suc i) zero less below = absurd (omega (arith, less))
      rises (suc i) (suc j) less below = rising_behind i j (omega (arith, less)) (omega (arith, below, odd))

      listed : (j : ℕ) → j < next / 2 → Contains begins (begin_of edges j)
      listed zero below = listed_first first
      listed (suc j) below = listed_behind j (omega (arith, below, odd))

  without_first : next / 2 ≤ length begins + 1
  without_first =
      let few : next / 2 - 1 ≤ length begins = few_of (next / 2 - 1) (λ i. get_or edges (2 * i + 1) 0) begins
      (λ i j less below. rising_behind i j less (omega (arith, below, odd))) (λ j below. listed_behind j (omega (arith, below, odd))) in
      omega (arith, few)

  -- All free runs that were looked at but the last begin below the capacity.
  pub looked_few : first_run edges capacity + next / 2 ≤ length begins + 1
  looked_few = ⊎_elim
      (λ first. let few = with_first first in let one : first_run edges capacity ≤ 1 = at_most_one (nat_lt 0 (get_or edges 0 capacity)) in omega (arith, few, one))
      (λ none. let few = without_first in let zero_is : first_run edges capacity ≡ 0 = grind (arith, nat_tests, none) in omega (arith, few, zero_is))
      (cases_lt 0 (get_or edges 0 capacity))
    where
      at_most_one : (b : Bool) → cond b 1 0 ≤ 1
      at_most_one true = omega arith
      at_most_one false = omega arith
