-- The devices of a pool that are left, and whom they outvote.
use Rattle.std.proofs.Common.{◌≡◌, inl, inr, ⊎_elim, ℕ, zero, suc, ◌<◌, ◌≤◌, List, [], ◌∷◌, Bool, true, false, refl}
use Rattle.std.proofs.Common.{sym, ◌∙◌, ap, subst, arith}
use Rattle.std.specs.Prelude.{Contains, All, nat_eq, if◌then◌else◌}
use Rattle.std.specs.List.{IsDistinct, AllByRecursion}
use Rattle.std.proofs.lemmas.Bool.{cases_lt, true≢false}
use Rattle.std.proofs.lemmas.Bool.Decides.{nat_tests}
use Rattle.uberblock_ring.specs.Devices.{has_device}
use Rattle.core_state.specs.Choosing.{Outvotes}
use Rattle.core_state.specs.Keeps.{left_below}
use Rattle.core_state.proofs.Listed.{contains_head, contains_tail}

-- Each of a list has this.
abbrev pub Each : (ℕ → Type 0) → List ℕ → Type 0
Each P [] = Unit {0}
Each P (number ∷ numbers) = P number × Each P numbers

pub each_all : (P : ℕ → Type 0) (numbers : List ℕ) → Each P numbers → All P numbers
each_all P [] each k default low = absurd (omega (arith, low))
each_all P (number ∷ numbers) each zero default low = each.0
each_all P (number ∷ numbers) each (suc k) default low = each_all P numbers each.1 k default (omega (arith, low))

module _ (failed : ℕ) where
  pub left_are : (width : ℕ)
      → Each (λ device. (device < width) × (has_device failed device ≡ false)) (left_below failed width)
  left_are zero = tt
  left_are (suc width) = by (has_device failed width) refl (wider (left_below failed width) (left_are width))
    where
      wider : (numbers : List ℕ)
          → Each (λ device. (device < width) × (has_device failed device ≡ false)) numbers
          → Each (λ device. (device < suc width) × (has_device failed device ≡ false)) numbers
      wider [] each = tt
      wider (number ∷ numbers) each =
          ((let low = each.0.0 in omega (arith, low), each.0.1), wider numbers each.1)

      by : (b : Bool) → has_device failed width ≡ b
          → Each (λ device. (device < suc width) × (has_device failed device ≡ false)) (left_below failed width)
          → Each (λ device. (device < suc width) × (has_device failed device ≡ false))
          (if b then left_below failed width else width ∷ left_below failed width)
      by true is rest = rest
      by false is rest = ((omega arith, is), rest)

  pub left_distinct : (width : ℕ) → IsDistinct nat_eq (left_below failed width)
  unfolding IsDistinct
  left_distinct zero = tt
  left_distinct (suc width) = by (has_device failed width) (left_distinct width)
    where
      unequal : (one other : ℕ) → other < one → nat_eq one other ≡ false
      unequal one other less = grind (arith, nat_tests, less)

      apart : (numbers : List ℕ) → Each (λ device. (device < width) × (has_device failed device ≡ false)) numbers
          → AllByRecursion (λ other. nat_eq width other ≡ false) numbers
      apart [] each = tt
      apart (number ∷ numbers) each = (unequal width number each.0.0, apart numbers each.1)

      by : (b : Bool) → IsDistinct nat_eq (left_below failed width)
          → IsDistinct nat_eq (if b then left_below failed width else width ∷ left_below failed width)
      by true rest = rest
      by false rest = (apart (left_below failed width) (left_are width), rest)

  pub left_has : (width device : ℕ) → device < width → has_device failed device ≡ false
      → Contains (left_below failed width) device
  left_has zero device below works = absurd (omega (arith, below))
  left_has (suc width) device below works = ⊎_elim
      (λ less. more (has_device failed width) (left_has width device less works))
      (λ above. last (omega (arith, below, above)) (has_device failed width) refl)
      (cases_lt device width)
    where
      more : (b : Bool) → Contains (left_below failed width) device
          → Contains (if b then left_below failed width else width ∷ left_below failed width) device
      more true has = has
      more false has = contains_tail width (left_below failed width) device has

      last : device ≡ width → (b : Bool) → has_device failed width ≡ b
          → Contains (if b then left_below failed width else width ∷ left_below failed width) device
      last same true gone = absurd (true≢false (sym gone ∙ ap (λ (d : ℕ). has_device failed d) (sym same) ∙ works))
      last same false is = subst (λ (d : ℕ). Contains (width ∷ left_below failed width) d) (sym same)
          (contains_head width (left_below failed width))

-- More voters outvote whom fewer did.
one_more : (device : ℕ) (voters others : List ℕ) → Outvotes voters others → Outvotes (device ∷ voters) others
one_more device voters others (inl less) = inl (omega (arith, less))
one_more device voters others (inr tie) = let same = tie.0 in inl (omega (arith, same))

-- So those that are left of more devices do.
pub outvotes_more : (failed low high : ℕ) (others : List ℕ) → low ≤ high → Outvotes (left_below failed low) others
    → Outvotes (left_below failed high) others
outvotes_more failed low zero others within outvotes =
    let same : low ≡ 0 = omega (arith, within) in
    subst (λ (width : ℕ). Outvotes (left_below failed width) others) same outvotes
outvotes_more failed low (suc high) others within outvotes = ⊎_elim
    (λ (less : low < suc high). by (has_device failed high)
    (outvotes_more failed low high others (omega (arith, less)) outvotes))
    (λ (above : suc high ≤ low). let same : low ≡ suc high = omega (arith, above, within) in
    subst (λ (width : ℕ). Outvotes (left_below failed width) others) same outvotes)
    (cases_lt low (suc high))
  where
    by : (b : Bool) → Outvotes (left_below failed high) others
        → Outvotes (if b then left_below failed high else high ∷ left_below failed high) others
    by true rest = rest
    by false rest = one_more high (left_below failed high) others rest

-- No two outvote each other.
pub not_both : (voters others : List ℕ) → Outvotes voters others → Outvotes others voters → ⊥
not_both voters others (inl less) (inl more) = omega (arith, less, more)
not_both voters others (inl less) (inr tie) = let same = tie.0 in omega (arith, less, same)
not_both voters others (inr tie) (inl more) = let same = tie.0 in omega (arith, more, same)
not_both voters others (inr (same, (one, (one_at, one_low, one_is), one_first)))
    (inr (again, (two, (two_at, two_low, two_is), two_first))) =
    let below : one < two = subst (λ (d : ℕ). one < d) two_is (one_first two_at two two_low) in
    let above : two < one = subst (λ (d : ℕ). two < d) one_is (two_first one_at one one_low) in
    omega (arith, below, above)
