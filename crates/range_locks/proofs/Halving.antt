-- A search by halving.
use Rattle.std.proofs.Common.{◌≡◌, ℕ, ◌+◌, ◌-◌, ◌*◌, ◌/◌, ◌^◌, ◌<◌, ◌≤◌, zero, suc, List, length, get_or, refl, subst}
use Rattle.std.proofs.Common.{arith, ⊎_elim}
use Rattle.std.specs.Prelude.{AllPairs}
use Rattle.std.proofs.Math.Nat.{pow-succ'}
use Rattle.std.proofs.lemmas.Bool.{cases_lt}
use Rattle.std.proofs.lemmas.List.{get_or_default}
use Rattle.range_locks.specs.declared.hold.Hold.{Hold}
use Rattle.range_locks.specs.declared.bound.Bound.{Bound}
use Rattle.range_locks.specs.Order.{IsPassed, IsPassedFirst, IsBetween, LeavesDigits}

-- The hold in the middle is passed: so are all before it.
pub between_up : (holds : List Hold) (bound : Bound) (low high middle : ℕ) (here : Hold) → AllPairs (IsPassedFirst bound) holds
    → IsBetween holds bound low high → low ≤ middle → middle < high → IsPassed bound (get_or holds middle here)
    → IsBetween holds bound (middle + 1) high
between_up holds bound low high middle here order is above below passed = record {
  order = omega (arith, below);
  within = is.within;
  before = λ k default less. ⊎_elim
      (λ earlier. order k middle default earlier inside (at_middle default))
      (λ rest. subst (λ (n : ℕ). IsPassed bound (get_or holds n default)) (omega (arith, rest, less)) (at_middle default))
      (cases_lt k middle);
  behind = is.behind;
}
  where
    inside : middle < length holds
    inside = let within = is.within in omega (arith, below, within)

    at_middle : (default : Hold) → IsPassed bound (get_or holds middle default)
    at_middle default = subst (IsPassed bound) (get_or_default holds middle here default inside) passed

-- It isn't passed: nor are those behind it.
pub between_down : (holds : List Hold) (bound : Bound) (low high middle : ℕ) (here : Hold) → AllPairs (IsPassedFirst bound) holds
    → IsBetween holds bound low high → low ≤ middle → middle < high → (IsPassed bound (get_or holds middle here) → ⊥)
    → IsBetween holds bound low middle
between_down holds bound low high middle here order is above below not = record {
  order = above;
  within = (let within = is.within in omega (arith, below, within));
  before = is.before;
  behind = λ k default from within passed. ⊎_elim
      (λ later. not (at_middle default (order middle k default later within passed)))
      (λ rest. let same : k ≡ middle = omega (arith, rest, from) in
      not (at_middle default (subst (λ (n : ℕ). IsPassed bound (get_or holds n default)) same passed)))
      (cases_lt middle k);
}
  where
    inside : middle < length holds
    inside = let within = is.within in omega (arith, below, within)

    at_middle : (default : Hold) → IsPassed bound (get_or holds middle default) → IsPassed bound (get_or holds middle here)
    at_middle default = subst (IsPassed bound) (get_or_default holds middle default here inside)

-- One step halves what is left, whichever half it is.
half : (size left middle : ℕ) → 0 < size → middle ≡ size / 2 → size < 2 ^ left
    → (less : ℕ) × (suc less ≡ left) × (middle < 2 ^ less) × (size < middle + 1 + 2 ^ less)
half size zero middle some is short = absurd (omega (arith, some, short))
half size (suc less) middle some is short =
    let double : 2 ^ suc less ≡ 2 * 2 ^ less = pow-succ' 2 less in
    (less, refl, omega (arith, is, short, double), omega (arith, is, short, double))

halved : (low high left middle : ℕ) → low < high → middle ≡ (high - low) / 2 → high < low + 2 ^ left
    → (less : ℕ) × (suc less ≡ left) × (middle < 2 ^ less) × (high - low < middle + 1 + 2 ^ less)
halved low high left middle some is short = half (high - low) left middle (omega (arith, some)) is (omega (arith, some, short))

pub digits_up : (number low high before now middle : ℕ) → LeavesDigits number low high before now → low < high
    → middle ≡ (high - low) / 2 → LeavesDigits number (low + middle + 1) high before (now + 1)
digits_up number low high before now middle leaves less is digits writes =
    let was = leaves digits writes in
    let step = halved low high was.0 middle less is was.2 in
    (step.0, (let counted = was.1 in let one = step.1 in omega arith), (let rest = step.3 in omega arith))

pub digits_down : (number low high before now middle : ℕ) → LeavesDigits number low high before now → low < high
    → middle ≡ (high - low) / 2 → LeavesDigits number low (low + middle) before (now + 1)
digits_down number low high before now middle leaves less is digits writes =
    let was = leaves digits writes in
    let step = halved low high was.0 middle less is was.2 in
    (step.0, (let counted = was.1 in let one = step.1 in omega arith), (let rest = step.2 in omega arith))
