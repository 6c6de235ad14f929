-- How many steps the searches of a grant take.
use Rattle.std.proofs.Common.{◌≡◌, ℕ, ◌+◌, ◌*◌, ◌^◌, ◌<◌, ◌≤◌, zero, suc, List, [], ◌∷◌, ◌++◌, length, Bool, true}
use Rattle.std.proofs.Common.{false, refl, sym, ◌∙◌, ap, subst, arith}
use Rattle.std.specs.Prelude.{All, cond, count_by}
use Rattle.std.proofs.Math.Nat.{pow-succ'}
use Rattle.std.proofs.lemmas.List.Elements.{All-head, All-tail}
use Rattle.std.proofs.lemmas.List.{length-append}
use Rattle.std.proofs.lemmas.List.Sums.{sum_by-append, sum_by-cons}
use Rattle.range_locks.specs.declared.hold.Hold.{Hold}
use Rattle.range_locks.specs.declared.hold.HoldKind.TheVariants.{Shared, Exclusive}
use Rattle.range_locks.specs.Order.{AreInOrder, TakesDigits, TakesDigitsOfBoth, exclusive_count, is_exclusive}
use Rattle.range_locks.specs.Order.{is_shared, shared_count}

-- what a hold adds to a count
abbrev one_if : Bool → ℕ
one_if counts = cond counts 1 0

count_more : (p : Hold → Bool) (hold : Hold) (holds : List Hold) → count_by p (hold ∷ holds) ≡ one_if (p hold) + count_by p holds
count_more p hold holds = sum_by-cons (λ h. one_if (p h)) hold holds

count_all : (p : Hold → Bool) (holds : List Hold) → All (λ hold. p hold ≡ true) holds → count_by p holds ≡ length holds
count_all p [] all = refl
count_all p (hold ∷ holds) all =
    let head = ap one_if (All-head (λ h. p h ≡ true) hold holds all) in
    let rest : count_by p holds ≡ length holds = count_all p holds (All-tail (λ h. p h ≡ true) hold holds all) in
    let more = count_more p hold holds in
    omega (arith, more, head, rest)

count_none : (p : Hold → Bool) (holds : List Hold) → All (λ hold. p hold ≡ false) holds → count_by p holds ≡ 0
count_none p [] all = refl
count_none p (hold ∷ holds) all =
    let head = ap one_if (All-head (λ h. p h ≡ false) hold holds all) in
    let rest : count_by p holds ≡ 0 = count_none p holds (All-tail (λ h. p h ≡ false) hold holds all) in
    let more = count_more p hold holds in
    omega (arith, more, head, rest)

count_both : (p : Hold → Bool) (shared exclusive : List Hold) → count_by p (shared ++ exclusive) ≡ count_by p shared + count_by p exclusive
count_both p shared exclusive = sum_by-append (λ hold. one_if (p hold)) shared exclusive

-- Each list has the holds of its kind.
pub exclusive_counted : (shared exclusive : List Hold) → All (λ hold. hold.kind ≡ Shared) shared
    → All (λ hold. hold.kind ≡ Exclusive) exclusive → exclusive_count (shared ++ exclusive) ≡ length exclusive
exclusive_counted shared exclusive are_shared are_exclusive =
    let both = count_both (λ hold. is_exclusive hold.kind) shared exclusive in
    let none = count_none (λ hold. is_exclusive hold.kind) shared (λ k default within. ap is_exclusive (are_shared k default within)) in
    let all = count_all (λ hold. is_exclusive hold.kind) exclusive (λ k default within. ap is_exclusive (are_exclusive k default within)) in
    omega (arith, both, none, all)

pub shared_counted : (shared exclusive : List Hold) → All (λ hold. hold.kind ≡ Shared) shared
    → All (λ hold. hold.kind ≡ Exclusive) exclusive → shared_count (shared ++ exclusive) ≡ length shared
shared_counted shared exclusive are_shared are_exclusive =
    let both = count_both (λ hold. is_shared hold.kind) shared exclusive in
    let none = count_none (λ hold. is_shared hold.kind) exclusive (λ k default within. ap is_shared (are_exclusive k default within)) in
    let all = count_all (λ hold. is_shared hold.kind) shared (λ k default within. ap is_shared (are_shared k default within)) in
    omega (arith, both, none, all)

-- A number has no more digits than it counts.
below_power : (n : ℕ) → n < 2 ^ n
below_power zero = omega arith
below_power (suc n) = let less = below_power n in let double : 2 ^ suc n ≡ 2 * 2 ^ n = pow-succ' 2 n in omega (arith, less, double)

module _ (shared exclusive holds : List Hold) (view : shared ++ exclusive ≡ holds) (are : AreInOrder shared exclusive) where
  -- A search among the exclusive holds, a look at one, and a search among the shared ones.
  pub steps_of_both : (seen other : List Hold) (before between after : ℕ) → seen ≡ exclusive → other ≡ shared
      → TakesDigits (length seen) (before + 1) between → TakesDigits (length other) between after → TakesDigitsOfBoth holds before after
  steps_of_both seen other before between after same also first second exclusive_digits shared_digits few few_shared =
      let one = first exclusive_digits (subst (λ (n : ℕ). n < 2 ^ exclusive_digits)
      (sym (ap exclusive_count view) ∙ exclusive_counted shared exclusive are.are_shared are.are_exclusive ∙ ap length (sym same)) few) in
      let two = second shared_digits (subst (λ (n : ℕ). n < 2 ^ shared_digits)
      (sym (ap shared_count view) ∙ shared_counted shared exclusive are.are_shared are.are_exclusive ∙ ap length (sym also)) few_shared) in
      omega (arith, one, two)

  -- A refusal comes before the second.
  pub steps_of_one : (seen : List Hold) (before after : ℕ) → seen ≡ exclusive → TakesDigits (length seen) (before + 1) after
      → TakesDigitsOfBoth holds before after
  steps_of_one seen before after same first =
      steps_of_both seen shared before after after same refl first (λ digits short. omega arith)

  -- A search among the exclusive holds, a look at one, and a walk over the shared ones.
  pub steps_of_walk : (seen other : List Hold) (before between after : ℕ) → seen ≡ exclusive → other ≡ shared
      → TakesDigits (length seen) (before + 1) between → after ≤ between + length other → after ≤ before + length holds + 1
  steps_of_walk seen other before between after same also first walk =
      let one = first (length seen) (below_power (length seen)) in
      let size : length holds ≡ length shared + length exclusive = ap length (sym view) ∙ length-append shared exclusive in
      omega (arith, one, walk, size, ap length same, ap length also)
