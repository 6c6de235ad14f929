-- Uberblocks that stood by device are sorted by group, each group's devices in their order.
use Rattle.std.proofs.Common.{◌≡◌, inl, inr, ⊎_elim, ℕ, zero, suc, ◌+◌, ◌-◌, ◌<◌, ◌≤◌, List, Bool, true, false, ◌∙◌}
use Rattle.std.proofs.Common.{subst, arith, get_or}
use Rattle.std.specs.Prelude.{length}
use Rattle.std.specs.Ordering.{is_lt, nat_cmp}
use Rattle.std.specs.List.Sorted.{IsSortedBy, IsStableBy, ties}
use Rattle.std.proofs.lemmas.Bool.{cases_eq}
use Rattle.std.proofs.lemmas.Bool.Decides.{nat_tests}
use Rattle.std.proofs.lemmas.Cmp.{nat_cmp_total}
use Rattle.std.proofs.lemmas.List.Sorted.{IsStrictWeakOrder-flip, ranks_by, ties_stay_sorted}
use Rattle.core_open.specs.declared.ring_uber.RingUber.{RingUber}
use Rattle.core_open.specs.RingUbers.{AreByDevice, AreByGroup, GoesBefore}

-- the order in which they stood, and the one by which they are sorted
abbrev by_device : RingUber → RingUber → Bool
by_device one other = is_lt (nat_cmp one.device other.device)

abbrev pub by_group : RingUber → RingUber → Bool
by_group one other = is_lt (nat_cmp other.uber.group one.uber.group)

-- What the tests of the order say of numbers.
below_not : (n m : ℕ) → n ≤ m → is_lt (nat_cmp m n) ≡ false
below_not n m le = grind (arith, nat_tests)

not_below : (n m : ℕ) → is_lt (nat_cmp m n) ≡ false → n ≤ m
not_below n m is = grind (arith, nat_tests)

-- Uberblocks of one group tie.
tie : (one other : RingUber) → one.uber.group ≡ other.uber.group → ties by_group one other ≡ true
tie one other same = grind (arith, nat_tests)

-- The order joins up.
before_then : (one mid other : RingUber) → GoesBefore one mid → GoesBefore mid other → GoesBefore one other
before_then one mid other first next = ⊎_elim
    (λ (less : mid.uber.group < one.uber.group). inl (⊎_elim
    (λ (more : other.uber.group < mid.uber.group). omega (arith, less, more))
    (λ (level : (mid.uber.group ≡ other.uber.group) × (mid.device ≤ other.device)). omega (arith, less, level.0))
    next))
    (λ (level : (one.uber.group ≡ mid.uber.group) × (one.device ≤ mid.device)). ⊎_elim
    (λ (more : other.uber.group < mid.uber.group). inl (omega (arith, level.0, more)))
    (λ (equal : (mid.uber.group ≡ other.uber.group) × (mid.device ≤ other.device)).
    inr (level.0 ∙ equal.0, omega (arith, level.1, equal.1)))
    next)
    first

-- Neighbours in order make all in order.
all_from_next : (ubers : List RingUber)
    → ((k : ℕ) (d : RingUber) → k + 1 < length ubers → GoesBefore (get_or ubers k d) (get_or ubers (k + 1) d))
    → AreByGroup ubers
all_from_next ubers next one other d apart below = far (other - one - 1) one other d (omega (arith, apart)) below
  where
    far : (gap one other : ℕ) (d : RingUber) → other ≡ one + 1 + gap → other < length ubers
        → GoesBefore (get_or ubers one d) (get_or ubers other d)
    far zero one other d is below =
        subst (λ k. GoesBefore (get_or ubers one d) (get_or ubers k d)) (omega (arith, is))
        (next one d (omega (arith, is, below)))
    far (suc gap) one other d is below = before_then (get_or ubers one d) (get_or ubers (one + 1) d) (get_or ubers other d)
        (next one d (omega (arith, is, below)))
        (far gap (one + 1) other d (omega (arith, is)) below)

-- A stable sort by group leaves each group's devices in their order.
pub sorted_by_group : (before after : List RingUber) → AreByDevice before → IsSortedBy by_group after
    → IsStableBy by_group before after
    → AreByGroup after
sorted_by_group before after devices sorted stable = all_from_next after (λ k d low.
    let level : (get_or after (k + 1) d).uber.group ≤ (get_or after k d).uber.group =
    not_below _ _ (sorted k d (omega arith) low) in ⊎_elim
    (λ (same : (get_or after k d).uber.group ≡ (get_or after (k + 1) d).uber.group).
    inr (
      same,
      not_below _ _ (ties_stay_sorted by_device by_group (ranks_by nat_cmp_total (λ (c : RingUber). c.device))
          (IsStrictWeakOrder-flip _ (ranks_by nat_cmp_total (λ (c : RingUber). c.uber.group)))
          before after up stable k d low (tie (get_or after k d) (get_or after (k + 1) d) same)),
    ))
    (λ apart. inl (omega (arith, level, apart)))
    (cases_eq (get_or after k d).uber.group (get_or after (k + 1) d).uber.group))
  where
    up : IsSortedBy by_device before
    up k d low below = below_not _ _ (devices k (k + 1) d (omega arith) below)
