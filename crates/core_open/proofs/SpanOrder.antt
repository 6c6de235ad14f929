-- Spans in the order of their starts: none reaches into another exactly where each one ends before
-- the next begins.
use Rattle.std.proofs.Common.{◌≡◌, ◌≢◌, inl, inr, ⊎_elim, ℕ, suc, ◌<◌, ◌≤◌, List, [], ◌∷◌, length, get_or, drop, refl}
use Rattle.std.proofs.Common.{sym, ◌∙◌, ap, subst, arith, drop-cons}
use Rattle.std.specs.Prelude.{All, AllPairs, Bool, ◌↔◌, IsTrue, swap}
use Rattle.std.specs.List.Sorted.{IsPermutation}
use Rattle.std.proofs.lemmas.Bool.{cases_eq, cases_lt}
use Rattle.std.proofs.lemmas.List.{drop_all}
use Rattle.std.proofs.lemmas.List.Edits.{Swapped, swapped_from_swap, length-swap}
use Rattle.std.proofs.lemmas.List.Elements.{All-head, All-tail, All-cons}
use Rattle.std.proofs.lemmas.List.Kept.{AllPairs-cons}
use Rattle.std.proofs.lemmas.List.Sorted.{IsPermutation-keeps, IsPermutation-sym}
use Rattle.core_open.specs.declared.fitting.Span.{Span}
use Rattle.core_open.specs.Spans.{AreDisjoint, AreByStart, IsFilled}

-- The first begins at this sector or after it, and each next one where the one before ends, or
-- after it.
abbrev pub FollowFrom : ℕ → List Span → Type 0
FollowFrom end [] = Unit {0}
FollowFrom end (span ∷ spans) = (end ≤ span.start) × FollowFrom span.end spans

-- Spans that follow from a sector all begin at it or after it,
all_after : (end : ℕ) (spans : List Span) → All IsFilled spans → FollowFrom end spans
    → All (λ span. end ≤ span.start) spans
all_after end [] filled follow = λ k d within. absurd (omega (arith, within))
all_after end (span ∷ spans) filled follow =
    let rest = all_after span.end spans (All-tail IsFilled span spans filled) follow.1 in
    let first : span.start < span.end = All-head IsFilled span spans filled in
    All-cons (λ other. end ≤ other.start) span spans follow.0
    (λ k d within. omega (arith, follow.0, first, rest k d within))

-- so none of them reaches into another.
clear_from_follow : (end : ℕ) (spans : List Span) → All IsFilled spans → FollowFrom end spans
    → AllPairs AreDisjoint spans
clear_from_follow end [] filled follow = λ i j d before within. absurd (omega (arith, within))
clear_from_follow end (span ∷ spans) filled follow =
    let rest = All-tail IsFilled span spans filled in
    let after = all_after span.end spans rest follow.1 in
    AllPairs-cons AreDisjoint span spans (λ k d within. inl (after k d within))
    (clear_from_follow span.end spans rest follow.1)

-- Of two that are clear, the one that begins later begins where the other ends, or after it.
follow_next : (first : Span) (spans : List Span) → All IsFilled (first ∷ spans)
    → AreByStart (first ∷ spans) → AllPairs AreDisjoint (first ∷ spans) → FollowFrom first.end spans
follow_next first [] filled sorted clear = tt
follow_next first (next ∷ spans) filled sorted clear =
    let two : 1 < length (first ∷ next ∷ spans) = omega arith in
    let order : first.start ≤ next.start = sorted 0 1 first (omega arith) two in
    let some : next.start < next.end = filled 1 first two in
    let begins : first.end ≤ next.start = ⊎_elim (λ before. before)
    (λ behind. absurd (omega (arith, behind, order, some))) (clear 0 1 first (omega arith) two) in (
      begins,
      follow_next next spans (All-tail IsFilled first (next ∷ spans) filled)
          (λ i j d before within.
          sorted (suc i) (suc j) d (omega (arith, before)) (omega (arith, within)))
          (λ i j d before within.
          clear (suc i) (suc j) d (omega (arith, before)) (omega (arith, within))),
    )

follow_from_clear : (spans : List Span) → All IsFilled spans → AreByStart spans
    → AllPairs AreDisjoint spans
    → FollowFrom 0 spans
follow_from_clear [] filled sorted clear = tt
follow_from_clear (first ∷ spans) filled sorted clear =
    (omega arith, follow_next first spans filled sorted clear)

-- So one walk in the order of their starts tells whether all are clear.
pub follow_iff_clear : (spans : List Span) → All IsFilled spans → AreByStart spans
    → FollowFrom 0 spans ↔ AllPairs AreDisjoint spans
follow_iff_clear spans filled sorted =
    (clear_from_follow 0 spans filled, follow_from_clear spans filled sorted)

-- The walk ends at a span that begins before the one before it ends,
pub follow_broken : (spans : List Span) (index end : ℕ) (d : Span) → index < length spans
    → (get_or spans index d).start < end
    → FollowFrom end (drop index spans) ↔ FollowFrom 0 spans
    → FollowFrom 0 spans
    → ⊥
follow_broken spans index end d within begins so_far whole =
    let left = subst (FollowFrom end) (drop-cons spans index d within) (so_far.1 whole) in
    let here : end ≤ (get_or spans index d).start = left.0 in
    omega (arith, here, begins)

-- or at the end of all.
pub follow_whole : (spans : List Span) (index end : ℕ) → index ≡ length spans
    → FollowFrom end (drop index spans) ↔ FollowFrom 0 spans
    → FollowFrom 0 spans
follow_whole spans index end is so_far =
    so_far.0 (subst (FollowFrom end) (sym (drop_all index spans (omega (arith, is)))) tt)

-- Pairs that go both ways stay when two elements change places, and so in any other order.
module _ {X : Type 0} (R : X → X → Type 0) (both : (one other : X) → R one other → R other one)
  where
    two_places : (xs : List X) (i j : ℕ) (d : X) → AllPairs R xs → i ≢ j → i < length xs
        → j < length xs
        → R (get_or xs i d) (get_or xs j d)
    two_places xs i j d pairs differ i_in j_in = ⊎_elim (λ before. pairs i j d before j_in)
        (λ behind. both (get_or xs j d) (get_or xs i d)
        (pairs j i d (omega (arith, behind, differ)) i_in))
        (cases_lt i j)

    -- where the element at a place stood before
    moved : (f g : ℕ → X) (a b n : ℕ) → Swapped f g a b → a < n → b < n → (place : ℕ) → place < n
        → (was : ℕ) × (was < n) × (g place ≡ f was) × (place ≡ a → was ≡ b) × (place ≡ b → was ≡ a)
        × ((place ≡ a → ⊥) → (place ≡ b → ⊥) → was ≡ place)
    moved f g a b n swapped a_in b_in place within = ⊎_elim
        (λ at_a. (
          b,
          b_in,
          ap g at_a ∙ swapped.0,
          λ same. refl,
          λ at_b. omega (arith, at_a, at_b),
          λ not_a not_b. absurd (not_a at_a),
        ))
        (λ not_a. ⊎_elim
        (λ at_b. (
          a,
          a_in,
          ap g at_b ∙ swapped.1,
          λ at_a. absurd (not_a at_a),
          λ same. refl,
          λ nor_a not_b. absurd (not_b at_b),
        ))
        (λ not_b. (
          place,
          within,
          swapped.2 place not_a not_b,
          λ at_a. absurd (not_a at_a),
          λ at_b. absurd (not_b at_b),
          λ nor_a nor_b. refl,
        ))
        (cases_eq place b))
        (cases_eq place a)

    -- Two places come from two places.
    still_differ : (a b i j s t : ℕ) → (i ≡ j → ⊥) → (i ≡ a → s ≡ b) → (i ≡ b → s ≡ a)
        → ((i ≡ a → ⊥) → (i ≡ b → ⊥) → s ≡ i) → (j ≡ a → t ≡ b) → (j ≡ b → t ≡ a)
        → ((j ≡ a → ⊥) → (j ≡ b → ⊥) → t ≡ j) → s ≡ t
        → ⊥
    still_differ a b i j s t differ i_a i_b i_else j_a j_b j_else same = grind arith

    pairs_swapped : (xs : List X) (a b : ℕ) → a < length xs → b < length xs → AllPairs R xs
        → AllPairs R (swap xs a b)
    pairs_swapped xs a b a_in b_in pairs i j d before within =
        let long = length-swap xs a b in
        let swapped = swapped_from_swap xs (swap xs a b) a b d a_in b_in refl in
        let i_in : i < length xs = omega (arith, before, within, long) in
        let j_in : j < length xs = omega (arith, within, long) in
        let one = moved _ _ a b (length xs) swapped a_in b_in i i_in in
        let other = moved _ _ a b (length xs) swapped a_in b_in j j_in in
        let differ = still_differ a b i j one.0 other.0 (λ same. omega (arith, before, same)) one.3
        one.4 one.5 other.3 other.4 other.5 in
        rw (one.2, other.2) (two_places xs one.0 other.0 d pairs differ one.1 other.1)

    pairs_permuted : (xs ys : List X) → IsPermutation xs ys → AllPairs R xs → AllPairs R ys
    pairs_permuted xs ys moves pairs = IsPermutation-keeps xs (AllPairs R) pairs
        (λ l a b a_in b_in so_far. pairs_swapped l a b a_in b_in so_far) ys moves

clear_both : (one other : Span) → AreDisjoint one other → AreDisjoint other one
clear_both one other (inl before) = inr before
clear_both one other (inr behind) = inl behind

-- What the walk through the sorted spans tells holds of the spans in their own order.
pub clear_by : (spans sorted : List Span) (clear : Bool) → IsPermutation spans sorted
    → IsTrue clear ↔ AllPairs AreDisjoint sorted
    → IsTrue clear ↔ AllPairs AreDisjoint spans
clear_by spans sorted clear moves test = (
  λ yes. pairs_permuted AreDisjoint clear_both sorted spans (IsPermutation-sym spans sorted moves)
      (test.0 yes),
  λ pairs. test.1 (pairs_permuted AreDisjoint clear_both spans sorted moves pairs),
)
