-- Pairs of a list, as it is edited.
use Rattle.std.proofs.Common.{ℕ, zero, suc, List, [], ◌∷◌, ◌++◌, take, drop, Bool, true, false, arith}
use Rattle.std.specs.Prelude.{All, AllPairs, filter, cond}
use Rattle.std.proofs.lemmas.List.Elements.{All-cons, All-head, All-tail, All-append, All-take, All-drop, All-filter}

-- pairs, by recursion
abbrev Pairs : {X : Type 0} → (X → X → Type 0) → List X → Type 0
Pairs R [] = Unit {0}
Pairs R (x ∷ xs) = All (R x) xs × Pairs R xs

pairs_from : {X : Type 0} (R : X → X → Type 0) (xs : List X) → AllPairs R xs → Pairs R xs
pairs_from R [] pairs = tt
pairs_from R (x ∷ xs) pairs = (
  λ k d within. pairs 0 (suc k) d (omega arith) (omega (arith, within)),
  pairs_from R xs (λ i j d before within. pairs (suc i) (suc j) d (omega (arith, before)) (omega (arith, within))),
)

to_pairs : {X : Type 0} (R : X → X → Type 0) (xs : List X) → Pairs R xs → AllPairs R xs
to_pairs R [] pairs i j d before within = absurd (omega (arith, within))
to_pairs R (x ∷ xs) pairs i zero d before within = absurd (omega (arith, before))
to_pairs R (x ∷ xs) pairs zero (suc j) d before within = pairs.0 j d (omega (arith, within))
to_pairs R (x ∷ xs) pairs (suc i) (suc j) d before within = to_pairs R xs pairs.1 i j d (omega (arith, before)) (omega (arith, within))

insert_pairs : {X : Type 0} (R : X → X → Type 0) (xs : List X) (at : ℕ) (x : X) → Pairs R xs → All (λ y. R y x) (take at xs)
    → All (R x) (drop at xs) → Pairs R (take at xs ++ x ∷ drop at xs)
insert_pairs R xs zero x pairs before after = (after, pairs)
insert_pairs R [] (suc at) x pairs before after = (after, tt)
insert_pairs R (y ∷ ys) (suc at) x pairs before after = (
  All-append (R y) (take at ys) (x ∷ drop at ys) (All-take (R y) at ys pairs.0)
      (All-cons (R y) x (drop at ys) (All-head (λ z. R z x) y (take at ys) before) (All-drop (R y) at ys pairs.0)),
  insert_pairs R ys at x pairs.1 (All-tail (λ z. R z x) y (take at ys) before) after,
)

-- One that comes after all before it and before all after it may be put in.
pub all_pairs_insert : {X : Type 0} (R : X → X → Type 0) (xs : List X) (at : ℕ) (x : X) → AllPairs R xs → All (λ y. R y x) (take at xs)
    → All (R x) (drop at xs) → AllPairs R (take at xs ++ x ∷ drop at xs)
all_pairs_insert R xs at x pairs before after =
    to_pairs R (take at xs ++ x ∷ drop at xs) (insert_pairs R xs at x (pairs_from R xs pairs) before after)

-- One may be changed where all that is said of it stays.
pub all_swap : {X : Type 0} (P : X → Type 0) (xs ys : List X) (x y : X) → (P x → P y) → All P (xs ++ x ∷ ys) → All P (xs ++ y ∷ ys)
all_swap P [] ys x y stays all = All-cons P y ys (stays (All-head P x ys all)) (All-tail P x ys all)
all_swap P (z ∷ xs) ys x y stays all =
    All-cons P z (xs ++ y ∷ ys) (All-head P z (xs ++ x ∷ ys) all) (all_swap P xs ys x y stays (All-tail P z (xs ++ x ∷ ys) all))

swap_pairs : {X : Type 0} (R : X → X → Type 0) (xs ys : List X) (x y : X) → ((z : X) → R z x → R z y) → ((z : X) → R x z → R y z)
    → Pairs R (xs ++ x ∷ ys) → Pairs R (xs ++ y ∷ ys)
swap_pairs R [] ys x y left right pairs = (λ k d within. right _ (pairs.0 k d within), pairs.1)
swap_pairs R (z ∷ xs) ys x y left right pairs = (all_swap (R z) xs ys x y (left z) pairs.0, swap_pairs R xs ys x y left right pairs.1)

pub all_pairs_swap : {X : Type 0} (R : X → X → Type 0) (xs ys : List X) (x y : X) → ((z : X) → R z x → R z y) → ((z : X) → R x z → R y z)
    → AllPairs R (xs ++ x ∷ ys) → AllPairs R (xs ++ y ∷ ys)
all_pairs_swap R xs ys x y left right pairs =
    to_pairs R (xs ++ y ∷ ys) (swap_pairs R xs ys x y left right (pairs_from R (xs ++ x ∷ ys) pairs))

-- One may be left out.
pub all_leave : {X : Type 0} (P : X → Type 0) (xs ys : List X) (x : X) → All P (xs ++ x ∷ ys) → All P (xs ++ ys)
all_leave P [] ys x all = All-tail P x ys all
all_leave P (z ∷ xs) ys x all =
    All-cons P z (xs ++ ys) (All-head P z (xs ++ x ∷ ys) all) (all_leave P xs ys x (All-tail P z (xs ++ x ∷ ys) all))

leave_pairs : {X : Type 0} (R : X → X → Type 0) (xs ys : List X) (x : X) → Pairs R (xs ++ x ∷ ys) → Pairs R (xs ++ ys)
leave_pairs R [] ys x pairs = pairs.1
leave_pairs R (z ∷ xs) ys x pairs = (all_leave (R z) xs ys x pairs.0, leave_pairs R xs ys x pairs.1)

pub all_pairs_leave : {X : Type 0} (R : X → X → Type 0) (xs ys : List X) (x : X) → AllPairs R (xs ++ x ∷ ys) → AllPairs R (xs ++ ys)
all_pairs_leave R xs ys x pairs = to_pairs R (xs ++ ys) (leave_pairs R xs ys x (pairs_from R (xs ++ x ∷ ys) pairs))

filter_pairs : {X : Type 0} (R : X → X → Type 0) (test : X → Bool) (xs : List X) → Pairs R xs → Pairs R (filter test xs)
filter_pairs R test [] pairs = tt
filter_pairs R test (x ∷ xs) pairs = keep (test x) (All-filter test (R x) xs pairs.0) (filter_pairs R test xs pairs.1)
  where
    keep : (kept : Bool) → All (R x) (filter test xs) → Pairs R (filter test xs) → Pairs R (cond kept (x ∷ filter test xs) (filter test xs))
    keep true all rest = (all, rest)
    keep false all rest = rest

-- What a filter keeps stays in its order.
pub all_pairs_filter : {X : Type 0} (R : X → X → Type 0) (test : X → Bool) (xs : List X) → AllPairs R xs → AllPairs R (filter test xs)
all_pairs_filter R test xs pairs = to_pairs R (filter test xs) (filter_pairs R test xs (pairs_from R xs pairs))
