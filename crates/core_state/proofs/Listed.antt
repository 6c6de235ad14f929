-- Being one of a list.
use Rattle.std.proofs.Common.{◌≡◌, ◌⊎◌, inl, inr, refl, zero, suc, List, [], ◌∷◌, sym, arith}
use Rattle.std.specs.Prelude.{Contains}

pub contains_head : {X : Type 0} (x : X) (xs : List X) → Contains (x ∷ xs) x
contains_head x xs = (0, omega arith, refl)

pub contains_tail : {X : Type 0} (y : X) (xs : List X) (x : X) → Contains xs x → Contains (y ∷ xs) x
contains_tail y xs x (k, low, is) = (suc k, omega (arith, low), is)

pub contains_cases : {X : Type 0} (y : X) (xs : List X) (x : X) → Contains (y ∷ xs) x
    → (x ≡ y) ⊎ Contains xs x
contains_cases y xs x (zero, low, is) = inl (sym is)
contains_cases y xs x (suc k, low, is) = inr (k, omega (arith, low), is)

pub contains_none : {X : Type 0} (x : X) → Contains [] x → ⊥
contains_none x has = omega (arith, has.1)
