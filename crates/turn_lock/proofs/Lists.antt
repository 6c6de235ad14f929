-- Lists of one, what a list contains, and the last of a longer one.
use Rattle.std.proofs.Common.{◌≡◌, ◌⊎◌, inl, inr, ⊎_elim, ℕ, zero, suc, ◌<◌, List, [], ◌∷◌, ◌++◌, length, Bool, true}
use Rattle.std.proofs.Common.{false, refl, sym, ◌∙◌, ap, arith}
use Rattle.std.specs.Prelude.{slice_index, slice_set, Contains}
use mathlib.Core.Option.{some, some-injective, some-ne-none}
use lib.ListN.{get_elem?}

pub set_one : (ws : List ℕ) (n : ℕ) → length ws ≡ 1 → slice_set ws 0 n ≡ n ∷ []
set_one [] n one = absurd (omega (arith, one))
set_one (w ∷ []) n one = refl
set_one (w ∷ u ∷ ws) n one = absurd (omega (arith, one))

pub only_one : (ws : List ℕ) → length ws ≡ 1 → slice_index ws 0 ∷ [] ≡ ws
only_one [] one = absurd (omega (arith, one))
only_one (w ∷ []) one = refl
only_one (w ∷ u ∷ ws) one = absurd (omega (arith, one))

pub not_both : (b : Bool) → b ≡ false → b ≡ true → ⊥
not_both b lowered raised = cc

pub not_true : (b : Bool) → (b ≡ true → ⊥) → b ≡ false
not_true true not = absurd (not refl)
not_true false not = refl

module _ {A : Type 0} where
  pub there : (l : List A) (i : ℕ) (a : A) → get_elem? l i ≡ some a → i < length l
  there [] i a is = absurd (cc)
  there (x ∷ xs) zero a is = omega arith
  there (x ∷ xs) (suc i) a is = omega (arith, there xs i a is)

  pub none_listed : (a : A) → Contains [] a → ⊥
  none_listed a listed = let low = listed.1 in omega (arith, low)

  pub listed_cases : (x : A) (xs : List A) (a : A) → Contains (x ∷ xs) a → (x ≡ a) ⊎ Contains xs a
  listed_cases x xs a (zero, low, is) = inl is
  listed_cases x xs a (suc k, low, is) = inr (k, omega (arith, low), is)

  pub listed_first : (x : A) (xs : List A) → Contains (x ∷ xs) x
  listed_first x xs = (zero, omega arith, refl)

  pub listed_later : (x : A) (xs : List A) (a : A) → Contains xs a → Contains (x ∷ xs) a
  listed_later x xs a listed = (suc listed.0, let low = listed.1 in omega (arith, low), listed.2)

  pub one_listed : (a b : A) → Contains (a ∷ []) b → a ≡ b
  one_listed a b listed = ⊎_elim (λ here. here) (λ later. absurd (none_listed b later)) (listed_cases a [] b listed)

  -- The last one, or one before it.
  pub at_end : (l : List A) (a b : A) (j : ℕ) → get_elem? (l ++ a ∷ []) j ≡ some b
      → (get_elem? l j ≡ some b) ⊎ ((j ≡ length l) × (a ≡ b))
  at_end [] a b zero is = inr (refl, some-injective a b is)
  at_end [] a b (suc j) is = absurd (some-ne-none b (sym is))
  at_end (x ∷ xs) a b zero is = inl is
  at_end (x ∷ xs) a b (suc j) is = ⊎_elim (λ before. inl before) (λ last. inr (ap suc last.0, last.1)) (at_end xs a b j is)

  pub one_there : (l : List A) (i : ℕ) (a b : A) → get_elem? l i ≡ some a → get_elem? l i ≡ some b → a ≡ b
  one_there l i a b is_a is_b = some-injective a b (sym is_a ∙ is_b)
