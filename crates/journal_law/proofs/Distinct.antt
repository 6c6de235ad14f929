-- The ids of a list, each once.
use Rattle.std.proofs.Common.{[], ◌≡◌, ℕ, List, ◌∷◌, Bool, true, false, cond, refl, sym, ◌∙◌, ap, subst}
use Rattle.std.specs.Prelude.{All, nat_eq, ◌||◌}
use Rattle.std.specs.List.{AllByRecursion, IsDistinct}
use Rattle.std.specs.Set.{is_member, unique_keys}
use Rattle.std.proofs.lemmas.Bool.{eq-eqb, false≢true, ne_eqb}
use Rattle.std.proofs.lemmas.List.Elements.{All-nil, All-cons, recursion_from_All}
use Rattle.std.proofs.lemmas.Map.Keys.{IsDistinct-cons}

or_left : (a b : Bool) → a ≡ true → (a || b) ≡ true
or_left a b on = ap (λ (x : Bool). x || b) on

or_right : (a b : Bool) → b ≡ true → (a || b) ≡ true
or_right true b on = refl
or_right false b on = on

-- The ids of a list, each once, are among them,
pub unique_among : (ids : List ℕ) → All (λ id. is_member nat_eq ids id ≡ true) (unique_keys nat_eq ids)
unique_among [] = All-nil (λ id. is_member nat_eq [] id ≡ true)
unique_among (one ∷ ids) = by (is_member nat_eq ids one) (λ k d low. or_right _ _ (unique_among ids k d low))
  where
    by : (again : Bool) → All (λ id. is_member nat_eq (one ∷ ids) id ≡ true) (unique_keys nat_eq ids)
        → All (λ id. is_member nat_eq (one ∷ ids) id ≡ true)
        (cond again (unique_keys nat_eq ids) (one ∷ unique_keys nat_eq ids))
    by true rest = rest
    by false rest = All-cons (λ id. is_member nat_eq (one ∷ ids) id ≡ true) one (unique_keys nat_eq ids)
        (or_left _ _ (eq-eqb one one refl)) rest

-- An id that isn't among some differs from each of them.
pub apart_from : (P : ℕ → Type 0) (id : ℕ) (others : List ℕ) → (P id → ⊥) → All P others
    → AllByRecursion (λ other. nat_eq id other ≡ false) others
apart_from P id others not_there all = recursion_from_All (λ other. nat_eq id other ≡ false) others
    (λ k d low. by (all k d low))
  where
    by : {other : ℕ} → P other → nat_eq id other ≡ false
    by {other} there = ne_eqb id other (λ same. not_there (subst P (sym same) there))

-- and are distinct.
pub unique_distinct : (ids : List ℕ) → IsDistinct nat_eq (unique_keys nat_eq ids)
unfolding IsDistinct
unique_distinct [] = tt
unique_distinct (one ∷ ids) = by (is_member nat_eq ids one) refl (unique_distinct ids)
  where
    by : (again : Bool) → is_member nat_eq ids one ≡ again → IsDistinct nat_eq (unique_keys nat_eq ids)
        → IsDistinct nat_eq (cond again (unique_keys nat_eq ids) (one ∷ unique_keys nat_eq ids))
    by true is rest = rest
    by false is rest = IsDistinct-cons nat_eq one (unique_keys nat_eq ids)
        (apart_from (λ id. is_member nat_eq ids id ≡ true) one (unique_keys nat_eq ids)
        (λ there. false≢true (sym is ∙ there)) (unique_among ids)) rest
