-- One more device of zeros.
use Rattle.std.proofs.Common.{◌≡◌, ⊎_elim, ℕ, zero, suc, ◌+◌, ◌<◌, List, [], ◌∷◌, ◌++◌, length, Some, None, Vec, refl}
use Rattle.std.proofs.Common.{sym, ◌∙◌, ap, subst, arith, length-append, replicate, slice_get, option_and_then}
use Rattle.std.specs.declared.alloc.Global.{Global}
use Rattle.std.proofs.lemmas.Bool.{cases_lt, cases_eq}
use Rattle.std.proofs.lemmas.Bool.Decides.{nat_tests}
use Rattle.std.proofs.lemmas.List.{length-replicate, get_or-replicate}
use Rattle.std.proofs.lemmas.Option.{slice_get_past, slice_get-get_or}
use Rattle.bank_trait.specs.Regions.{zero_sector}
use Rattle.bank_mem.specs.Record.{Shelf, content, blank}
use Rattle.bank_mem.specs.Sound.{AllWide}

pub get_push_old : {A : Type 0} (xs : List A) (y : A) (d : ℕ) → d < length xs → slice_get (xs ++ y ∷ []) d ≡ slice_get xs d
get_push_old [] y d within = absurd (omega arith)
get_push_old (x ∷ xs) y zero within = refl
get_push_old (x ∷ xs) y (suc d) within = get_push_old xs y d (omega arith)

pub get_push_new : {A : Type 0} (xs : List A) (y : A) → slice_get (xs ++ y ∷ []) (length xs) ≡ Some y
get_push_new [] y = refl
get_push_new (x ∷ xs) y = get_push_new xs y

get_replicate : {A : Type 0} (n : ℕ) (a : A) (x : ℕ) → x < n → slice_get (replicate n a) x ≡ Some a
get_replicate n a x within = slice_get-get_or (replicate n a) x a (omega (arith, length-replicate n a)) ∙ ap Some (get_or-replicate n x a a within)

module _ (shelf : Shelf) (v : Vec (List ℕ) Global) (n sectors : ℕ) (many : length shelf ≡ n) (zeros : v.items ≡ replicate sectors zero_sector) where
  at_new : (x : ℕ) → content (shelf ++ v ∷ []) n x ≡ slice_get v.items x
  at_new x = ap (λ o. option_and_then (λ (w : Vec (List ℕ) Global). slice_get w.items x) o) (subst (λ k. slice_get (shelf ++ v ∷ []) k ≡ Some v) many (get_push_new shelf v))

  new_row : (x : ℕ) → slice_get v.items x ≡ blank (n + 1) sectors n x
  new_row x = ⊎_elim
      (λ within. ap (λ (l : List (List ℕ)). slice_get l x) zeros ∙ get_replicate sectors zero_sector x within ∙ (let r : Some zero_sector ≡ blank (n + 1) sectors n x = grind (arith, nat_tests) in r))
      (λ past. ap (λ (l : List (List ℕ)). slice_get l x) zeros ∙ slice_get_past (replicate sectors zero_sector) x (omega (arith, length-replicate sectors zero_sector)) ∙ (let r : None ≡ blank (n + 1) sectors n x = grind (arith, nat_tests) in r))
      (cases_lt x sectors)

  pub held_push : ((d x : ℕ) → content shelf d x ≡ blank n sectors d x) → (d x : ℕ) → content (shelf ++ v ∷ []) d x ≡ blank (n + 1) sectors d x
  held_push held d x = ⊎_elim
      (λ before. ap (λ o. option_and_then (λ (w : Vec (List ℕ) Global). slice_get w.items x) o) (get_push_old shelf v d (omega arith)) ∙ held d x ∙ (let r : blank n sectors d x ≡ blank (n + 1) sectors d x = grind (arith, nat_tests) in r))
      (λ not_before. ⊎_elim
      (λ here. subst (λ k. content (shelf ++ v ∷ []) k x ≡ blank (n + 1) sectors k x) (sym here) (at_new x ∙ new_row x))
      (λ past. ap (λ o. option_and_then (λ (w : Vec (List ℕ) Global). slice_get w.items x) o) (slice_get_past (shelf ++ v ∷ []) d (omega (arith, length-append shelf (v ∷ []))))
      ∙ (let r : None ≡ blank (n + 1) sectors d x = grind (arith, nat_tests) in r))
      (cases_eq d n))
      (cases_lt d n)

  pub wide_push : AllWide shelf sectors → AllWide (shelf ++ v ∷ []) sectors
  wide_push wide d w is = ⊎_elim
      (λ before. wide d w (sym (get_push_old shelf v d before) ∙ is))
      (λ past. ⊎_elim
      (λ here. let same : Some v ≡ Some w = sym (get_push_new shelf v) ∙ subst (λ k. slice_get (shelf ++ v ∷ []) k ≡ Some w) here is in
      let eq : v ≡ w = cc in ap (λ (u : Vec (List ℕ) Global). length u.items) (sym eq) ∙ ap length zeros ∙ length-replicate sectors zero_sector)
      (λ beyond. let none = slice_get_past (shelf ++ v ∷ []) d (omega (arith, length-append shelf (v ∷ []))) in absurd (cc (none, is)))
      (cases_eq d (length shelf)))
      (cases_lt d (length shelf))
