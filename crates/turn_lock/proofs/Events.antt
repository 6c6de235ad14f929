-- The entries of one name in a history that grows.
use Rattle.std.proofs.Common.{◌≡◌, ◌≢◌, ℕ, List, [], ◌∷◌, ◌++◌, Bool, true, false, refl, sym, ◌∙◌, ap, arith}
use Rattle.std.specs.Prelude.{Contains, ◌==◌, ◌&&◌}
use Rattle.std.proofs.lemmas.Bool.Decides.{nat_tests}
use Rattle.std.proofs.lemmas.List.{append_assoc}
use Rattle.turn_lock.specs.Turn.{is_same, entries_by, FitsHistory}
use Rattle.turn_lock.specs.declared.view.Event.{Event}
use Rattle.turn_lock.specs.declared.view.Member.{Member}
use Rattle.turn_lock.proofs.Lists.{listed_first, listed_later}

pub same_self : (xs : List ℕ) → is_same xs xs ≡ true
same_self [] = refl
same_self (x ∷ xs) =
    let here : (x == x) ≡ true = grind (arith, nat_tests) in
    ap (λ b. b && is_same xs xs) here ∙ same_self xs

pub same_is : (xs ys : List ℕ) → is_same xs ys ≡ true → xs ≡ ys
same_is [] [] is = refl
same_is [] (y ∷ ys) is = absurd (cc)
same_is (x ∷ xs) [] is = absurd (cc)
same_is (x ∷ xs) (y ∷ ys) is = by_head (same_is xs ys) (x == y) refl
  where
    by_head : (is_same xs ys ≡ true → xs ≡ ys) → (b : Bool) → (x == y) ≡ b → x ∷ xs ≡ y ∷ ys
    by_head further true same =
        let head : x ≡ y = grind (arith, nat_tests) in
        let tail : xs ≡ ys = further (sym (ap (λ b. b && is_same xs ys) same) ∙ is) in
        ap (λ (n : ℕ). n ∷ xs) head ∙ ap (λ (l : List ℕ). y ∷ l) tail
    by_head further false differ =
        let never : false ≡ true = sym (ap (λ b. b && is_same xs ys) differ) ∙ is in absurd (cc)

pub same_not : (xs ys : List ℕ) → xs ≢ ys → is_same xs ys ≡ false
same_not xs ys ne = by_test (is_same xs ys) refl
  where
    by_test : (b : Bool) → is_same xs ys ≡ b → is_same xs ys ≡ false
    by_test true is = absurd (ne (same_is xs ys is))
    by_test false is = is

module _ {E : Type 0} where
  pub more_by : (name : List ℕ) (h : List (Event E)) (event : Event E) → event.by ≡ name
      → entries_by name (h ++ event ∷ []) ≡ entries_by name h ++ event.entry ∷ []
  more_by name [] event his =
      let same : is_same event.by name ≡ true = ap (λ (l : List ℕ). is_same l name) his ∙ same_self name in rw same refl
  more_by name (e ∷ h) event his = by_test (is_same e.by name) refl (more_by name h event his)
    where
      by_test : (b : Bool) → is_same e.by name ≡ b
          → entries_by name (h ++ event ∷ []) ≡ entries_by name h ++ event.entry ∷ []
          → entries_by name ((e ∷ h) ++ event ∷ []) ≡ entries_by name (e ∷ h) ++ event.entry ∷ []
      by_test true is more = rw is (ap (λ (l : List E). e.entry ∷ l) more)
      by_test false is more = rw is more

  pub no_more_by : (name : List ℕ) (h : List (Event E)) (event : Event E) → event.by ≢ name
      → entries_by name (h ++ event ∷ []) ≡ entries_by name h
  no_more_by name [] event other = let differ = same_not event.by name other in rw differ refl
  no_more_by name (e ∷ h) event other = by_test (is_same e.by name) refl (no_more_by name h event other)
    where
      by_test : (b : Bool) → is_same e.by name ≡ b → entries_by name (h ++ event ∷ []) ≡ entries_by name h
          → entries_by name ((e ∷ h) ++ event ∷ []) ≡ entries_by name (e ∷ h)
      by_test true is more = rw is (ap (λ (l : List E). e.entry ∷ l) more)
      by_test false is more = rw is more

  pub none_by : (name : List ℕ) (h : List (Event E)) → ((e : Event E) → Contains h e → e.by ≢ name) → entries_by name h ≡ []
  none_by name [] never = refl
  none_by name (e ∷ h) never =
      let differ = same_not e.by name (never e (listed_first e h)) in
      rw differ (none_by name h (λ x listed. never x (listed_later e h x listed)))

  -- Another's event comes after what was seen.
  pub fits_more : (h : List (Event E)) (m : Member E) (event : Event E) → event.by ≢ m.name → FitsHistory h m
      → FitsHistory (h ++ event ∷ []) m
  fits_more h m event other fits = (
    (fits.0.0 ++ event ∷ [], sym (append_assoc m.seen fits.0.0 (event ∷ [])) ∙ ap (λ (l : List (Event E)). l ++ event ∷ []) fits.0.1),
    no_more_by m.name h event other ∙ fits.1,
    fits.2,
  )
