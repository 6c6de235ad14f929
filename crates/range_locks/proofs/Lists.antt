-- Lists that gain one item.
use Rattle.std.proofs.Common.{◌≡◌, ◌⊎◌, ℕ, suc, List, [], ◌∷◌, ◌++◌, Bool, true, get_or, refl, sym, ◌∙◌, ap, subst}
use Rattle.std.proofs.Common.{arith, inl, inr, ⊎_elim, cond}
use Rattle.std.specs.Prelude.{All, AllPairs, Contains, filter}
use Rattle.std.proofs.lemmas.List.Elements.{All-contains, Contains-get_or, Contains-append_cases, Contains-append_left}
use Rattle.std.proofs.lemmas.List.Elements.{Contains-append_right, Contains-push}
use Rattle.std.proofs.lemmas.List.Kept.{AllPairs-cons}
use Rattle.range_locks.specs.Gaining.{Gains}
use Rattle.range_locks.proofs.Pairs.{all_pairs_leave}

module _ {T : Type 0} where
  -- What holds of each item that a list contains holds of all its places.
  pub all_listed : (P : T → Type 0) (xs : List T) → ((x : T) → Contains xs x → P x) → All P xs
  all_listed P xs each k d within = each (get_or xs k d) (Contains-get_or xs k d within)

  pub first_listed : (x : T) (xs : List T) → Contains (x ∷ xs) x
  first_listed x xs = Contains-append_left (x ∷ []) xs x (Contains-push [] x)

  pub rest_listed : (x y : T) (xs : List T) → Contains xs y → Contains (x ∷ xs) y
  rest_listed x y xs listed = Contains-append_right (x ∷ []) xs y listed

  only_one : (x y : T) → Contains (x ∷ []) y → x ≡ y
  only_one x y (k, low, is) =
      let first : 0 ≡ k = omega (arith, low) in
      ap (λ (n : ℕ). get_or (x ∷ []) n y) first ∙ is

  pub listed_cases : (x y : T) (xs : List T) → Contains (x ∷ xs) y → (x ≡ y) ⊎ Contains xs y
  listed_cases x y xs listed = ⊎_elim (λ first. inl (only_one x y first)) (λ rest. inr rest)
      (Contains-append_cases (x ∷ []) xs y listed)

  pub none_listed : (y : T) → Contains ([]) y → ⊥
  none_listed y (k, low, is) = omega (arith, low)

  -- What was there stays,
  pub gains_old : (old new : List T) (x y : T) → Gains old new x → Contains old y → Contains new y
  gains_old old new x y gains listed = subst (λ (l : List T). Contains l y) (sym gains.is)
      (⊎_elim (λ left. Contains-append_left gains.before (x ∷ gains.after) y left)
      (λ right. Contains-append_right gains.before (x ∷ gains.after) y
      (rest_listed x y gains.after right))
      (Contains-append_cases gains.before gains.after y
      (subst (λ (l : List T). Contains l y) gains.was listed)))

  -- the item is there,
  pub gains_item : (old new : List T) (x : T) → Gains old new x → Contains new x
  gains_item old new x gains = subst (λ (l : List T). Contains l x) (sym gains.is)
      (Contains-append_right gains.before (x ∷ gains.after) x (first_listed x gains.after))

  -- and there is nothing else.
  pub gains_cases : (old new : List T) (x y : T) → Gains old new x → Contains new y
      → (x ≡ y) ⊎ Contains old y
  gains_cases old new x y gains listed = ⊎_elim
      (λ left. inr (subst (λ (l : List T). Contains l y) (sym gains.was)
      (Contains-append_left gains.before gains.after y left)))
      (λ right. ⊎_elim (λ same. inl same)
      (λ rest. inr (subst (λ (l : List T). Contains l y) (sym gains.was)
      (Contains-append_right gains.before gains.after y rest)))
      (listed_cases x y gains.after right))
      (Contains-append_cases gains.before (x ∷ gains.after) y
      (subst (λ (l : List T). Contains l y) gains.is listed))

  -- What a filter lets pass it keeps,
  pub filter_listed : (test : T → Bool) (xs : List T) (y : T) → test y ≡ true → Contains xs y
      → Contains (filter test xs) y
  filter_listed test [] y passes listed = listed
  filter_listed test (x ∷ xs) y passes listed = ⊎_elim
      (λ same. let here : test x ≡ true = ap test same ∙ passes in
      subst (λ (z : T). Contains (cond (test x) (x ∷ filter test xs) (filter test xs)) z) same
      (subst (λ (b : Bool). Contains (cond b (x ∷ filter test xs) (filter test xs)) x) (sym here)
      (first_listed x (filter test xs))))
      (λ rest. kept (test x) (filter_listed test xs y passes rest)) (listed_cases x y xs listed)
    where
      kept : (b : Bool) → Contains (filter test xs) y
          → Contains (cond b (x ∷ filter test xs) (filter test xs)) y
      kept true there = rest_listed x y (filter test xs) there
      kept _ there = there

  -- and it keeps nothing else.
  pub filter_was : (test : T → Bool) (xs : List T) (y : T) → Contains (filter test xs) y
      → Contains xs y
  filter_was test [] y listed = listed
  filter_was test (x ∷ xs) y listed = was (test x) (filter_was test xs y) listed
    where
      was : (b : Bool) → (Contains (filter test xs) y → Contains xs y)
          → Contains (cond b (x ∷ filter test xs) (filter test xs)) y → Contains (x ∷ xs) y
      was true still there = ⊎_elim
          (λ same. subst (λ (z : T). Contains (x ∷ xs) z) same (first_listed x xs))
          (λ rest. rest_listed x y xs (still rest)) (listed_cases x y (filter test xs) there)
      was _ still there = rest_listed x y xs (still there)

-- Pairs in any order.
module _ {T : Type 0} (R : T → T → Type 0) (turn : (x y : T) → R x y → R y x) where
  pub head_pairs : (x : T) (xs : List T) → AllPairs R (x ∷ xs) → All (R x) xs
  head_pairs x xs pairs k d within = pairs 0 (suc k) d (omega arith) (omega (arith, within))

  pub tail_pairs : (x : T) (xs : List T) → AllPairs R (x ∷ xs) → AllPairs R xs
  tail_pairs x xs pairs i j d before within =
      pairs (suc i) (suc j) d (omega (arith, before)) (omega (arith, within))

  put_between : (before after : List T) (x : T)
      → ((y : T) → Contains (before ++ after) y → R x y) → AllPairs R (before ++ after)
      → AllPairs R (before ++ x ∷ after)
  put_between [] after x each pairs = AllPairs-cons R x after (all_listed (R x) after each) pairs
  put_between (z ∷ before) after x each pairs =
      AllPairs-cons R z (before ++ x ∷ after)
      (all_listed (R z) (before ++ x ∷ after) (λ y listed. ⊎_elim
      (λ same. subst (R z) same (turn x z (each z (first_listed z (before ++ after)))))
      (λ old. All-contains (R z) (before ++ after) y (head_pairs z (before ++ after) pairs) old)
      (gains_cases (before ++ after) (before ++ x ∷ after) x y
      (record { before = before; after = after; was = refl; is = refl }) listed)))
      (put_between before after x
      (λ y listed. each y (rest_listed z y (before ++ after) listed))
      (tail_pairs z (before ++ after) pairs))

  -- An item that is right beside each other one may be gained.
  pub pairs_gain : (old new : List T) (x : T) → Gains old new x → ((y : T) → Contains old y → R x y)
      → AllPairs R old → AllPairs R new
  pairs_gain old new x gains each pairs = subst (AllPairs R) (sym gains.is)
      (put_between gains.before gains.after x
      (λ y listed. each y (subst (λ (l : List T). Contains l y) (sym gains.was) listed))
      (subst (AllPairs R) gains.was pairs))

  -- One may be lost,
  pub pairs_lose : (old new : List T) (x : T) → Gains new old x → AllPairs R old → AllPairs R new
  pairs_lose old new x gains pairs = subst (AllPairs R) (sym gains.was)
      (all_pairs_leave R gains.before gains.after x (subst (AllPairs R) gains.is pairs))

  beside : (before after : List T) (x y : T) → AllPairs R (before ++ x ∷ after)
      → Contains (before ++ after) y → R x y
  beside [] after x y pairs listed =
      All-contains (R x) after y (head_pairs x after pairs) listed
  beside (z ∷ before) after x y pairs listed = ⊎_elim
      (λ same. subst (R x) same (turn z x (All-contains (R z) (before ++ x ∷ after) x
      (head_pairs z (before ++ x ∷ after) pairs)
      (Contains-append_right before (x ∷ after) x (first_listed x after)))))
      (λ rest. beside before after x y (tail_pairs z (before ++ x ∷ after) pairs) rest)
      (listed_cases z y (before ++ after) listed)

  -- and it was right beside each that is left.
  pub pairs_beside : (old new : List T) (x y : T) → Gains new old x → AllPairs R old
      → Contains new y → R x y
  pairs_beside old new x y gains pairs listed =
      beside gains.before gains.after x y (subst (AllPairs R) gains.is pairs)
      (subst (λ (l : List T). Contains l y) gains.was listed)
