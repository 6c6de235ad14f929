-- Beginnings of one history, and what seats that know it tell of it.
use Rattle.std.proofs.Common.{◌≡◌, ◌≢◌, ◌⊎◌, inl, inr, ⊎_elim, ℕ, ◌+◌, ◌<◌, ◌≤◌, max, List, [], ◌∷◌, ◌++◌, length}
use Rattle.std.proofs.Common.{length-append, Bool, true, false, refl, sym, ◌∙◌, ap, subst, arith}
use Rattle.std.specs.Prelude.{Contains, nat_lt}
use mathlib.Core.List.{IsPrefix}
use Rattle.std.proofs.lemmas.Bool.Decides.{nat_tests}
use Rattle.std.proofs.lemmas.List.{append-nil, append_assoc, append_cancel_left}
use Rattle.std.proofs.lemmas.List.Elements.{Contains-append_right}
use Rattle.turn_lock.specs.Turn.{is_same, entries_by, FitsHistory, KnowsHistory, AreAll, seeing, longer}
use Rattle.turn_lock.specs.declared.view.Event.{Event}
use Rattle.turn_lock.specs.declared.view.Member.{Member}
use Rattle.turn_lock.proofs.Lists.{none_listed, listed_cases, listed_first}
use Rattle.turn_lock.proofs.Events.{same_self}

abbrev rest_of : {A : Type 0} → List A → List A
rest_of [] = []
rest_of (x ∷ xs) = xs

module _ {A : Type 0} where
  cons_not_nil : (x : A) (xs : List A) → ◌≡◌ {A = List A} (x ∷ xs) [] → ⊥
  cons_not_nil x xs is = cc

  -- The rest behind the shorter beginning has the rest behind the longer one at its end.
  onward_of : (one other rest more : List A) → one ++ rest ≡ other ++ more → length other ≤ length one
      → (between : List A) × (other ++ between ≡ one) × (more ≡ between ++ rest)
  onward_of one [] rest more same less = (one, refl, sym same)
  onward_of [] (y ∷ ys) rest more same less = absurd (omega (arith, less))
  onward_of (x ∷ xs) (y ∷ ys) rest more same less =
      let further = onward_of xs ys rest more (ap rest_of same) (omega (arith, less)) in
      let head : y ≡ x = sym (ap (first_or x) same) in
      (further.0, ap (λ (l : List A). y ∷ l) further.1 ∙ ap (λ (z : A). z ∷ xs) head, further.2)
    where
      first_or : A → List A → A
      first_or d [] = d
      first_or d (z ∷ zs) = z

  -- A beginning of a beginning is a beginning.
  pub begins_on : (one other whole : List A) → IsPrefix one other → IsPrefix other whole → IsPrefix one whole
  begins_on one other whole first second = (
    first.0 ++ second.0,
    sym (append_assoc one first.0 second.0) ∙ ap (λ (l : List A). l ++ second.0) first.1 ∙ second.1,
  )

  nothing_first : (one other : List A) → one ++ other ≡ [] → one ≡ []
  nothing_first [] other none = refl
  nothing_first (x ∷ xs) other none = absurd (cons_not_nil x (xs ++ other) none)

  pub begins_length : (one whole : List A) → IsPrefix one whole → length one ≤ length whole
  begins_length one whole begins =
      let long : length whole ≡ length one + length begins.0 = ap (λ (l : List A). length l) (sym begins.1) ∙ length-append one begins.0 in
      omega (arith, long)

  -- A beginning that is as long is the whole.
  begins_whole : (one whole : List A) → IsPrefix one whole → length whole ≤ length one → one ≡ whole
  begins_whole one whole begins long = by_rest begins.0 begins.1
    where
      by_rest : (rest : List A) → one ++ rest ≡ whole → one ≡ whole
      by_rest [] is = sym (append-nil one) ∙ is
      by_rest (x ∷ rest) is =
          let more : length whole ≡ length one + length (x ∷ rest) = ap (λ (l : List A). length l) (sym is) ∙ length-append one (x ∷ rest) in
          absurd (omega (arith, more, long))

  -- Of two beginnings of one list the shorter begins the longer.
  pub begins_longer : (one other whole : List A) → IsPrefix one whole → IsPrefix other whole → length one ≤ length other
      → IsPrefix one other
  begins_longer one other whole first second less =
      let between = onward_of other one second.0 first.0 (second.1 ∙ sym first.1) less in (between.0, between.1)

module _ {E : Type 0} where
  by_append : (name : List ℕ) (xs ys : List (Event E)) → entries_by name (xs ++ ys) ≡ entries_by name xs ++ entries_by name ys
  by_append name [] ys = refl
  by_append name (e ∷ xs) ys = by_test (is_same e.by name) refl (by_append name xs ys)
    where
      by_test : (b : Bool) → is_same e.by name ≡ b → entries_by name (xs ++ ys) ≡ entries_by name xs ++ entries_by name ys
          → entries_by name ((e ∷ xs) ++ ys) ≡ entries_by name (e ∷ xs) ++ entries_by name ys
      by_test true is more = rw is (ap (λ (l : List E). e.entry ∷ l) more)
      by_test false is more = rw is more

  none_of : (name : List ℕ) (h : List (Event E)) (event : Event E) → entries_by name h ≡ [] → Contains h event → event.by ≢ name
  none_of name [] event none listed his = absurd (none_listed event listed)
  none_of name (e ∷ h) event none listed his = by_test (is_same e.by name) refl (none_of name h event)
    where
      by_test : (b : Bool) → is_same e.by name ≡ b → (entries_by name h ≡ [] → Contains h event → event.by ≢ name) → ⊥
      by_test true is further =
          let some_there : entries_by name (e ∷ h) ≡ e.entry ∷ entries_by name h = rw is refl in
          cons_not_nil e.entry (entries_by name h) (sym some_there ∙ none)
      by_test false is further =
          let rest_is : entries_by name (e ∷ h) ≡ entries_by name h = rw is refl in ⊎_elim
          (λ here. differ (sym (ap (λ (l : List ℕ). is_same l name) (ap (λ (x : Event E). x.by) here ∙ his) ∙ same_self name) ∙ is))
          (λ later. further (sym rest_is ∙ none) later his) (listed_cases e h event listed)
        where
          differ : true ≡ false → ⊥
          differ same = cc

  -- What came after all that a seat saw is others'.
  pub others_later : (h : List (Event E)) (m : Member E) (fits : FitsHistory h m) (event : Event E) → Contains fits.0.0 event
      → event.by ≢ m.name
  others_later h m fits event listed =
      let both : entries_by m.name m.seen ++ entries_by m.name fits.0.0 ≡ entries_by m.name m.seen ++ [] =
      sym (by_append m.name m.seen fits.0.0) ∙ ap (entries_by m.name) fits.0.1 ∙ fits.1 ∙ sym fits.2
      ∙ sym (append-nil (entries_by m.name m.seen)) in
      none_of m.name fits.0.0 event (append_cancel_left (entries_by m.name m.seen) (entries_by m.name fits.0.0) [] both) listed

  -- A seat may come to see more of the history.
  pub fits_seeing : (h more : List (Event E)) (m : Member E) → FitsHistory h m → IsPrefix m.seen more → IsPrefix more h
      → FitsHistory h (seeing more m)
  fits_seeing h more m fits on begins = (begins, fits.1, seen)
    where
      none_more : entries_by m.name on.0 ≡ []
      none_more = nothing_first (entries_by m.name on.0) (entries_by m.name begins.0) (append_cancel_left m.own _ [] whole)
        where
          whole : m.own ++ (entries_by m.name on.0 ++ entries_by m.name begins.0) ≡ m.own ++ []
          whole = sym (append_assoc m.own (entries_by m.name on.0) (entries_by m.name begins.0))
              ∙ ap (λ (l : List E). (l ++ entries_by m.name on.0) ++ entries_by m.name begins.0) (sym fits.2)
              ∙ ap (λ (l : List E). l ++ entries_by m.name begins.0) (sym (by_append m.name m.seen on.0) ∙ ap (entries_by m.name) on.1)
              ∙ sym (by_append m.name more begins.0) ∙ ap (entries_by m.name) begins.1 ∙ fits.1 ∙ sym (append-nil m.own)

      seen : entries_by m.name more ≡ m.own
      seen = sym (ap (entries_by m.name) on.1) ∙ by_append m.name m.seen on.0
          ∙ ap (λ (l : List E). entries_by m.name m.seen ++ l) none_more ∙ append-nil (entries_by m.name m.seen) ∙ fits.2

  -- The longer of two histories is the second, where it is longer, or else the first.
  pub longer_cases : (one other : List (Event E))
      → ((length one ≤ length other) × (longer one other ≡ other)) ⊎ ((length other ≤ length one) × (longer one other ≡ one))
  longer_cases one other = by_test (nat_lt (length one) (length other)) refl
    where
      by_test : (b : Bool) → nat_lt (length one) (length other) ≡ b
          → ((length one ≤ length other) × (longer one other ≡ other)) ⊎ ((length other ≤ length one) × (longer one other ≡ one))
      by_test true is = let less : length one < length other = grind (arith, nat_tests) in inl (omega (arith, less), rw is refl)
      by_test false is = let more : length other ≤ length one = grind (arith, nat_tests) in inr (more, rw is refl)

  -- So a seat may come to see what another has seen, where that is more.
  pub fits_longer : (h : List (Event E)) (m : Member E) (its : List (Event E)) → FitsHistory h m → IsPrefix its h
      → FitsHistory h (seeing (longer m.seen its) m)
  fits_longer h m its fits begins = ⊎_elim
      (λ more. subst (λ (l : List (Event E)). FitsHistory h (seeing l m)) (sym more.1)
      (fits_seeing h its m fits (begins_longer m.seen its h fits.0 begins more.0) begins))
      (λ less. subst (λ (l : List (Event E)). FitsHistory h (seeing l m)) (sym less.1) fits) (longer_cases m.seen its)

  -- Of the whole and a beginning the longer is the whole.
  pub longer_whole : (h its : List (Event E)) → IsPrefix its h → longer h its ≡ h
  longer_whole h its begins = ⊎_elim (λ more. more.1 ∙ begins_whole its h begins more.0) (λ less. less.1) (longer_cases h its)

  pub longer_length : (one other : List (Event E)) → length (longer one other) ≡ max (length one) (length other)
  longer_length one other = ⊎_elim
      (λ more. let long : length (longer one other) ≡ length other = ap (λ (l : List (Event E)). length l) more.1 in
      let less = more.0 in omega (arith, long, less))
      (λ less. let long : length (longer one other) ≡ length one = ap (λ (l : List (Event E)). length l) less.1 in
      let more = less.0 in omega (arith, long, more)) (longer_cases one other)

  -- Once no seat is left beside, who has seen most has seen all.
  pub most_is_all : (h : List (Event E)) (members : List (Member E)) → KnowsHistory h members → AreAll members
      → (m : Member E) → Contains members m → ((n : Member E) → Contains members n → length n.seen ≤ length m.seen) → m.seen ≡ h
  most_is_all h members knows all m listed most = by_rest (knows.fits m listed).0.0 (knows.fits m listed).0.1
    where
      by_rest : (rest : List (Event E)) → m.seen ++ rest ≡ h → m.seen ≡ h
      by_rest [] is = sym (append-nil m.seen) ∙ is
      by_rest (x ∷ rest) is =
          let there : Contains h x = subst (λ (l : List (Event E)). Contains l x) is (Contains-append_right m.seen (x ∷ rest) x (listed_first x rest)) in
          let who = knows.theirs all x there in
          let fits = knows.fits who.0 who.1 in
          let between = onward_of m.seen who.0.seen (x ∷ rest) fits.0.0 (is ∙ sym fits.0.1) (most who.0 who.1) in
          let later : Contains fits.0.0 x = subst (λ (l : List (Event E)). Contains l x) (sym between.2)
          (Contains-append_right between.0 (x ∷ rest) x (listed_first x rest)) in
          absurd (others_later h who.0 fits x later (sym who.2))
