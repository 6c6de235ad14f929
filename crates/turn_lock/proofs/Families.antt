-- Seats that change, that are split and that are joined stay one family.
use Rattle.std.proofs.Common.{◌≡◌, ◌≢◌, ◌⊎◌, inl, inr, ⊎_elim, ℕ, ◌<◌, ◌≤◌, List, [], ◌∷◌, ◌++◌, length, refl, sym, ◌∙◌}
use Rattle.std.proofs.Common.{ap, subst, arith}
use Rattle.std.specs.Prelude.{slice_set, Contains}
use mathlib.Core.Option.{some}
use lib.ListN.{get_elem?}
use Rattle.std.proofs.lemmas.Bool.{cases_eq}
use Rattle.atomic_table.proofs.Lists.{set_here, set_else, at_set, at_longer}
use Rattle.turn_lock.specs.Turn.{itself, At, FitsHistory, Family, IsNamedOnce, IsOneOf, AreAll, KnowsHistory}
use Rattle.turn_lock.specs.declared.view.Event.{Event}
use Rattle.turn_lock.specs.declared.view.Member.{Member}
use Rattle.turn_lock.specs.declared.view.View.{View}
use Rattle.turn_lock.proofs.Lists.{there, none_listed, listed_cases, listed_first, listed_later, at_end, one_there}
use Rattle.turn_lock.proofs.Lists.{one_listed}

module _ {E : Type 0} where
  -- who a seat was before it changed
  pub before : (f : Member E → Member E) (ms : List (Member E)) (n : Member E) → Contains (itself f ms) n
      → (m : Member E) × (rest : List (Member E)) × (ms ≡ m ∷ rest) × ((n ≡ f m) ⊎ Contains rest n)
  before f [] n listed = absurd (none_listed n listed)
  before f (m ∷ ms) n listed =
      (m, ms, refl, ⊎_elim (λ here. inl (sym here)) (λ later. inr later) (listed_cases (f m) ms n listed))

  pub after : (f : Member E → Member E) → ((m : Member E) → (f m).name ≡ m.name) → ((m : Member E) → m.made ≤ (f m).made)
      → (ms : List (Member E)) (m : Member E) → Contains ms m
      → (n : Member E) × Contains (itself f ms) n × (n.name ≡ m.name) × (m.made ≤ n.made)
  after f named made [] m listed = absurd (none_listed m listed)
  after f named made (x ∷ ms) m listed = ⊎_elim
      (λ here. (f x, listed_first (f x) ms, named x ∙ ap (λ (y : Member E). y.name) here, subst (λ (y : Member E). y.made ≤ (f x).made) here (made x)))
      (λ later. (m, listed_later (f x) ms m later, refl, omega arith))
      (listed_cases x ms m listed)

  pub once_still : (f : Member E → Member E) → ((m : Member E) → (f m).name ≡ m.name) → (ms : List (Member E))
      → IsNamedOnce ms → IsNamedOnce (itself f ms)
  once_still f named [] once = tt
  once_still f named (m ∷ ms) once = λ n listed same. once n listed (same ∙ named m)

  -- Where none are left beside, who has an event is one of these.
  pub within : (views : List (View E)) (h : List (Event E)) → Family views h → (id : ℕ) (v : View E) → get_elem? views id ≡ some v
      → AreAll v.members → (name : List ℕ) (i : ℕ) (m : Member E) → At views i m → m.name ≡ name → IsOneOf v.members name
  within views h family id v at all [] i m is named = all.0
  within views h family id v at all (k ∷ name) i m is named =
      let maker = family.makers i m is k name named in
      let found = within views h family id v at all name maker.0 maker.1 maker.2 maker.3 in
      let here : id ≡ maker.0 = family.apart id maker.0 found.0 maker.1 (v, at, found.1) maker.2 (found.2 ∙ sym maker.3) in
      let is_v : maker.2.0 ≡ v = one_there views id maker.2.0 v (ap (get_elem? views) here ∙ maker.2.1) at in
      let his : Contains v.members maker.1 = subst (λ (w : View E). Contains w.members maker.1) is_v maker.2.2 in
      let child = all.1 maker.1 his k maker.4 in
      (child.0, child.1, child.2 ∙ ap (λ (l : List ℕ). k ∷ l) maker.3)

  pub knows : (views : List (View E)) (h : List (Event E)) → Family views h → (id : ℕ) (v : View E) → get_elem? views id ≡ some v
      → KnowsHistory h v.members
  knows views h family id v at = record {
    fits = λ m listed. family.fits id m (v, at, listed);
    theirs = λ all event listed. let who = family.known event listed in
        within views h family id v at all event.by who.0 who.1 who.2 who.3;
  }

  -- A seat changes, and the history grows by its own events.
  pub family_set : (views : List (View E)) (h more : List (Event E)) → Family views h → (id : ℕ) (v now : View E)
      → get_elem? views id ≡ some v → (f : Member E → Member E) → ((m : Member E) → (f m).name ≡ m.name)
      → ((m : Member E) → m.made ≤ (f m).made) → now.members ≡ itself f v.members
      → ((i : ℕ) (m : Member E) → i ≢ id → At views i m → FitsHistory more m)
      → ((m : Member E) (rest : List (Member E)) → v.members ≡ m ∷ rest → FitsHistory more (f m))
      → ((m : Member E) (rest : List (Member E)) → v.members ≡ m ∷ rest → (n : Member E) → Contains rest n → FitsHistory more n)
      → ((e : Event E) → Contains more e → Contains h e ⊎ ((m : Member E) × Contains v.members m × (m.name ≡ e.by)))
      → Family (slice_set views id now) more
  family_set views h more family id v now at f named made is others first later events = record {
    fits = λ i n n_is. fits i n n_is (at_set views id i now n_is.0 n_is.1);
    apart = λ i j n u n_is u_is same. let m = from i n n_is in let w = from j u u_is in
        family.apart i j m.0 w.0 m.1 w.1 (sym m.2 ∙ same ∙ w.2);
    once = λ i w w_is. ⊎_elim
        (λ here. subst (λ (x : View E). IsNamedOnce x.members) here.1
        (subst IsNamedOnce (sym is) (once_still f named v.members (family.once id v at))))
        (λ other. family.once i w other.1) (at_set views id i now w w_is);
    known = λ e listed. ⊎_elim
        (λ old. let who = family.known e old in let still = to who.0 who.1 who.2 in (who.0, still.0, still.1, still.2 ∙ who.3))
        (λ new. let still = to id new.0 (v, at, new.1) in (id, still.0, still.1, still.2 ∙ new.2)) (events e listed);
    makers = λ i n n_is k name is_named. let m = from i n n_is in
        let maker = family.makers i m.0 m.1 k name (sym m.2 ∙ is_named) in
        let still = to maker.0 maker.1 maker.2 in
        (maker.0, still.0, still.1, still.2 ∙ maker.3, let few = maker.4 in let grown = still.3 in omega (arith, few, grown));
  }
    where
      from : (i : ℕ) (n : Member E) → At (slice_set views id now) i n → (m : Member E) × At views i m × (n.name ≡ m.name)
      from i n n_is = ⊎_elim
          (λ here. let was = before f v.members n (subst (λ (l : List (Member E)). Contains l n) is
          (subst (λ (x : View E). Contains x.members n) (sym here.1) n_is.2)) in
          let v_at : get_elem? views i ≡ some v = ap (get_elem? views) here.0 ∙ at in
          ⊎_elim
          (λ head. (
            was.0,
            (v, v_at, subst (λ (l : List (Member E)). Contains l was.0) (sym was.2) (listed_first was.0 was.1)),
            ap (λ (x : Member E). x.name) head ∙ named was.0,
          ))
          (λ tail. (n, (v, v_at, subst (λ (l : List (Member E)). Contains l n) (sym was.2) (listed_later was.0 was.1 n tail)), refl)) was.3)
          (λ other. (n, (n_is.0, other.1, n_is.2), refl)) (at_set views id i now n_is.0 n_is.1)

      to : (i : ℕ) (m : Member E) → At views i m → (n : Member E) × At (slice_set views id now) i n × (n.name ≡ m.name) × (m.made ≤ n.made)
      to i m m_is = ⊎_elim
          (λ here. let is_v : m_is.0 ≡ v = one_there views id m_is.0 v (ap (get_elem? views) (sym here) ∙ m_is.1) at in
          let n = after f named made v.members m (subst (λ (x : View E). Contains x.members m) is_v m_is.2) in (
            n.0,
            (
              now,
              ap (get_elem? (slice_set views id now)) here ∙ set_here views id now (there views id v at),
              subst (λ (l : List (Member E)). Contains l n.0) (sym is) n.1,
            ),
            n.2,
            n.3,
          ))
          (λ other. (m, (m_is.0, set_else views id i now other ∙ m_is.1, m_is.2), refl, omega arith)) (cases_eq i id)

      fits : (i : ℕ) (n : Member E) (n_is : At (slice_set views id now) i n)
          → ((i ≡ id) × (now ≡ n_is.0)) ⊎ ((i ≢ id) × (get_elem? views i ≡ some n_is.0)) → FitsHistory more n
      fits i n n_is (inl here) =
          let was = before f v.members n (subst (λ (l : List (Member E)). Contains l n) is
          (subst (λ (x : View E). Contains x.members n) (sym here.1) n_is.2)) in
          ⊎_elim (λ head. subst (FitsHistory more) (sym head) (first was.0 was.1 was.2)) (λ tail. later was.0 was.1 was.2 n tail) was.3
      fits i n n_is (inr other) = others i n other.0 (n_is.0, other.1, n_is.2)

  -- A seat comes last whose name none has.
  pub family_push : (views : List (View E)) (h : List (Event E)) → Family views h → (u : View E) (child : Member E)
      → u.members ≡ child ∷ [] → FitsHistory h child → ((i : ℕ) (m : Member E) → At views i m → m.name ≢ child.name)
      → ((k : ℕ) (name : List ℕ) → child.name ≡ k ∷ name → (j : ℕ) × (n : Member E) × At views j n × (n.name ≡ name) × (k < n.made))
      → Family (views ++ u ∷ []) h
  family_push views h family u child is fits fresh maker = record {
    fits = λ i m m_is. ⊎_elim (λ old. family.fits i m old) (λ new. subst (FitsHistory h) new.1 fits) (from i m m_is);
    apart = λ i j m n m_is n_is same. ⊎_elim
        (λ old. ⊎_elim (λ also. family.apart i j m n old also same)
        (λ new. absurd (fresh i m old (same ∙ sym (ap (λ (x : Member E). x.name) new.1)))) (from j n n_is))
        (λ new. ⊎_elim (λ old. absurd (fresh j n old (sym same ∙ sym (ap (λ (x : Member E). x.name) new.1))))
        (λ also. new.0 ∙ sym also.0) (from j n n_is)) (from i m m_is);
    once = λ i w w_is. ⊎_elim (λ old. family.once i w old)
        (λ new. subst (λ (x : View E). IsNamedOnce x.members) new.1
        (subst IsNamedOnce (sym is) (λ n listed. absurd (none_listed n listed)))) (at_end views u w i w_is);
    known = λ e listed. let who = family.known e listed in (who.0, who.1, to who.0 who.1 who.2, who.3);
    makers = λ i m m_is k name named. ⊎_elim
        (λ old. let who = family.makers i m old k name named in (who.0, who.1, to who.0 who.1 who.2, who.3, who.4))
        (λ new. let who = maker k name (ap (λ (x : Member E). x.name) new.1 ∙ named) in (who.0, who.1, to who.0 who.1 who.2, who.3, who.4))
        (from i m m_is);
  }
    where
      from : (i : ℕ) (m : Member E) → At (views ++ u ∷ []) i m → At views i m ⊎ ((i ≡ length views) × (child ≡ m))
      from i m m_is = ⊎_elim (λ old. inl (m_is.0, old, m_is.2))
          (λ new. inr (
            new.0,
            one_listed child m (subst (λ (l : List (Member E)). Contains l m) is
                (subst (λ (x : View E). Contains x.members m) (sym new.1) m_is.2)),
          ))
          (at_end views u m_is.0 i m_is.1)

      to : (i : ℕ) (m : Member E) → At views i m → At (views ++ u ∷ []) i m
      to i m m_is = (m_is.0, at_longer views (u ∷ []) i m_is.0 m_is.1, m_is.2)
