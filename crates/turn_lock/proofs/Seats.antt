-- A seat that is split from another, and one that is joined into another.
use Rattle.std.proofs.Common.{◌≡◌, ◌≢◌, ◌⊎◌, inl, inr, ⊎_elim, ℕ, ◌+◌, ◌<◌, List, [], ◌∷◌, ◌++◌, true, false, refl, sym}
use Rattle.std.proofs.Common.{◌∙◌, ap, subst, arith}
use Rattle.std.specs.Prelude.{slice_set, Contains}
use mathlib.Core.List.{IsPrefix}
use mathlib.Core.Option.{some}
use lib.ListN.{get_elem?}
use Rattle.std.proofs.lemmas.Bool.{cases_eq}
use Rattle.std.proofs.lemmas.List.{set-set}
use Rattle.std.proofs.lemmas.List.Elements.{Contains-append_left, Contains-append_right, Contains-append_cases}
use Rattle.atomic_table.proofs.Lists.{set_here, set_else, at_set, at_longer}
use Rattle.atomic_table.specs.Table.{Splits, Joins}
use Rattle.turn_lock.specs.Turn.{TurnState, at_home, away, over, Rule, IsOver, FitsHistory, Family, At, IsNamedOnce}
use Rattle.turn_lock.specs.Turn.{itself, seeing, parting, part_of, parts_of, kept_at_split, made_at_split, joined}
use Rattle.turn_lock.specs.Turn.{spent, seen_of, longer}
use Rattle.turn_lock.specs.declared.view.Event.{Event}
use Rattle.turn_lock.specs.declared.view.Member.{Member}
use Rattle.turn_lock.specs.declared.view.View.{View}
use Rattle.turn_lock.proofs.Lists.{there, not_both, none_listed, listed_cases, listed_first, listed_later, at_end}
use Rattle.turn_lock.proofs.Lists.{one_there}
use Rattle.turn_lock.proofs.Events.{none_by}
use Rattle.turn_lock.proofs.Histories.{fits_longer, longer_whole}
use Rattle.turn_lock.proofs.Families.{family_set, family_push}

module _ {E : Type 0} where
  -- The name of the next part is nobody's.
  pub fresh : (views : List (View E)) (h : List (Event E)) → Family views h → (id : ℕ) (v : View E) → get_elem? views id ≡ some v
      → (m : Member E) (rest : List (Member E)) → v.members ≡ m ∷ rest
      → (i : ℕ) (n : Member E) → At views i n → n.name ≢ m.made ∷ m.name
  fresh views h family id v at m rest live i n n_is same =
      let maker = family.makers i n n_is m.made m.name same in
      let m_at : At views id m = (v, at, subst (λ (l : List (Member E)). Contains l m) (sym live) (listed_first m rest)) in
      let here : id ≡ maker.0 = family.apart id maker.0 m maker.1 m_at maker.2 (sym maker.3) in
      let is_v : maker.2.0 ≡ v = one_there views id maker.2.0 v (ap (get_elem? views) here ∙ maker.2.1) at in
      let his : Contains (m ∷ rest) maker.1 = subst (λ (l : List (Member E)). Contains l maker.1) live (subst (λ (w : View E). Contains w.members maker.1) is_v maker.2.2) in
      let once : IsNamedOnce (m ∷ rest) = subst IsNamedOnce live (family.once id v at) in
      ⊎_elim (λ itself_is. let made : m.made ≡ maker.1.made = ap (λ (x : Member E). x.made) itself_is in let below = maker.4 in omega (arith, made, below))
      (λ later. once maker.1 later maker.3) (listed_cases m rest maker.1 his)

  -- Of the next part the history has no event.
  unheard : (views : List (View E)) (h : List (Event E)) → Family views h → (id : ℕ) (v : View E) → get_elem? views id ≡ some v
      → (m : Member E) (rest : List (Member E)) → v.members ≡ m ∷ rest → FitsHistory h (part_of m)
  unheard views h family id v at m rest live = (
    begins,
    none_by (m.made ∷ m.name) h never,
    none_by (m.made ∷ m.name) m.seen
        (λ e listed. never e (subst (λ (l : List (Event E)). Contains l e) begins.1 (Contains-append_left m.seen begins.0 e listed))),
  )
    where
      begins : IsPrefix m.seen h
      begins = (family.fits id m (v, at, subst (λ (l : List (Member E)). Contains l m) (sym live) (listed_first m rest))).0

      never : (e : Event E) → Contains h e → e.by ≢ m.made ∷ m.name
      never e listed same = let who = family.known e listed in
          fresh views h family id v at m rest live who.0 who.1 who.2 (who.3 ∙ same)

  pub family_split : (views : List (View E)) (h : List (Event E)) → Family views h → (id : ℕ) (v : View E) → get_elem? views id ≡ some v
      → (m : Member E) (rest : List (Member E)) → v.members ≡ m ∷ rest
      → Family (slice_set views id (kept_at_split v) ++ made_at_split v ∷ []) h
  family_split views h family id v at m rest live = family_push kept h still (made_at_split v) (part_of m) (ap parts_of live)
      (unheard views h family id v at m rest live)
      new_name (λ k name named. (id, parting m, m_now, ap tail_of named, made_more k name named))
    where
      kept : List (View E)
      kept = slice_set views id (kept_at_split v)

      same_fits : (n : Member E) → FitsHistory h n → FitsHistory h (parting n)
      same_fits n fits = fits

      still : Family kept h
      still = family_set views h h family id v (kept_at_split v) at parting (λ n. refl) (λ n. omega arith) refl
          (λ i n other n_is. family.fits i n n_is)
          (λ n ns named. same_fits n (family.fits id n (v, at, subst (λ (l : List (Member E)). Contains l n) (sym named) (listed_first n ns))))
          (λ n ns named u listed. family.fits id u (v, at, subst (λ (l : List (Member E)). Contains l u) (sym named) (listed_later n ns u listed)))
          (λ e listed. inl listed)

      head_of : List ℕ → ℕ
      head_of [] = 0
      head_of (x ∷ xs) = x

      tail_of : List ℕ → List ℕ
      tail_of [] = []
      tail_of (x ∷ xs) = xs

      made_more : (k : ℕ) (name : List ℕ) → m.made ∷ m.name ≡ k ∷ name → k < m.made + 1
      made_more k name named = let is : m.made ≡ k = ap head_of named in omega (arith, is)

      m_now : At kept id (parting m)
      m_now = (
        kept_at_split v,
        set_here views id (kept_at_split v) (there views id v at),
        subst (λ (l : List (Member E)). Contains (itself parting l) (parting m)) (sym live) (listed_first (parting m) rest),
      )

      -- whoever has a name now had it before
      new_name : (i : ℕ) (n : Member E) → At kept i n → n.name ≢ m.made ∷ m.name
      new_name i n n_is named = ⊎_elim
          (λ here. let his : Contains (parting m ∷ rest) n = subst (λ (l : List (Member E)). Contains (itself parting l) n) live
          (subst (λ (x : View E). Contains x.members n) (sym here.1) n_is.2) in
          ⊎_elim
          (λ head. fresh views h family id v at m rest live id m (v, at, subst (λ (l : List (Member E)). Contains l m) (sym live) (listed_first m rest))
          (ap (λ (x : Member E). x.name) head ∙ named))
          (λ later. fresh views h family id v at m rest live id n (v, at, subst (λ (l : List (Member E)). Contains l n) (sym live) (listed_later m rest n later)) named)
          (listed_cases (parting m) rest n his))
          (λ other. fresh views h family id v at m rest live i n (n_is.0, other.1, n_is.2) named)
          (at_set views id i (kept_at_split v) n_is.0 n_is.1)

  -- another's members behind a seat's own
  abbrev beside : View E → View E → View E
  beside v w = record v { members = v.members ++ w.members }

  family_beside : (views : List (View E)) (h : List (Event E)) → Family views h → (id other : ℕ) (v w : View E) → get_elem? views id ≡ some v
      → get_elem? views other ≡ some w → other ≢ id → Family (slice_set (slice_set views id (beside v w)) other spent) h
  family_beside views h family id other v w v_is w_is ne = record {
    fits = λ i n n_is. let was = from i n n_is in family.fits was.0 n was.1;
    apart = λ i j n u n_is u_is same. let a = from i n n_is in let b = from j u u_is in
        let same_place : a.0 ≡ b.0 = family.apart a.0 b.0 n u a.1 b.1 same in
        ⊎_elim
        (λ mine. ⊎_elim (λ also. mine.0 ∙ sym also.0)
        (λ far. absurd (⊎_elim (λ at_id. far.1 (sym same_place ∙ at_id)) (λ at_other. far.2 (sym same_place ∙ at_other)) mine.1)) b.2)
        (λ far. ⊎_elim
        (λ mine. absurd (⊎_elim (λ at_id. far.1 (same_place ∙ at_id)) (λ at_other. far.2 (same_place ∙ at_other)) mine.1))
        (λ also. far.0 ∙ same_place ∙ sym also.0) b.2) a.2;
    once = λ i u u_is. once i u (at_set (slice_set views id (beside v w)) other i spent u u_is);
    known = λ e listed. let who = family.known e listed in let still = to who.0 who.1 who.2 in (still.0, who.1, still.1, who.3);
    makers = λ i n n_is k name named. let was = from i n n_is in let who = family.makers was.0 n was.1 k name named in
        let still = to who.0 who.1 who.2 in (still.0, who.1, still.1, who.3, who.4);
  }
    where
      Place : ℕ → Member E → Type 0
      Place i n = (a : ℕ) × At views a n × (((i ≡ id) × ((a ≡ id) ⊎ (a ≡ other))) ⊎ ((i ≡ a) × (a ≢ id) × (a ≢ other)))

      now : List (View E)
      now = slice_set (slice_set views id (beside v w)) other spent

      from : (i : ℕ) (n : Member E) → At now i n → Place i n
      from i n n_is = ⊎_elim
          (λ gone. absurd (none_listed n (subst (λ (x : View E). Contains x.members n) (sym gone.1) n_is.2)))
          (λ before. ⊎_elim
          (λ here. ⊎_elim
          (λ his. (id, (v, v_is, his), inl (here.0, inl refl)))
          (λ its. (other, (w, w_is, its), inl (here.0, inr refl)))
          (Contains-append_cases v.members w.members n (subst (λ (x : View E). Contains x.members n) (sym here.1) n_is.2)))
          (λ still. (i, (n_is.0, still.1, n_is.2), inr (refl, still.0, before.0)))
          (at_set views id i (beside v w) n_is.0 before.1))
          (at_set (slice_set views id (beside v w)) other i spent n_is.0 n_is.1)

      both_is : get_elem? now id ≡ some (beside v w)
      both_is = set_else (slice_set views id (beside v w)) other id spent (λ e. ne (sym e)) ∙ set_here views id (beside v w) (there views id v v_is)

      to : (i : ℕ) (m : Member E) → At views i m → (j : ℕ) × At now j m
      to i m m_is = ⊎_elim
          (λ here. let is_v : m_is.0 ≡ v = one_there views id m_is.0 v (ap (get_elem? views) (sym here) ∙ m_is.1) v_is in
          (id, (beside v w, both_is, Contains-append_left v.members w.members m (subst (λ (x : View E). Contains x.members m) is_v m_is.2))))
          (λ not_id. ⊎_elim
          (λ there_is. let is_w : m_is.0 ≡ w = one_there views other m_is.0 w (ap (get_elem? views) (sym there_is) ∙ m_is.1) w_is in
          (id, (beside v w, both_is, Contains-append_right v.members w.members m (subst (λ (x : View E). Contains x.members m) is_w m_is.2))))
          (λ not_other. (i, (m_is.0, set_else (slice_set views id (beside v w)) other i spent not_other ∙ set_else views id i (beside v w) not_id ∙ m_is.1, m_is.2)))
          (cases_eq i other))
          (cases_eq i id)

      once_both : (ms ns : List (Member E)) → IsNamedOnce ms → IsNamedOnce ns
          → ((m n : Member E) → Contains ms m → Contains ns n → n.name ≢ m.name) → IsNamedOnce (ms ++ ns)
      once_both [] ns mine its apart = its
      once_both (m ∷ ms) ns mine its apart = λ n listed same. ⊎_elim
          (λ old. mine n old same) (λ new. apart m n (listed_first m ms) new same) (Contains-append_cases ms ns n listed)

      once : (i : ℕ) (u : View E) → ((i ≡ other) × (spent ≡ u)) ⊎ ((i ≢ other) × (get_elem? (slice_set views id (beside v w)) i ≡ some u)) → IsNamedOnce u.members
      once i u (inl gone) = subst (λ (x : View E). IsNamedOnce x.members) gone.1 tt
      once i u (inr before) = ⊎_elim
          (λ here. subst (λ (x : View E). IsNamedOnce x.members) here.1
          (once_both v.members w.members (family.once id v v_is) (family.once other w w_is)
          (λ m n his its same. ne (family.apart other id n m (w, w_is, its) (v, v_is, his) same))))
          (λ still. family.once i u still.1) (at_set views id i (beside v w) u before.1)

  -- what a seat saw that stands behind another is a beginning of the history
  seen_begins : (views : List (View E)) (h : List (Event E)) → Family views h → (i : ℕ) (w : View E) → get_elem? views i ≡ some w
      → IsPrefix (seen_of w.members) h
  seen_begins views h family i w at = by_first w.members (λ m listed. (family.fits i m (w, at, listed)).0)
    where
      by_first : (ms : List (Member E)) → ((m : Member E) → Contains ms m → IsPrefix m.seen h) → IsPrefix (seen_of ms) h
      by_first [] begins = (h, refl)
      by_first (m ∷ ms) begins = begins m (listed_first m ms)

  pub family_join : (views : List (View E)) (h : List (Event E)) → Family views h → (id other : ℕ) (v w : View E) → get_elem? views id ≡ some v
      → get_elem? views other ≡ some w → other ≢ id → Family (slice_set (slice_set views id (joined v w)) other spent) h
  family_join views h family id other v w v_is w_is ne =
      subst (λ (l : List (View E)). Family (slice_set l other spent) h) (set-set views id now (joined v w))
      (family_beside (slice_set views id now) h seen id other now w (set_here views id now (there views id v v_is))
      (set_else views id other now ne ∙ w_is) ne)
    where
      sight : List (Event E)
      sight = longer (seen_of v.members) (seen_of w.members)

      now : View E
      now = record v { members = itself (seeing sight) v.members }

      fits : (n : Member E) (ns : List (Member E)) → v.members ≡ n ∷ ns → FitsHistory h (seeing sight n)
      fits n ns named = subst (λ (l : List (Event E)). FitsHistory h (seeing (longer l (seen_of w.members)) n)) (sym (ap seen_of named))
          (fits_longer h n (seen_of w.members)
          (family.fits id n (v, v_is, subst (λ (l : List (Member E)). Contains l n) (sym named) (listed_first n ns)))
          (seen_begins views h family other w w_is))

      seen : Family (slice_set views id now) h
      seen = family_set views h h family id v now v_is (seeing sight) (λ m. refl) (λ m. omega arith) refl
          (λ i n differ n_is. family.fits i n n_is) fits
          (λ n ns named u listed. family.fits id u (v, v_is, subst (λ (l : List (Member E)). Contains l u) (sym named) (listed_later n ns u listed)))
          (λ e listed. inl listed)

module _ {T E : Type 0} (stood : T → List (Event E) → Type 0) where
  pub split_any : (id : ℕ) (v : View E) (m : Member E) (rest : List (Member E)) → v.members ≡ m ∷ rest → v.holds ≡ false
      → Splits (Rule stood) id v (kept_at_split v) (made_at_split v)
  split_any id v m rest live free s rule at = record {
    history = rule.history;
    word = rule.word;
    room = rule.room;
    turned = turned rule.turned;
    last = last;
    family = family_split s.views rule.history rule.family id v at m rest live;
  }
    where
      kept : List (View E)
      kept = slice_set s.views id (kept_at_split v)

      views : List (View E)
      views = kept ++ made_at_split v ∷ []

      seen_still : (ms : List (Member E)) → seen_of (itself parting ms) ≡ seen_of ms
      seen_still [] = refl
      seen_still (x ∷ xs) = refl

      last : (i : ℕ) (w : View E) → get_elem? views i ≡ some w → w.ended ≡ true → IsOver stood (record { words = s.words; homes = s.homes; views = views }) rule.history w
      last i w is ended = ⊎_elim
          (λ before. ⊎_elim
          (λ here. let was = rule.last id v at (ap (λ (x : View E). x.ended) here.1 ∙ ended) in
          (was.0, was.1, was.2, was.3, sym (ap (λ (x : View E). seen_of x.members) here.1) ∙ seen_still v.members ∙ was.4))
          (λ other. rule.last i w other.1 ended) (at_set s.views id i (kept_at_split v) w before))
          (λ made. absurd (not_both w.ended (sym (ap (λ (x : View E). x.ended) made.1)) ended))
          (at_end kept (made_at_split v) w i is)

      -- who holds the turn did before
      idle : (i : ℕ) (w : View E) → get_elem? views i ≡ some w → (w.holds ≡ false) ⊎ (get_elem? s.views i ≡ some w)
      idle i w is = ⊎_elim
          (λ before. ⊎_elim (λ here. inl (sym (ap (λ (x : View E). x.holds) here.1) ∙ free)) (λ other. inr other.1)
          (at_set s.views id i (kept_at_split v) w before))
          (λ last. inl (sym (ap (λ (x : View E). x.holds) last.1)))
          (at_end kept (made_at_split v) w i is)

      turned : TurnState stood s rule.history → TurnState stood (record { words = s.words; homes = s.homes; views = views }) rule.history
      turned (over state home stands odd none_holds) = over state home stands odd
          (λ i w is. ⊎_elim (λ freed. freed) (λ still. none_holds i w still) (idle i w is))
      turned (at_home state home stands count none_holds) = at_home state home stands count
          (λ i w is. ⊎_elim (λ freed. freed) (λ still. none_holds i w still) (idle i w is))
      turned (away holder u home odd held_by holds seen alone) =
          let not_id : holder ≢ id = λ same. not_both u.holds (ap (λ (x : View E). x.holds) (one_there s.views holder u v held_by (ap (get_elem? s.views) same ∙ at)) ∙ free) holds in
          away holder u home odd (at_longer kept (made_at_split v ∷ []) holder u (set_else s.views id holder (kept_at_split v) not_id ∙ held_by)) holds seen
          (λ i w is taken. ⊎_elim (λ freed. absurd (not_both w.holds freed taken)) (λ still. alone i w still taken) (idle i w is))

  pub join_any : (id other : ℕ) (v w : View E) (m : Member E) (rest : List (Member E)) → v.members ≡ m ∷ rest
      → v.holds ≡ false → w.holds ≡ false
      → Joins (Rule stood) id v other w (joined v w) spent
  join_any id other v w m rest live free w_free s rule v_is ne w_now = record {
    history = rule.history;
    word = rule.word;
    room = rule.room;
    turned = turned rule.turned;
    last = last;
    family = family_join s.views rule.history rule.family id other v w v_is w_is ne;
  }
    where
      w_is : get_elem? s.views other ≡ some w
      w_is = sym (set_else s.views id other (joined v w) ne) ∙ w_now

      views : List (View E)
      views = slice_set (slice_set s.views id (joined v w)) other spent

      seen_still : seen_of v.members ≡ rule.history → seen_of (itself (seeing (longer (seen_of v.members) (seen_of w.members))) v.members ++ w.members) ≡ rule.history
      seen_still seen = ap (λ (l : List (Member E)). seen_of (itself (seeing (longer (seen_of v.members) (seen_of w.members))) l ++ w.members)) live
          ∙ ap (λ (l : List (Event E)). longer l (seen_of w.members)) seen
          ∙ longer_whole rule.history (seen_of w.members) (seen_begins s.views rule.history rule.family other w w_is)

      last : (i : ℕ) (u : View E) → get_elem? views i ≡ some u → u.ended ≡ true → IsOver stood (record { words = s.words; homes = s.homes; views = views }) rule.history u
      last i u is ended = ⊎_elim
          (λ gone. absurd (not_both u.ended (sym (ap (λ (x : View E). x.ended) gone.1)) ended))
          (λ before. ⊎_elim
          (λ here. let was = rule.last id v v_is (ap (λ (x : View E). x.ended) here.1 ∙ ended) in
          (was.0, was.1, was.2, was.3, sym (ap (λ (x : View E). seen_of x.members) here.1) ∙ seen_still was.4))
          (λ still. rule.last i u still.1 ended) (at_set s.views id i (joined v w) u before.1))
          (at_set (slice_set s.views id (joined v w)) other i spent u is)

      idle : (i : ℕ) (u : View E) → get_elem? views i ≡ some u → (u.holds ≡ false) ⊎ (get_elem? s.views i ≡ some u)
      idle i u is = ⊎_elim
          (λ gone. inl (sym (ap (λ (x : View E). x.holds) gone.1)))
          (λ before. ⊎_elim (λ here. inl (sym (ap (λ (x : View E). x.holds) here.1) ∙ free)) (λ still. inr still.1)
          (at_set s.views id i (joined v w) u before.1))
          (at_set (slice_set s.views id (joined v w)) other i spent u is)

      turned : TurnState stood s rule.history → TurnState stood (record { words = s.words; homes = s.homes; views = views }) rule.history
      turned (over state home stands odd none_holds) = over state home stands odd
          (λ i u is. ⊎_elim (λ freed. freed) (λ still. none_holds i u still) (idle i u is))
      turned (at_home state home stands count none_holds) = at_home state home stands count
          (λ i u is. ⊎_elim (λ freed. freed) (λ still. none_holds i u still) (idle i u is))
      turned (away holder u home odd held_by holds seen alone) =
          away holder u home odd (set_else (slice_set s.views id (joined v w)) other holder spent (not_free other w w_is w_free)
          ∙ set_else s.views id holder (joined v w) (not_free id v v_is free) ∙ held_by) holds seen
          (λ i x is taken. ⊎_elim (λ freed. absurd (not_both x.holds freed taken)) (λ still. alone i x still taken) (idle i x is))
        where
          not_free : (k : ℕ) (x : View E) → get_elem? s.views k ≡ some x → x.holds ≡ false → holder ≢ k
          not_free k x is freed same = not_both u.holds (ap (λ (y : View E). y.holds) (one_there s.views holder u x held_by (ap (get_elem? s.views) same ∙ is)) ∙ freed) holds
