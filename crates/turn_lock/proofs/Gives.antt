-- The step that ends the turn.
use Rattle.std.proofs.Common.{◌≡◌, ◌≢◌, inl, inr, ⊎_elim, ℕ, ◌+◌, ◌*◌, ◌^◌, ◌≤◌, List, [], ◌∷◌, ◌++◌, length, true}
use Rattle.std.proofs.Common.{false, Some, None, refl, sym, ◌∙◌, ap, subst, arith}
use Rattle.std.specs.Prelude.{slice_index, slice_set, Contains, Option as OptionOf}
use mathlib.Core.Option.{Option, none, some, some-injective, some-ne-none}
use lib.ListN.{get_elem?}
use Rattle.std.proofs.lemmas.List.{append-nil}
use Rattle.std.proofs.lemmas.List.Elements.{Contains-append_cases}
use Rattle.atomic_table.proofs.Lists.{at_set}
use Rattle.atomic_table.specs.Table.{Me, Act, gives, Valid, stepped, Allows, Final, Seen, carried_after}
use Rattle.turn_lock.specs.Turn.{TurnState, at_home, away, over, Rule, Releases, FitsHistory, Family, IsNamedOnce}
use Rattle.turn_lock.specs.Turn.{itself}
use Rattle.turn_lock.specs.Turn.{telling_any, gave, seen_of, name_of, told_after, told, IsLive, ending, Closes}
use Rattle.turn_lock.specs.declared.view.Event.{Event}
use Rattle.turn_lock.specs.declared.view.Member.{Member}
use Rattle.turn_lock.specs.declared.view.View.{View}
use Rattle.turn_lock.proofs.Lists.{set_one, not_both, not_true, one_there, one_listed, listed_first, listed_later}
use Rattle.turn_lock.proofs.Events.{fits_more, more_by}
use Rattle.turn_lock.proofs.Families.{family_set}

module _ {E : Type 0} where
  -- The seat that held the turn tells its entry, or none.
  family_telling : (views : List (View E)) (h : List (Event E)) → Family views h → (id : ℕ) (v now : View E)
      → get_elem? views id ≡ some v → (m : Member E) (rest : List (Member E)) → v.members ≡ m ∷ rest → m.seen ≡ h
      → (entry : OptionOf E) → now.members ≡ itself (telling_any entry) v.members
      → Family (slice_set views id now) (told_after m.name h entry)
  family_telling views h family id v now at m rest live seen None is =
      family_set views h h family id v now at (λ n. n) (λ n. refl) (λ n. omega arith) (is ∙ itself_none v.members)
      (λ i n other n_is. family.fits i n n_is)
      (λ n ns named. family.fits id n (v, at, subst (λ (l : List (Member E)). Contains l n) (sym named) (listed_first n ns)))
      (λ n ns named u listed. family.fits id u (v, at, subst (λ (l : List (Member E)). Contains l u) (sym named) (listed_later n ns u listed)))
      (λ e listed. inl listed)
    where
      itself_none : (ms : List (Member E)) → itself (telling_any None) ms ≡ itself (λ n. n) ms
      itself_none [] = refl
      itself_none (x ∷ xs) = refl
  family_telling views h family id v now at m rest live seen (Some entry) is =
      family_set views h (h ++ event ∷ []) family id v now at (telling_any (Some entry)) (λ n. refl) (λ n. omega arith) is
      (λ i n other n_is. fits_more h n event (λ same. other (sym (family.apart id i m n m_at n_is same))) (family.fits i n n_is))
      (λ n ns named. head n (sym (ap (first_or m) named) ∙ ap (first_or m) live))
      (λ n ns named u listed. fits_more h u event
      (λ same. once n ns named u listed (sym same ∙ ap (λ (x : Member E). x.name) (sym (ap (first_or m) live) ∙ ap (first_or m) named)))
      (family.fits id u (v, at, subst (λ (l : List (Member E)). Contains l u) (sym named) (listed_later n ns u listed))))
      (λ e listed. ⊎_elim (λ old. inl old)
      (λ new. inr (m, m_at.2, ap (λ (x : Event E). x.by) (one_listed event e new)))
      (Contains-append_cases h (event ∷ []) e listed))
    where
      event : Event E
      event = record { by = m.name; entry = entry }

      m_at : (w : View E) × (get_elem? views id ≡ some w) × Contains w.members m
      m_at = (v, at, subst (λ (l : List (Member E)). Contains l m) (sym live) (listed_first m rest))

      first_or : Member E → List (Member E) → Member E
      first_or x [] = x
      first_or x (y ∷ ys) = y

      once : (n : Member E) (ns : List (Member E)) → v.members ≡ n ∷ ns → (u : Member E) → Contains ns u → u.name ≢ n.name
      once n ns named = subst IsNamedOnce named (family.once id v at)

      head : (n : Member E) → n ≡ m → FitsHistory (h ++ event ∷ []) (telling_any (Some entry) n)
      head n same = subst (λ (x : Member E). FitsHistory (h ++ event ∷ []) (telling_any (Some entry) x)) (sym same) (
        ([], append-nil (m.seen ++ event ∷ []) ∙ ap (λ (l : List (Event E)). l ++ event ∷ []) seen),
        more_by m.name h event refl ∙ ap (λ (l : List E). l ++ entry ∷ []) (family.fits id m m_at).1,
        more_by m.name m.seen event refl ∙ ap (λ (l : List E). l ++ entry ∷ []) (family.fits id m m_at).2,
      )

  -- A seat says something that is not of the family.
  family_same : (views : List (View E)) (h : List (Event E)) → Family views h → (id : ℕ) (v now : View E)
      → get_elem? views id ≡ some v → now.members ≡ v.members → Family (slice_set views id now) h
  family_same views h family id v now at is =
      family_set views h h family id v now at (λ n. n) (λ n. refl) (λ n. omega arith) (is ∙ itself_same v.members)
      (λ i n other n_is. family.fits i n n_is)
      (λ n ns named. family.fits id n (v, at, subst (λ (l : List (Member E)). Contains l n) (sym named) (listed_first n ns)))
      (λ n ns named u listed. family.fits id u (v, at, subst (λ (l : List (Member E)). Contains l u) (sym named) (listed_later n ns u listed)))
      (λ e listed. inl listed)
    where
      itself_same : (ms : List (Member E)) → ms ≡ itself (λ n. n) ms
      itself_same [] = refl
      itself_same (x ∷ xs) = refl

module _ {T E : Type 0} (stood : T → List (Event E) → Type 0) where
  -- A slot that is out is not at home.
  not_over : (homes : List (Option T)) (y : T) → homes ≡ some y ∷ [] → homes ≡ none ∷ [] → ⊥
  not_over homes y home out = some-ne-none y (some-injective (some y) none (ap (λ (l : List (Option T)). get_elem? l 0) (sym home ∙ out)))

  pub give_allows : (id next : ℕ) (v : View E) (m : Member E) (rest : List (Member E)) → v.members ≡ m ∷ rest
      → (y : T) (entry : OptionOf E) → v.holds ≡ true → stood y (told_after m.name m.seen entry)
      → next ≡ 2 * length (told_after m.name m.seen entry) → length (told_after m.name m.seen entry) ≤ 2 ^ 62
      → Allows (Rule stood) 1 id (v, (0, y) ∷ []) 0 (λ n. next) (λ n. Releases {T = T} entry (v, (0, y) ∷ []))
  give_allows id next v m rest live y entry held stands next_is few s rule slots at fits = by_turn rule.turned
    where
      now : View E
      now = gave entry v

      by_turn : TurnState stood s rule.history
          → (w : View E) × (a : Act T) × Valid s.homes ((0, y) ∷ []) a
          × Rule stood (stepped s 0 next id ((0, y) ∷ []) w a)
          × Releases {T = T} entry (v, (0, y) ∷ []) (w, carried_after ((0, y) ∷ []) a)
      by_turn (at_home state home stood_there count none_holds) = absurd (not_both v.holds (none_holds id v at) held)
      by_turn (over state home stood_there odd none_holds) = absurd (not_both v.holds (none_holds id v at) held)
      by_turn (away holder u home odd held_by u_holds u_seen alone) = (now, gives, tt, rule_after, (refl, refl))
        where
          his_turn : id ≡ holder
          his_turn = alone id v at held

          seen : m.seen ≡ rule.history
          seen = sym (ap seen_of live) ∙ ap (λ (x : View E). seen_of x.members) (one_there s.views id v u at (ap (get_elem? s.views) his_turn ∙ held_by)) ∙ u_seen

          words : slice_set s.words 0 next ≡ next ∷ []
          words = set_one s.words next rule.word

          history_is : told_after m.name m.seen entry ≡ told_after m.name rule.history entry
          history_is = ap (λ (h : List (Event E)). told_after m.name h entry) seen

          no_other : (i : ℕ) (w : View E) → get_elem? s.views i ≡ some w → i ≢ id → w.holds ≡ false
          no_other i w is ne = not_true w.holds (λ holds. ne (alone i w is holds ∙ sym his_turn))

          rule_after : Rule stood (stepped s 0 next id ((0, y) ∷ []) now gives)
          rule_after = record {
            history = told_after m.name rule.history entry;
            word = ap length words;
            room = subst (λ (h : List (Event E)). length h ≤ 2 ^ 62) history_is few;
            turned = at_home y (ap (λ (l : List (Option T)). slice_set l 0 (some y)) home)
                (subst (stood y) history_is stands)
                (ap (λ (l : List ℕ). slice_index l 0) words ∙ next_is ∙ ap (λ (l : List (Event E)). 2 * length l) history_is)
                (λ i w is. ⊎_elim (λ here. sym (ap (λ (x : View E). x.holds) here.1)) (λ other. no_other i w other.1 other.0)
                (at_set s.views id i now w is));
            last = λ i w is ended. ⊎_elim
                (λ here. let was = rule.last id v at (ap (λ (x : View E). x.ended) here.1 ∙ ended) in absurd (not_over s.homes was.0 was.1 home))
                (λ other. let was = rule.last i w other.1 ended in absurd (not_over s.homes was.0 was.1 home)) (at_set s.views id i now w is);
            family = family_telling s.views rule.history rule.family id v now at m rest live seen entry refl;
          }

  pub give_any : (slots id next : ℕ) (me : Me T (View E)) (m : Member E) (rest : List (Member E)) → me.0.members ≡ m ∷ rest
      → (y : T) (entry : OptionOf E) → slots ≡ 1 → me.0.holds ≡ true → me.1 ≡ (0, y) ∷ []
      → stood y (told_after m.name m.seen entry) → next ≡ 2 * length (told_after m.name m.seen entry)
      → length (told_after m.name m.seen entry) ≤ 2 ^ 62
      → Allows (Rule stood) slots id me 0 (λ n. next) (λ n. Releases {T = T} entry me)
  give_any slots id next me m rest live y entry one held slot stands next_is few =
      let pair : ◌≡◌ {A = Me T (View E)} (me.0, (0, y) ∷ []) me = let back = sym slot in λ i. (me.0, back i) in
      subst (λ (k : ℕ). Allows (Rule stood) k id me 0 (λ n. next) (λ n. Releases {T = T} entry me)) (sym one)
      (subst (λ (m : Me T (View E)). Allows (Rule stood) 1 id m 0 (λ n. next) (λ n. Releases {T = T} entry m)) pair
      (give_allows id next me.0 m rest live y entry held stands next_is few))

  -- The same, where the history is told by the view.
  pub end_any : (slots id next : ℕ) (me : Me T (View E)) → IsLive me.0 → (y : T) (entry : OptionOf E) → slots ≡ 1
      → me.0.holds ≡ true → me.1 ≡ (0, y) ∷ [] → stood y (told me.0 entry) → next ≡ 2 * length (told me.0 entry)
      → length (told me.0 entry) ≤ 2 ^ 62
      → Allows (Rule stood) slots id me 0 (λ n. next) (λ n. Releases {T = T} entry me)
  end_any slots id next me live y entry one held slot stands next_is few =
      let is : told me.0 entry ≡ told_after live.0.name live.0.seen entry = ap (λ (ms : List (Member E)). told_after (name_of ms) (seen_of ms) entry) live.2 in
      give_any slots id next me live.0 live.1 live.2 y entry one held slot (subst (stood y) is stands)
      (next_is ∙ ap (λ (h : List (Event E)). 2 * length h) is) (subst (λ (h : List (Event E)). length h ≤ 2 ^ 62) is few)

  -- The step that ends all turns.
  pub last_allows : (id next : ℕ) (v : View E) (y : T) → v.holds ≡ true → stood y (seen_of v.members)
      → next ≡ 2 * length (seen_of v.members) + 1
      → Allows (Rule stood) 1 id (v, (0, y) ∷ []) 0 (λ n. next) (λ n. Closes {T = T} (v, (0, y) ∷ []))
  last_allows id next v y held stands next_is s rule slots at fits = by_turn rule.turned
    where
      now : View E
      now = ending v

      by_turn : TurnState stood s rule.history
          → (w : View E) × (a : Act T) × Valid s.homes ((0, y) ∷ []) a
          × Rule stood (stepped s 0 next id ((0, y) ∷ []) w a)
          × Closes {T = T} (v, (0, y) ∷ []) (w, carried_after ((0, y) ∷ []) a)
      by_turn (at_home state home stood_there count none_holds) = absurd (not_both v.holds (none_holds id v at) held)
      by_turn (over state home stood_there odd none_holds) = absurd (not_both v.holds (none_holds id v at) held)
      by_turn (away holder u home odd held_by u_holds u_seen alone) = (now, gives, tt, rule_after, (refl, refl))
        where
          his_turn : id ≡ holder
          his_turn = alone id v at held

          seen : seen_of v.members ≡ rule.history
          seen = ap (λ (x : View E). seen_of x.members) (one_there s.views id v u at (ap (get_elem? s.views) his_turn ∙ held_by)) ∙ u_seen

          words : slice_set s.words 0 next ≡ next ∷ []
          words = set_one s.words next rule.word

          homes : slice_set s.homes 0 (some y) ≡ some y ∷ []
          homes = ap (λ (l : List (Option T)). slice_set l 0 (some y)) home

          stands_now : stood y rule.history
          stands_now = subst (stood y) seen stands

          odd_now : slice_index (slice_set s.words 0 next) 0 ≡ 2 * length rule.history + 1
          odd_now = ap (λ (l : List ℕ). slice_index l 0) words ∙ next_is ∙ ap (λ (h : List (Event E)). 2 * length h + 1) seen

          no_other : (i : ℕ) (w : View E) → get_elem? s.views i ≡ some w → i ≢ id → w.holds ≡ false
          no_other i w is ne = not_true w.holds (λ holds. ne (alone i w is holds ∙ sym his_turn))

          rule_after : Rule stood (stepped s 0 next id ((0, y) ∷ []) now gives)
          rule_after = record {
            history = rule.history;
            word = ap length words;
            room = rule.room;
            turned = over y homes stands_now odd_now
                (λ i w is. ⊎_elim (λ here. sym (ap (λ (x : View E). x.holds) here.1)) (λ other. no_other i w other.1 other.0)
                (at_set s.views id i now w is));
            last = λ i w is ended. ⊎_elim
                (λ here. (y, homes, stands_now, odd_now, sym (ap (λ (x : View E). seen_of x.members) here.1) ∙ seen))
                (λ other. let was = rule.last i w other.1 ended in absurd (not_over s.homes was.0 was.1 home)) (at_set s.views id i now w is);
            family = family_same s.views rule.history rule.family id v now at refl;
          }

  pub last_any : (slots id next : ℕ) (me : Me T (View E)) (y : T) → slots ≡ 1 → me.0.holds ≡ true → me.1 ≡ (0, y) ∷ []
      → stood y (seen_of me.0.members) → next ≡ 2 * length (seen_of me.0.members) + 1
      → Allows (Rule stood) slots id me 0 (λ n. next) (λ n. Closes {T = T} me)
  last_any slots id next me y one held slot stands next_is =
      let pair : ◌≡◌ {A = Me T (View E)} (me.0, (0, y) ∷ []) me = let back = sym slot in λ i. (me.0, back i) in
      subst (λ (k : ℕ). Allows (Rule stood) k id me 0 (λ n. next) (λ n. Closes {T = T} me)) (sym one)
      (subst (λ (m : Me T (View E)). Allows (Rule stood) 1 id m 0 (λ n. next) (λ n. Closes {T = T} m)) pair
      (last_allows id next me.0 y held stands next_is))

  -- What the last state has in the slot stands for what the seat has seen.
  pub final_state : (id : ℕ) (v : View E) (words : List ℕ) (slots : List T) (state : T) → v.ended ≡ true
      → Final (Seen (Rule stood) id v) words slots → get_elem? slots 0 ≡ some state → stood state (seen_of v.members)
  final_state id v words slots state ended final there_is =
      let s = final.0 in
      let rule = final.1.0 in
      let is_over = rule.last id v final.1.1 ended in
      let at : get_elem? slots 0 ≡ some is_over.0 = final.4 0 is_over.0 (ap (λ (l : List (Option T)). get_elem? l 0) is_over.1) in
      subst (λ (h : List (Event E)). stood state h) (sym is_over.4)
      (subst (λ (y : T). stood y rule.history) (one_there slots 0 is_over.0 state at there_is) is_over.2)
