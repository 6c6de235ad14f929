-- The steps that take the turn, and that look how long the history is.
use Rattle.std.proofs.Common.{◌≡◌, ◌≢◌, inl, ⊎_elim, ℕ, ◌+◌, ◌*◌, ◌^◌, ◌/◌, ◌%◌, ◌≤◌, List, [], ◌∷◌, length, true}
use Rattle.std.proofs.Common.{false, refl, sym, ◌∙◌, ap, subst, arith}
use Rattle.std.specs.Prelude.{◌==◌, slice_index, slice_set, Contains}
use prog.Atomic.{either}
use mathlib.Core.Option.{Option, none, some}
use lib.ListN.{get_elem?}
use Rattle.std.proofs.lemmas.Bool.{cases_eq, cases_lt}
use Rattle.std.proofs.lemmas.Bool.Decides.{nat_tests}
use Rattle.std.proofs.lemmas.List.{append-nil}
use Rattle.atomic_table.proofs.Lists.{set_again, set_here, set_else, at_set}
use Rattle.atomic_table.specs.Table.{State, Me, Act, keeps, takes, Valid, stepped, Allows, carried_after}
use Rattle.turn_lock.specs.Turn.{TurnState, at_home, away, over, Rule, IsOver, Acquires, Observes, Family, itself}
use Rattle.turn_lock.specs.Turn.{seeing}
use Rattle.turn_lock.specs.Turn.{looked, took, seen_of}
use Rattle.turn_lock.specs.declared.view.Event.{Event}
use Rattle.turn_lock.specs.declared.view.Member.{Member}
use Rattle.turn_lock.specs.declared.view.View.{View}
use Rattle.turn_lock.proofs.Lists.{set_one, only_one, there, not_both, listed_first, listed_later, one_there}
use Rattle.turn_lock.proofs.Families.{family_set, knows}

module _ {E : Type 0} where
  -- A seat has seen the whole history.
  pub family_seeing : (views : List (View E)) (h : List (Event E)) → Family views h → (id : ℕ) (v now : View E)
      → get_elem? views id ≡ some v → now.members ≡ itself (seeing h) v.members → Family (slice_set views id now) h
  family_seeing views h family id v now at is = family_set views h h family id v now at (seeing h) (λ m. refl) (λ m. omega arith) is
      (λ i m other m_is. family.fits i m m_is)
      (λ m rest named. let own = (family.fits id m (v, at, subst (λ (l : List (Member E)). Contains l m) (sym named) (listed_first m rest))).1 in (([], append-nil h), own, own))
      (λ m rest named n listed. family.fits id n (v, at, subst (λ (l : List (Member E)). Contains l n) (sym named) (listed_later m rest n listed)))
      (λ e listed. inl listed)

  seen_all : (h : List (Event E)) (ms : List (Member E)) (m : Member E) (rest : List (Member E)) → ms ≡ m ∷ rest
      → seen_of (itself (seeing h) ms) ≡ h
  seen_all h ms m rest is = ap (λ (l : List (Member E)). seen_of (itself (seeing h) l)) is

module _ {T E : Type 0} where
  pub same_state : (s : State T (View E)) (words : List ℕ) (views : List (View E)) → words ≡ s.words → views ≡ s.views
      → ◌≡◌ {A = State T (View E)} (record { words = words; homes = s.homes; views = views }) s
  same_state s words views w v = λ i. record { words = w i; homes = s.homes; views = v i }

module _ {T E : Type 0} (stood : T → List (Event E) → Type 0) where
  lost_case : (id : ℕ) (v : View E) (k : ℕ) (s : State T (View E)) → Rule stood s → get_elem? s.views id ≡ some v
      → slice_index s.words 0 ≢ 2 * k
      → Rule stood (stepped s 0 (either (slice_index s.words 0 == 2 * k) (2 * k + 1) (slice_index s.words 0)) id [] v keeps)
  lost_case id v k s rule at ne =
      let test : (slice_index s.words 0 == 2 * k) ≡ false = grind (arith, nat_tests) in
      let words : slice_set s.words 0 (either (slice_index s.words 0 == 2 * k) (2 * k + 1) (slice_index s.words 0)) ≡ s.words =
      ap (λ b. slice_set s.words 0 (either b (2 * k + 1) (slice_index s.words 0))) test ∙ set_one s.words (slice_index s.words 0) rule.word ∙ only_one s.words rule.word in
      subst (Rule stood) (sym (same_state s _ _ words (set_again s.views id v at))) rule

  won_case : (id : ℕ) (v : View E) (m : Member E) (rest : List (Member E)) → v.members ≡ m ∷ rest
      → (k : ℕ) (s : State T (View E)) (rule : Rule stood s) (state : T)
      → get_elem? s.views id ≡ some v → slice_index s.words 0 ≡ 2 * k
      → s.homes ≡ some state ∷ [] → slice_index s.words 0 ≡ 2 * length rule.history
      → ((i : ℕ) (w : View E) → get_elem? s.views i ≡ some w → w.holds ≡ false)
      → Rule stood (stepped s 0 (either (slice_index s.words 0 == 2 * k) (2 * k + 1) (slice_index s.words 0)) id []
      (took rule.history v) (takes 0 state))
  won_case id v m rest live k s rule state at word home count none_holds =
      let test : (slice_index s.words 0 == 2 * k) ≡ true = grind (arith, nat_tests) in
      let words : slice_set s.words 0 (either (slice_index s.words 0 == 2 * k) (2 * k + 1) (slice_index s.words 0)) ≡ (2 * k + 1) ∷ [] =
      ap (λ b. slice_set s.words 0 (either b (2 * k + 1) (slice_index s.words 0))) test ∙ set_one s.words (2 * k + 1) rule.word in
      let now : View E = took rule.history v in
      record {
        history = rule.history;
        word = ap length words;
        room = rule.room;
        turned = away id now (ap (λ (l : List (Option T)). slice_set l 0 none) home) (ap (λ (l : List ℕ). slice_index l 0) words ∙ omega (arith, word, count))
            (set_here s.views id now (there s.views id v at)) refl (seen_all rule.history v.members m rest live)
            (λ i w is held. ⊎_elim (λ here. here.0) (λ other. absurd (not_both w.holds (none_holds i w other.1) held)) (at_set s.views id i now w is));
        last = λ i w is ended. ⊎_elim
            (λ here. let was = rule.last id v at (ap (λ (x : View E). x.ended) here.1 ∙ ended) in let odd = was.3 in absurd (omega (arith, odd, count)))
            (λ other. let was = rule.last i w other.1 ended in let odd = was.3 in absurd (omega (arith, odd, count)))
            (at_set s.views id i now w is);
        family = family_seeing s.views rule.history rule.family id v now at refl;
      }

  pub take_allows : (id : ℕ) (v : View E) (m : Member E) (rest : List (Member E)) → v.members ≡ m ∷ rest → (k : ℕ) → v.holds ≡ false
      → Allows (Rule stood) 1 id (v, []) 0 (λ n. either (n == 2 * k) (2 * k + 1) n) (Acquires stood (v, []) (2 * k))
  take_allows id v m rest live k free s rule slots at fits = ⊎_elim
      (λ won. by_turn won rule.turned)
      (λ lost. (v, keeps, tt, lost_case id v k s rule at lost, record { won = λ is. absurd (lost is); lost = λ ne. refl }))
      (cases_eq (slice_index s.words 0) (2 * k))
    where
      by_turn : slice_index s.words 0 ≡ 2 * k → TurnState stood s rule.history → (w : View E) × (a : Act T) × Valid s.homes [] a × Rule stood (stepped s 0 (either (slice_index s.words 0 == 2 * k) (2 * k + 1) (slice_index s.words 0)) id [] w a)
          × Acquires stood (v, []) (2 * k) (slice_index s.words 0) (w, carried_after [] a)
      by_turn won (at_home state home stands count none_holds) = (
        took rule.history v,
        takes 0 state,
        ap (λ (l : List (Option T)). get_elem? l 0) home,
        won_case id v m rest live k s rule state at won home count none_holds,
        record { won = λ is. (rule.history, state, refl, stands, knows s.views rule.history rule.family id v at, count); lost = λ ne. absurd (ne won) },
      )
      by_turn won (away holder w home odd held_by held seen alone) = absurd (omega (arith, won, odd))
      by_turn won (over state home stands odd none_holds) = absurd (omega (arith, won, odd))

  pub take_any : (slots id : ℕ) (me : Me T (View E)) (at : ℕ) → slots ≡ 1 → (m : Member E) (rest : List (Member E)) → me.0.members ≡ m ∷ rest
      → me.0.holds ≡ false → me.1 ≡ [] → at % 2 ≡ 0
      → Allows (Rule stood) slots id me 0 (λ n. either (n == at) (at + 1) n) (Acquires stood me at)
  take_any slots id me at one m rest live free empty even =
      let twice : 2 * (at / 2) ≡ at = omega arith in
      let pair : ◌≡◌ {A = Me T (View E)} (me.0, []) me = let back = sym empty in λ i. (me.0, back i) in
      subst (λ (k : ℕ). Allows (Rule stood) k id me 0 (λ n. either (n == at) (at + 1) n) (Acquires stood me at)) (sym one)
      (subst (λ (m : Me T (View E)). Allows (Rule stood) 1 id m 0 (λ n. either (n == at) (at + 1) n) (Acquires stood m at)) pair
      (subst (λ (t : ℕ). Allows (Rule stood) 1 id (me.0, []) 0 (λ n. either (n == t) (t + 1) n) (Acquires stood (me.0, []) t)) twice (take_allows id me.0 m rest live (at / 2) free)))

  -- Looking changes what the seat has seen, where the history has become as long as it may, and nothing else.
  pub look_any : (slots id : ℕ) (me : Me T (View E)) → slots ≡ 1 → me.0.holds ≡ false
      → Allows (Rule stood) slots id me 0 (λ n. n) (Observes me)
  look_any slots id me one free s rule s_slots at fits = ⊎_elim
      (λ short. (
        me.0,
        keeps,
        tt,
        subst (Rule stood) (sym (same_state s _ _ words (set_again s.views id me.0 at))) rule,
        record { full = λ long. absurd (omega (arith, short, long)); short = λ _. refl },
      ))
      (λ long. (
        now,
        keeps,
        tt,
        subst (Rule stood) (sym (ap_words s words views)) rule_after,
        record { full = λ _. (rule.history, refl, knows s.views rule.history rule.family id me.0 at, counted long rule.turned); short = λ low. absurd (omega (arith, low, long)) },
      ))
      (cases_lt (slice_index s.words 0) (2 ^ 63))
    where
      now : View E
      now = looked rule.history me.0

      words : slice_set s.words 0 (slice_index s.words 0) ≡ s.words
      words = set_one s.words (slice_index s.words 0) rule.word ∙ only_one s.words rule.word

      views : List (View E)
      views = slice_set s.views id now

      ap_words : (s : State T (View E)) {words : List ℕ} → words ≡ s.words → (views : List (View E))
          → ◌≡◌ {A = State T (View E)} (record { words = words; homes = s.homes; views = views }) (record { words = s.words; homes = s.homes; views = views })
      ap_words s same views = λ i. record { words = same i; homes = s.homes; views = views }

      counted : 2 ^ 63 ≤ slice_index s.words 0 → TurnState stood s rule.history → length rule.history ≡ 2 ^ 62
      counted long (at_home state home stands count none_holds) = let room = rule.room in omega (arith, long, count, room)
      counted long (away holder w home odd held_by held seen alone) = let room = rule.room in omega (arith, long, odd, room)
      counted long (over state home stands odd none_holds) = let room = rule.room in omega (arith, long, odd, room)

      turned : TurnState stood s rule.history → TurnState stood (record { words = s.words; homes = s.homes; views = views }) rule.history
      turned (over state home stands odd none_holds) = over state home stands odd
          (λ i w is. ⊎_elim (λ here. sym (ap (λ (x : View E). x.holds) here.1) ∙ free) (λ other. none_holds i w other.1) (at_set s.views id i now w is))
      turned (at_home state home stands count none_holds) = at_home state home stands count
          (λ i w is. ⊎_elim (λ here. sym (ap (λ (x : View E). x.holds) here.1) ∙ free) (λ other. none_holds i w other.1) (at_set s.views id i now w is))
      turned (away holder u home odd held_by holds seen alone) =
          let not_id : holder ≢ id = λ same. not_both u.holds (ap (λ (x : View E). x.holds) (one_there s.views holder u me.0 held_by (ap (get_elem? s.views) same ∙ at)) ∙ free) holds in
          away holder u home odd (set_else s.views id holder now not_id ∙ held_by) holds seen
          (λ i w is taken. ⊎_elim (λ here. absurd (not_both w.holds (sym (ap (λ (x : View E). x.holds) here.1) ∙ free) taken)) (λ other. alone i w other.1 taken) (at_set s.views id i now w is))

      seen_still : (ms : List (Member E)) → seen_of ms ≡ rule.history → seen_of (itself (seeing rule.history) ms) ≡ rule.history
      seen_still [] seen = seen
      seen_still (m ∷ ms) seen = refl

      last : (i : ℕ) (w : View E) → get_elem? views i ≡ some w → w.ended ≡ true → IsOver stood (record { words = s.words; homes = s.homes; views = views }) rule.history w
      last i w is ended = ⊎_elim
          (λ here. let was = rule.last id me.0 at (ap (λ (x : View E). x.ended) here.1 ∙ ended) in
          (was.0, was.1, was.2, was.3, sym (ap (λ (x : View E). seen_of x.members) here.1) ∙ seen_still me.0.members was.4))
          (λ other. rule.last i w other.1 ended) (at_set s.views id i now w is)

      rule_after : Rule stood (record { words = s.words; homes = s.homes; views = views })
      rule_after = record {
        history = rule.history;
        word = rule.word;
        room = rule.room;
        turned = turned rule.turned;
        last = last;
        family = family_seeing s.views rule.history rule.family id me.0 now at refl;
      }
