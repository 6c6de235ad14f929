-- A seat as callers see it stays a seat.
use Rattle.std.proofs.Common.{◌≡◌, ◌⊎◌, ⊎_elim, ℕ, ◌+◌, ◌^◌, ◌≤◌, max, List, [], ◌∷◌, ◌++◌, length, length-append, true}
use Rattle.std.proofs.Common.{false, Some, None, refl, sym, ◌∙◌, ap, subst, arith}
use Rattle.std.specs.Prelude.{Option as OptionOf, Contains}
use Rattle.std.proofs.lemmas.List.Elements.{Contains-append_cases}
use Rattle.atomic_table.specs.Table.{Me, rest}
use Rattle.atomic_table.specs.Seated.{TableId}
use Rattle.turn_lock.specs.Turn.{IsLive, StandsFor, HasAcquired, HasAcquiredLast, ObservesFull, Releases, Closes}
use Rattle.turn_lock.specs.Turn.{KnowsHistory, AreAll}
use Rattle.turn_lock.specs.Turn.{entries, seen_of, itself, seeing, telling, telling_any, parting, took, gave}
use Rattle.turn_lock.specs.Turn.{kept_at_split, joined, longer}
use Rattle.turn_lock.specs.Seats.{Sitting, sitting, first_of, others_of, everyone, IsSeat, Ended}
use Rattle.turn_lock.specs.declared.view.Event.{Event}
use Rattle.turn_lock.specs.declared.view.Member.{Member}
use Rattle.turn_lock.specs.declared.view.View.{View}
use Rattle.turn_lock.proofs.Lists.{not_both, none_listed, listed_cases, listed_first, listed_later}
use Rattle.turn_lock.proofs.Families.{before}
use Rattle.turn_lock.proofs.Histories.{begins_length, longer_length, most_is_all}

module _ {E : Type 0} where
  pub first_seen : (ms : List (Member E)) → (first_of ms).seen ≡ seen_of ms
  first_seen [] = refl
  first_seen (m ∷ ms) = refl

  pub entries_more : (h : List (Event E)) (event : Event E) → entries (h ++ event ∷ []) ≡ entries h ++ event.entry ∷ []
  entries_more [] event = refl
  entries_more (e ∷ h) event = ap (λ (l : List E). e.entry ∷ l) (entries_more h event)

  seen_parting : (ms : List (Member E)) → seen_of (itself parting ms) ≡ seen_of ms
  seen_parting [] = refl
  seen_parting (m ∷ ms) = refl

  -- The members of a live view are the seat and those that were joined into it.
  pub all_members : (v : View E) → IsLive v → (lock : TableId) → everyone (sitting lock v) ≡ v.members
  all_members v live lock = ap (λ (ms : List (Member E)). first_of ms ∷ others_of ms) live.2 ∙ sym live.2

  -- Who was joined into a seat has seen no more than it, also once it has seen more.
  pub most_still : (f : Member E → Member E) → ((m : Member E) → length m.seen ≤ length (f m).seen) → (ms : List (Member E))
      → ((n : Member E) → Contains ms n → length n.seen ≤ length (seen_of ms))
      → (n : Member E) → Contains (itself f ms) n → length n.seen ≤ length (seen_of (itself f ms))
  most_still f grows [] most n listed = absurd (none_listed n listed)
  most_still f grows (m ∷ ms) most n listed = ⊎_elim
      (λ here. subst (λ (x : Member E). length x.seen ≤ length (f m).seen) here (omega arith))
      (λ later. let few = most n (listed_later m ms n later) in let more = grows m in omega (arith, few, more))
      (listed_cases (f m) ms n listed)

  -- So it is once the seat has seen all.
  pub most_seeing : (h : List (Event E)) (ms : List (Member E)) → KnowsHistory h ms
      → (n : Member E) → Contains (itself (seeing h) ms) n → length n.seen ≤ length (seen_of (itself (seeing h) ms))
  most_seeing h [] knows n listed = absurd (none_listed n listed)
  most_seeing h (m ∷ ms) knows n listed = ⊎_elim
      (λ here. subst (λ (x : Member E). length x.seen ≤ length h) here (omega arith))
      (λ later. begins_length n.seen h (knows.fits n (listed_later m ms n later)).0) (listed_cases (seeing h m) ms n listed)

  -- So it is of two seats that are made one.
  pub most_joined : (ms ns : List (Member E)) → ((n : Member E) → Contains ms n → length n.seen ≤ length (seen_of ms))
      → ((n : Member E) → Contains ns n → length n.seen ≤ length (seen_of ns))
      → (n : Member E) → Contains (itself (seeing (longer (seen_of ms) (seen_of ns))) ms ++ ns) n
      → length n.seen ≤ length (longer (seen_of ms) (seen_of ns))
  most_joined ms ns mine its n listed =
      let long = longer_length (seen_of ms) (seen_of ns) in ⊎_elim
      (λ old. ⊎_elim
      (λ head. subst (λ (l : List (Event E)). length l ≤ length sight) (sym (ap (λ (x : Member E). x.seen) head)) (omega arith))
      (λ tail. let few = mine n (subst (λ (l : List (Member E)). Contains l n) (sym (was old).2) (listed_later (was old).0 (was old).1 n tail)) in
      omega (arith, few, long)) (was old).3)
      (λ new. let few = its n new in omega (arith, few, long)) (Contains-append_cases (itself (seeing sight) ms) ns n listed)
    where
      sight : List (Event E)
      sight = longer (seen_of ms) (seen_of ns)

      was : Contains (itself (seeing sight) ms) n → (m : Member E) × (rest : List (Member E)) × (ms ≡ m ∷ rest) × ((n ≡ seeing sight m) ⊎ Contains rest n)
      was old = before (seeing sight) ms n old

  -- Once these are all seats, what they know is what the seat itself has seen.
  pub whole_of : (seat : Sitting E) (lock : TableId) (v : View E) → sitting lock v ≡ seat → IsLive v
      → ((n : Member E) → Contains v.members n → length n.seen ≤ length (seen_of v.members))
      → (h : List (Event E)) → KnowsHistory h v.members → AreAll (everyone seat) → seat.me.seen ≡ h
  whole_of seat lock v is live most h knows all =
      let same : everyone seat ≡ v.members = ap everyone (sym is) ∙ all_members v live lock in
      let first : seen_of v.members ≡ live.0.seen = ap seen_of live.2 in
      ap (λ (s : Sitting E). s.me.seen) (sym is) ∙ first_seen v.members ∙ first
      ∙ most_is_all h v.members knows (subst AreAll same all) live.0
      (subst (λ (l : List (Member E)). Contains l live.0) (sym live.2) (listed_first live.0 live.1))
      (λ n listed. subst (λ (l : List (Event E)). length n.seen ≤ length l) first (most n listed))

module _ {S E : Type 0} where
  -- a seat and what it carries, by its parts
  me_is : (me : Me (OptionOf S) (View E)) (v : View E) (carried : List (ℕ × OptionOf S)) → me.0 ≡ v → me.1 ≡ carried
      → ◌≡◌ {A = Me (OptionOf S) (View E)} (v, carried) me
  me_is me v carried first second = let p = sym first in let q = sym second in λ i. (p i, q i)

  pub seat_split : (me after : Me (OptionOf S) (View E)) (events : ℕ) → IsSeat {S = S} me events → me.0.holds ≡ false
      → after ≡ (kept_at_split me.0, me.1) → IsSeat {S = S} after events
  seat_split me after events seat free is = subst (λ (x : Me (OptionOf S) (View E)). IsSeat {S = S} x events) (sym is) (record {
    live = (parting seat.live.0, seat.live.1, ap (λ (ms : List (Member E)). itself parting ms) seat.live.2);
    count = seat.count ∙ sym (ap (λ (h : List (Event E)). length h) (seen_parting me.0.members));
    most = most_still parting (λ m. omega arith) me.0.members seat.most;
    room = subst (λ (h : List (Event E)). length h ≤ 2 ^ 62) (sym (seen_parting me.0.members)) seat.room;
    free = seat.free;
    held = λ holds. absurd (not_both me.0.holds free holds);
  })

  pub seat_joined : (me after : Me (OptionOf S) (View E)) (w : View E) (events others : ℕ) → IsSeat {S = S} me events → me.0.holds ≡ false
      → others ≡ length (seen_of w.members) → others ≤ 2 ^ 62 → ((n : Member E) → Contains w.members n → length n.seen ≤ length (seen_of w.members))
      → after ≡ (joined me.0 w, me.1) → IsSeat {S = S} after (max events others)
  seat_joined me after w events others seat free its_count its_room its_most is =
      let sight = longer (seen_of me.0.members) (seen_of w.members) in
      let seen : seen_of (itself (seeing sight) me.0.members ++ w.members) ≡ sight = ap (λ (l : List (Member E)). seen_of (itself (seeing sight) l ++ w.members)) seat.live.2 in
      let count = seat.count in
      let room = seat.room in
      let long : length (seen_of (itself (seeing sight) me.0.members ++ w.members)) ≡ max (length (seen_of me.0.members)) (length (seen_of w.members)) =
      ap (λ (h : List (Event E)). length h) seen ∙ longer_length (seen_of me.0.members) (seen_of w.members) in
      subst (λ (x : Me (OptionOf S) (View E)). IsSeat {S = S} x (max events others)) (sym is) (record {
        live = (seeing sight seat.live.0, seat.live.1 ++ w.members, ap (λ (ms : List (Member E)). itself (seeing sight) ms ++ w.members) seat.live.2);
        count = omega (arith, count, its_count, long);
        most = λ n listed. subst (λ (h : List (Event E)). length n.seen ≤ length h) (sym seen)
            (most_joined me.0.members w.members seat.most its_most n listed);
        room = omega (arith, count, room, its_count, its_room, long);
        free = seat.free;
        held = λ holds. absurd (not_both me.0.holds free holds);
      })

  pub seat_gave : (me laid after : Me (OptionOf S) (View E)) (events : ℕ) (state : OptionOf S) (entry : E) → IsSeat {S = S} me events
      → me.0.holds ≡ true → laid ≡ (me.0, (0, state) ∷ []) → Releases (Some entry) laid after → IsSeat {S = S} after (events + 1)
  seat_gave me laid after events state entry seat holds is given =
      let m = seat.live.0 in
      let few = (seat.held holds).1 in
      let count = seat.count in
      let was : seen_of me.0.members ≡ m.seen = ap seen_of seat.live.2 in
      let now : seen_of (itself (telling_any (Some entry)) me.0.members) ≡ m.seen ++ (record { by = m.name; entry = entry }) ∷ [] =
      ap (λ (ms : List (Member E)). seen_of (itself (telling_any (Some entry)) ms)) seat.live.2 in
      let was_length : length (seen_of me.0.members) ≡ length m.seen = ap (λ (h : List (Event E)). length h) was in
      let now_length : length (seen_of (itself (telling_any (Some entry)) me.0.members)) ≡ length m.seen + 1 =
      ap (λ (h : List (Event E)). length h) now ∙ length-append m.seen ((record { by = m.name; entry = entry }) ∷ []) in
      subst (λ (x : Me (OptionOf S) (View E)). IsSeat {S = S} x (events + 1))
      (me_is after (gave (Some entry) me.0) [] (given.0 ∙ ap (λ (x : Me (OptionOf S) (View E)). gave (Some entry) x.0) is)
      (given.1 ∙ ap (λ (x : Me (OptionOf S) (View E)). rest x.1) is))
      (record {
        live = (telling entry m, seat.live.1, ap (λ (ms : List (Member E)). itself (telling_any (Some entry)) ms) seat.live.2);
        count = omega (arith, count, was_length, now_length);
        most = most_still (telling entry) (λ m. let longer_by_one = length-append m.seen ((record { by = m.name; entry = entry }) ∷ []) in omega (arith, longer_by_one)) me.0.members seat.most;
        room = omega (arith, few, was_length, now_length);
        free = λ _. refl;
        held = λ never. absurd (not_both false refl never);
      })

  pub seat_took : (stood : OptionOf S → List (Event E) → Type 0) (me found after : Me (OptionOf S) (View E)) (events : ℕ) → IsLive me.0
      → HasAcquired stood events me found → after ≡ (found.0, (0, None) ∷ []) → IsSeat {S = S} after events
  seat_took stood me found after events live taken is =
      let h = taken.0 in
      let v : found.0 ≡ took h me.0 = ap (λ (x : Me (OptionOf S) (View E)). x.0) taken.2 in
      let seen : seen_of (itself (seeing h) me.0.members) ≡ h = ap (λ (ms : List (Member E)). seen_of (itself (seeing h) ms)) live.2 in
      let seen_length : length (seen_of (itself (seeing h) me.0.members)) ≡ length h = ap (λ (l : List (Event E)). length l) seen in
      let count = taken.5 in
      let few = taken.6 in
      subst (λ (x : Me (OptionOf S) (View E)). IsSeat {S = S} x events)
      (me_is after (took h me.0) ((0, None) ∷ []) (ap (λ (x : Me (OptionOf S) (View E)). x.0) is ∙ v) (ap (λ (x : Me (OptionOf S) (View E)). x.1) is))
      (record {
        live = (seeing h live.0, live.1, ap (λ (ms : List (Member E)). itself (seeing h) ms) live.2);
        count = omega (arith, count, seen_length);
        most = most_seeing h me.0.members taken.4;
        room = omega (arith, count, few, seen_length);
        free = λ never. absurd (not_both true never refl);
        held = λ _. (refl, omega (arith, count, few, seen_length));
      })

  pub seat_full : (me after : Me (OptionOf S) (View E)) (events : ℕ) → IsSeat {S = S} me events → me.0.holds ≡ false
      → ObservesFull me after → IsSeat {S = S} after (2 ^ 62)
  seat_full me after events seat free full =
      let h = full.0 in
      let seen : seen_of (itself (seeing h) me.0.members) ≡ h = ap (λ (ms : List (Member E)). seen_of (itself (seeing h) ms)) seat.live.2 in
      let seen_length : length (seen_of (itself (seeing h) me.0.members)) ≡ length h = ap (λ (l : List (Event E)). length l) seen in
      let long = full.3 in
      subst (λ (x : Me (OptionOf S) (View E)). IsSeat {S = S} x (2 ^ 62)) (sym full.1) (record {
        live = (seeing h seat.live.0, seat.live.1, ap (λ (ms : List (Member E)). itself (seeing h) ms) seat.live.2);
        count = omega (arith, seen_length, long);
        most = most_seeing h me.0.members full.2;
        room = omega (arith, seen_length, long);
        free = seat.free;
        held = λ holds. absurd (not_both me.0.holds free holds);
      })

module _ {S K E : Type 0} (stands : K → List E → S → Type 0) where
  -- A slot that stands for a history is full.
  pub some_state : (base : K) (slot : OptionOf S) (h : List (Event E)) → StandsFor stands base slot h
      → (y : S) × (slot ≡ Some y) × stands base (entries h) y
  some_state base None h never = absurd never
  some_state base (Some y) h stands_for = (y, refl, stands_for)

  pub laid_before : (key base : K) → key ≡ base → (seat : Sitting E) (lock : TableId) (v w : View E) → sitting lock v ≡ seat → w ≡ v
      → (state : S) → stands base (entries seat.me.seen) state → stands key (entries (seen_of w.members)) state
  laid_before key base same seat lock v w is kept state stands_for =
      let seen : seat.me.seen ≡ seen_of w.members = sym (ap (λ (s : Sitting E). s.me.seen) is) ∙ first_seen v.members ∙ ap (λ (x : View E). seen_of x.members) (sym kept) in
      subst (λ (k : K). stands k (entries (seen_of w.members)) state) (sym same) (subst (λ (h : List (Event E)). stands base (entries h) state) seen stands_for)

  pub laid_after : (key base : K) → key ≡ base → (seat : Sitting E) (lock : TableId) (v w : View E) → sitting lock v ≡ seat → w ≡ v
      → (state : S) (event : Event E) → stands base (entries seat.me.seen ++ event.entry ∷ []) state
      → stands key (entries (seen_of w.members ++ event ∷ [])) state
  laid_after key base same seat lock v w is kept state event stands_for =
      let seen : seat.me.seen ≡ seen_of w.members = sym (ap (λ (s : Sitting E). s.me.seen) is) ∙ first_seen v.members ∙ ap (λ (x : View E). seen_of x.members) (sym kept) in
      subst (λ (k : K). stands k (entries (seen_of w.members ++ event ∷ [])) state) (sym same)
      (subst (λ (l : List E). stands base l state) (ap (λ (h : List (Event E)). entries h ++ event.entry ∷ []) seen ∙ sym (entries_more (seen_of w.members) event)) stands_for)

  -- Who took the last turn has a state that stands for what it has seen.
  pub last_state : (key : K) (me found : Me (OptionOf S) (View E)) (word : ℕ) → IsLive me.0 → HasAcquiredLast (StandsFor stands key) word me found
      → (y : S) × (found.1 ≡ (0, Some y) ∷ []) × stands key (entries (seen_of found.0.members)) y
  last_state key me found word live taken =
      let h = taken.0 in
      let state = some_state key taken.1 h taken.3 in
      let seen : seen_of found.0.members ≡ h = ap (λ (x : Me (OptionOf S) (View E)). seen_of x.0.members) taken.2
      ∙ ap (λ (ms : List (Member E)). seen_of (itself (seeing h) ms)) live.2 in (
        state.0,
        ap (λ (x : Me (OptionOf S) (View E)). x.1) taken.2 ∙ ap (λ (slot : OptionOf S). (0, slot) ∷ []) state.1,
        subst (λ (l : List (Event E)). stands key (entries l) state.0) (sym seen) state.2,
      )

  -- What the state that is taken out at the end stands for.
  pub ended_of : (key base : K) → key ≡ base → (seat : Sitting E) (lock : TableId) (me found last : Me (OptionOf S) (View E)) (word : ℕ)
      → sitting lock me.0 ≡ seat → IsLive me.0 → ((n : Member E) → Contains me.0.members n → length n.seen ≤ length (seen_of me.0.members))
      → HasAcquiredLast (StandsFor stands key) word me found → Closes found last → (state : S)
      → stands key (entries (seen_of last.0.members)) state → Ended stands base seat state
  ended_of key base same seat lock me found last word is live most taken ended state stands_for = record {
    history = taken.0;
    stands_for = subst (λ (k : K). stands k (entries taken.0) state) same (subst (λ (h : List (Event E)). stands key (entries h) state) seen stands_for);
    knows = subst (KnowsHistory taken.0) (sym (ap everyone (sym is) ∙ all_members me.0 live lock)) taken.4;
    whole = whole_of seat lock me.0 is live most taken.0 taken.4;
  }
    where
      seen : seen_of last.0.members ≡ taken.0
      seen = ap (λ (v : View E). seen_of v.members) ended.0 ∙ ap (λ (x : Me (OptionOf S) (View E)). seen_of x.0.members) taken.2
          ∙ ap (λ (ms : List (Member E)). seen_of (itself (seeing taken.0) ms)) live.2
