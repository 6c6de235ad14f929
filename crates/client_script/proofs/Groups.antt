-- Calls by actor, and the order in which they were given.
use Rattle.std.proofs.Common.{◌≡◌, ◌≢◌, ℕ, ◌<◌, List, [], ◌∷◌, ◌++◌, length, get_or, take, drop, set, Bool, true, false}
use Rattle.std.proofs.Common.{cond, refl, sym, ◌∙◌, ap, arith, append_assoc, eq-eqb, ne_eqb, ⊎_elim, subst}
use Rattle.std.proofs.lemmas.Bool.{cases_eq}
use Rattle.std.specs.Prelude.{map, filter, ◌==◌, ◌≤◌, Vec, replicate, Result, Ok, Err, OnOk, OnErr}
use Rattle.std.specs.declared.alloc.AllocError.{AllocError}
use Rattle.std.proofs.lemmas.Result.{on_ok_weaker, on_err_weaker}
use Rattle.std.proofs.lemmas.Bool.{cases_lt}
use Rattle.std.specs.Global.{Global}
use Rattle.std.proofs.lemmas.List.{nil_from_length, length-drop, length-map, map-set, get_or-map, get_or_past}
use Rattle.std.proofs.lemmas.List.{get_or-replicate, get_or-set_same, get_or-set_other, take-append-drop, map-append}
use Rattle.std.proofs.lemmas.List.{length-append, length-replicate}
use Rattle.std.proofs.lemmas.List.Elements.{filter-append}
use Rattle.client_script.specs.declared.call.ScriptCall.{ScriptCall}
use Rattle.client_script.specs.Script.{Placed}
use Rattle.client_script.specs.Grouped.{CallsByActor, groups_of, first_of, without_first, with_call, in_turn, HasTurns}

-- The actor whose turn is first has a call.
has_first : (actor : ℕ) (actors : List ℕ) (groups : CallsByActor) → HasTurns (actor ∷ actors) groups → 0 < length (groups actor)
has_first actor actors groups turns =
    let same : (actor == actor) ≡ true = eq-eqb actor actor refl in
    let count = rw same at (turns.each actor) in
    omega (arith, count)

-- Without the first turn and its call each actor has as many turns as calls.
rest_of_turns : (actor : ℕ) (actors : List ℕ) (groups : CallsByActor) → HasTurns (actor ∷ actors) groups → HasTurns actors (without_first groups actor)
rest_of_turns actor actors groups turns = record {
  each = λ other.
      ⊎_elim
      (λ (is : other ≡ actor).
      let one : (other == actor) ≡ true = eq-eqb other actor is in
      let two : (actor == other) ≡ true = eq-eqb actor other (sym is) in
      let count = rw two at (turns.each other) in
      rw one (omega (arith, count, length-drop 1 (groups other))))
      (λ (isnt : other ≢ actor).
      let one : (other == actor) ≡ false = ne_eqb other actor isnt in
      let two : (actor == other) ≡ false = ne_eqb actor other (λ e. isnt (sym e)) in
      let count = rw two at (turns.each other) in
      rw one count)
      (cases_eq other actor);
}

-- A first call taken, and one added at the end, in either order.
either_order : (taken added : Bool) (calls : List ScriptCall) (call : ScriptCall) → (taken ≡ true → 0 < length calls)
    → cond taken (drop 1 (cond added (calls ++ call ∷ []) calls)) (cond added (calls ++ call ∷ []) calls)
    ≡ cond added (cond taken (drop 1 calls) calls ++ call ∷ []) (cond taken (drop 1 calls) calls)
either_order true true [] call some = absurd (let none : 0 < 0 = some refl in omega (arith, none))
either_order true true (first ∷ calls) call some = refl
either_order true false calls call some = refl
either_order false true calls call some = refl
either_order false false calls call some = refl

eqb_true : (a b : ℕ) → (a == b) ≡ true → a ≡ b
eqb_true a b e = ⊎_elim (λ is. is) (λ isnt. absurd (let no_more : false ≡ true = sym (ne_eqb a b isnt) ∙ e in cc)) (cases_eq a b)

taken_and_added : (groups : CallsByActor) (first actor : ℕ) (call : ScriptCall) → 0 < length (groups first)
    → without_first (with_call groups actor call) first ≡ with_call (without_first groups first) actor call
taken_and_added groups first actor call some = λ i other.
    either_order (other == first) (other == actor) (groups other) call
    (λ e. let is : other ≡ first = eqb_true other first e in omega (arith, some, ap (λ (o : ℕ). length (groups o)) is)) i

same_first : (actor : ℕ) (added : Bool) (calls : List ScriptCall) (call : ScriptCall) → 0 < length calls → first_of actor (cond added (calls ++ call ∷ []) calls) ≡ first_of actor calls
same_first actor added [] call some = absurd (omega (arith, some))
same_first actor true (first ∷ calls) call some = refl
same_first actor false (first ∷ calls) call some = refl

-- One call more is the last in turn.
pub in_turn_push : (actors : List ℕ) (groups : CallsByActor) (actor : ℕ) (call : ScriptCall) → HasTurns actors groups
    → in_turn (actors ++ actor ∷ []) (with_call groups actor call) ≡ in_turn actors groups ++ record { actor = actor; call = call } ∷ []
in_turn_push [] groups actor call turns =
    let same : (actor == actor) ≡ true = eq-eqb actor actor refl in
    let none : groups actor ≡ [] = nil_from_length (groups actor) (sym (turns.each actor)) in
    ap (λ b. first_of actor (cond b (groups actor ++ call ∷ []) (groups actor)) ++ []) same
    ∙ ap (λ (l : List ScriptCall). first_of actor (l ++ call ∷ []) ++ []) none
in_turn_push (first ∷ actors) groups actor call turns =
    let some = has_first first actors groups turns in
    (λ i. same_first first (first == actor) (groups first) call some i ++ in_turn (actors ++ actor ∷ []) (taken_and_added groups first actor call some i))
    ∙ ap (λ (l : List Placed). first_of first (groups first) ++ l) (in_turn_push actors (without_first groups first) actor call (rest_of_turns first actors groups turns))
    ∙ sym (append_assoc (first_of first (groups first)) (in_turn actors (without_first groups first)) (record { actor = actor; call = call } ∷ []))

pub turns_push : (actors : List ℕ) (groups : CallsByActor) (actor : ℕ) (call : ScriptCall) → HasTurns actors groups → HasTurns (actors ++ actor ∷ []) (with_call groups actor call)
turns_push actors groups actor call turns = record {
  each = λ other.
      ap length (filter-append (λ o. o == other) actors (actor ∷ []))
      ∙ ⊎_elim
      (λ (is : other ≡ actor).
      let one : (other == actor) ≡ true = eq-eqb other actor is in
      let two : (actor == other) ≡ true = eq-eqb actor other (sym is) in
      rw (one, two) (omega (arith, turns.each other, length-append (filter (λ o. o == other) actors) (actor ∷ []), length-append (groups other) (call ∷ []))))
      (λ (isnt : other ≢ actor).
      let one : (other == actor) ≡ false = ne_eqb other actor isnt in
      let two : (actor == other) ≡ false = ne_eqb actor other (λ e. isnt (sym e)) in
      rw (one, two) (omega (arith, turns.each other, length-append (filter (λ o. o == other) actors) [])))
      (cases_eq other actor);
}

first_kept : (test : Bool) (placed : Placed) → map (λ (p : Placed). p.call) (cond test (placed ∷ []) []) ≡ cond test (placed.call ∷ []) []
first_kept true placed = refl
first_kept false placed = refl

first_calls : (actor other : ℕ) (calls : List ScriptCall) → 0 < length calls
    → map (λ placed. placed.call) (filter (λ placed. placed.actor == other) (first_of actor calls)) ≡ cond (actor == other) (take 1 calls) []
first_calls actor other [] some = absurd (omega (arith, some))
first_calls actor other (call ∷ calls) some = first_kept (actor == other) (record { actor = actor; call = call })

first_and_rest : (groups : CallsByActor) (first actor : ℕ) → cond (first == actor) (take 1 (groups first)) [] ++ without_first groups first actor ≡ groups actor
first_and_rest groups first actor =
    ⊎_elim
    (λ (is : first ≡ actor).
    let one : (first == actor) ≡ true = eq-eqb first actor is in
    let two : (actor == first) ≡ true = eq-eqb actor first (sym is) in
    rw (one, two) (ap (λ o. take 1 (groups o) ++ drop 1 (groups actor)) is ∙ take-append-drop 1 (groups actor)))
    (λ (isnt : first ≢ actor).
    let one : (first == actor) ≡ false = ne_eqb first actor isnt in
    let two : (actor == first) ≡ false = ne_eqb actor first (λ e. isnt (sym e)) in
    rw (one, two) refl)
    (cases_eq first actor)

-- An actor's calls in turn are its group.
pub calls_in_turn : (actors : List ℕ) (groups : CallsByActor) (actor : ℕ) → HasTurns actors groups
    → map (λ placed. placed.call) (filter (λ placed. placed.actor == actor) (in_turn actors groups)) ≡ groups actor
calls_in_turn [] groups actor turns = sym (nil_from_length (groups actor) (sym (turns.each actor)))
calls_in_turn (first ∷ actors) groups actor turns =
    let some = has_first first actors groups turns in
    ap (map (λ placed. placed.call)) (filter-append (λ placed. placed.actor == actor) (first_of first (groups first)) (in_turn actors (without_first groups first)))
    ∙ map-append (λ placed. placed.call) (filter (λ placed. placed.actor == actor) (first_of first (groups first))) (filter (λ placed. placed.actor == actor) (in_turn actors (without_first groups first)))
    ∙ (λ i. first_calls first actor (groups first) some i ++ calls_in_turn actors (without_first groups first) actor (rest_of_turns first actors groups turns) i)
    ∙ first_and_rest groups first actor

first_actor : (actor : ℕ) (calls : List ScriptCall) → 0 < length calls → map (λ placed. placed.actor) (first_of actor calls) ≡ actor ∷ []
first_actor actor [] some = absurd (omega (arith, some))
first_actor actor (call ∷ calls) some = refl

-- The actors of calls in turn.
pub actors_in_turn : (actors : List ℕ) (groups : CallsByActor) → HasTurns actors groups → map (λ placed. placed.actor) (in_turn actors groups) ≡ actors
actors_in_turn [] groups turns = refl
actors_in_turn (first ∷ actors) groups turns =
    map-append (λ placed. placed.actor) (first_of first (groups first)) (in_turn actors (without_first groups first))
    ∙ (λ i. first_actor first (groups first) (has_first first actors groups turns) i ++ actors_in_turn actors (without_first groups first) (rest_of_turns first actors groups turns) i)

-- a table of calls
abbrev pub Table : Type 0
Table = List (Vec ScriptCall Global)

-- What a table says of an actor.
pub group_read : (table : Table) (actor : ℕ) (list : Vec ScriptCall Global) → actor < length table → list ≡ get_or table actor list → groups_of table actor ≡ list.items
group_read table actor list within is =
    get_or-map (λ (l : Vec ScriptCall Global). l.items) table actor list [] within ∙ ap (λ (l : Vec ScriptCall Global). l.items) (sym is)

-- It says nothing of an actor past its end.
pub group_past : (table : Table) (actor : ℕ) → length table ≤ actor → groups_of table actor ≡ []
group_past table actor past = get_or_past (map (λ (l : Vec ScriptCall Global). l.items) table) actor [] (omega (arith, past, length-map table (λ (l : Vec ScriptCall Global). l.items)))

-- One list was changed.
module _ (table : Table) (actor : ℕ) (list : Vec ScriptCall Global) (within : actor < length table) where
  abbrev items_of : Table → List (List ScriptCall)
  items_of = map (λ (l : Vec ScriptCall Global). l.items)

  changed : (other : ℕ) → groups_of (set table actor list) other ≡ get_or (set (items_of table) actor list.items) other []
  changed other = ap (λ (l : List (List ScriptCall)). get_or l other []) (map-set (λ (l : Vec ScriptCall Global). l.items) table actor list)

  here : groups_of (set table actor list) actor ≡ list.items
  here = changed actor ∙ get_or-set_same (items_of table) actor list.items [] (omega (arith, within, length-map table (λ (l : Vec ScriptCall Global). l.items)))

  elsewhere : (other : ℕ) → other ≢ actor → groups_of (set table actor list) other ≡ groups_of table other
  elsewhere other isnt = changed other ∙ get_or-set_other (items_of table) actor other list.items [] isnt

  more_at : (call : ScriptCall) → list.items ≡ groups_of table actor ++ call ∷ [] → (other : ℕ) → groups_of (set table actor list) other ≡ with_call (groups_of table) actor call other
  more_at call is other =
      ⊎_elim
      (λ (e : other ≡ actor).
      let one : (other == actor) ≡ true = eq-eqb other actor e in
      rw one (ap (groups_of (set table actor list)) e ∙ here ∙ is ∙ ap (λ o. groups_of table o ++ call ∷ []) (sym e)))
      (λ (n : other ≢ actor).
      let one : (other == actor) ≡ false = ne_eqb other actor n in
      rw one (elsewhere other n))
      (cases_eq other actor)

  pub groups_more : (call : ScriptCall) → list.items ≡ groups_of table actor ++ call ∷ [] → groups_of (set table actor list) ≡ with_call (groups_of table) actor call
  groups_more call is = λ i other. more_at call is other i

  same_at : list.items ≡ groups_of table actor → (other : ℕ) → groups_of (set table actor list) other ≡ groups_of table other
  same_at is other =
      ⊎_elim
      (λ (e : other ≡ actor). ap (groups_of (set table actor list)) e ∙ here ∙ is ∙ ap (groups_of table) (sym e))
      (λ (n : other ≢ actor). elsewhere other n)
      (cases_eq other actor)

  pub groups_same : list.items ≡ groups_of table actor → groups_of (set table actor list) ≡ groups_of table
  groups_same is = λ i other. same_at is other i

-- A table of empty lists.
pub groups_none : (count actor : ℕ) → get_or (replicate {A = List ScriptCall} count []) actor [] ≡ []
groups_none count actor =
    ⊎_elim (λ (within : actor < count). get_or-replicate count actor [] [] within)
    (λ (past : count ≤ actor). get_or_past (replicate count []) actor [] (omega (arith, past, length-replicate {A = List ScriptCall} count [])))
    (cases_lt actor count)

pub no_turns : (table : Table) (count : ℕ) → map (λ (l : Vec ScriptCall Global). l.items) table ≡ replicate count [] → HasTurns [] (groups_of table)
no_turns table count empty = record {
  each = λ actor. ap length (sym (ap (λ (l : List (List ScriptCall)). get_or l actor []) empty ∙ groups_none count actor));
}

-- One call was pushed, or none.
module _ (actors now : List ℕ) (table : Table) (actor : ℕ) (call : ScriptCall) (list : Vec ScriptCall Global) (result : Result (Unit {0}) AllocError)
    (ok : OnOk result ((now ≡ actors ++ actor ∷ []) × (list.items ≡ groups_of table actor ++ call ∷ [])))
    (err : OnErr result ((now ≡ actors) × (list.items ≡ groups_of table actor)))
    (within : actor < length table) (turns : HasTurns actors (groups_of table)) where
  turns_more : (now ≡ actors ++ actor ∷ []) × (list.items ≡ groups_of table actor ++ call ∷ []) → HasTurns now (groups_of (set table actor list))
  turns_more is =
      subst (λ (l : List ℕ). HasTurns l (groups_of (set table actor list))) (sym is.0)
      (subst (HasTurns (actors ++ actor ∷ [])) (sym (groups_more table actor list within call is.1)) (turns_push actors (groups_of table) actor call turns))

  turns_same : (now ≡ actors) × (list.items ≡ groups_of table actor) → HasTurns now (groups_of (set table actor list))
  turns_same is =
      subst (λ (l : List ℕ). HasTurns l (groups_of (set table actor list))) (sym is.0)
      (subst (HasTurns actors) (sym (groups_same table actor list within is.1)) turns)

  placed_more : (now ≡ actors ++ actor ∷ []) × (list.items ≡ groups_of table actor ++ call ∷ [])
      → in_turn now (groups_of (set table actor list)) ≡ in_turn actors (groups_of table) ++ record { actor = actor; call = call } ∷ []
  placed_more is =
      (λ i. in_turn (is.0 i) (groups_more table actor list within call is.1 i)) ∙ in_turn_push actors (groups_of table) actor call turns

  placed_same : (now ≡ actors) × (list.items ≡ groups_of table actor) → in_turn now (groups_of (set table actor list)) ≡ in_turn actors (groups_of table)
  placed_same is = λ i. in_turn (is.0 i) (groups_same table actor list within is.1 i)

  either : (r : Result (Unit {0}) AllocError) (P Q R : Type 0) → (P → R) → (Q → R) → OnOk r P → OnErr r Q → R
  either (Ok x) P Q R p q on_ok on_err = p on_ok
  either (Err x) P Q R p q on_ok on_err = q on_err

  pub turns_after : HasTurns now (groups_of (set table actor list))
  turns_after = either result _ _ _ turns_more turns_same ok err

  pub placed_after : OnOk result (in_turn now (groups_of (set table actor list)) ≡ in_turn actors (groups_of table) ++ record { actor = actor; call = call } ∷ [])
  placed_after = on_ok_weaker result placed_more ok

  pub placed_before : OnErr result (in_turn now (groups_of (set table actor list)) ≡ in_turn actors (groups_of table))
  placed_before = on_err_weaker result placed_same err

-- The same of the list that was there, at an index that is the actor's.
module _ (actors now : List ℕ) (table : Table) (index actor : ℕ) (call : ScriptCall) (was list : Vec ScriptCall Global) (result : Result (Unit {0}) AllocError)
    (at_actor : index ≡ actor) (there : was ≡ get_or table index was)
    (ok : OnOk result ((now ≡ actors ++ actor ∷ []) × (list.items ≡ was.items ++ call ∷ [])))
    (err : OnErr result ((now ≡ actors) × (list.items ≡ was.items)))
    (within : actor < length table) (turns : HasTurns actors (groups_of table)) where
  read : groups_of table actor ≡ was.items
  read = group_read table actor was within (subst (λ n. was ≡ get_or table n was) at_actor there)

  pushed : OnOk result ((now ≡ actors ++ actor ∷ []) × (list.items ≡ groups_of table actor ++ call ∷ []))
  pushed = on_ok_weaker result (λ is. (is.0, is.1 ∙ ap (λ (l : List ScriptCall). l ++ call ∷ []) (sym read))) ok

  unpushed : OnErr result ((now ≡ actors) × (list.items ≡ groups_of table actor))
  unpushed = on_err_weaker result (λ is. (is.0, is.1 ∙ sym read)) err

  pub turns_then : HasTurns now (groups_of (set table index list))
  turns_then =
      subst (λ n. HasTurns now (groups_of (set table n list))) (sym at_actor)
      (turns_after actors now table actor call list result pushed unpushed within turns)

  pub placed_then : OnOk result (in_turn now (groups_of (set table index list)) ≡ in_turn actors (groups_of table) ++ record { actor = actor; call = call } ∷ [])
  placed_then =
      subst (λ n. OnOk result (in_turn now (groups_of (set table n list)) ≡ in_turn actors (groups_of table) ++ record { actor = actor; call = call } ∷ [])) (sym at_actor)
      (placed_after actors now table actor call list result pushed unpushed within turns)

  pub placed_still : OnErr result (in_turn now (groups_of (set table index list)) ≡ in_turn actors (groups_of table))
  placed_still =
      subst (λ n. OnErr result (in_turn now (groups_of (set table n list)) ≡ in_turn actors (groups_of table))) (sym at_actor)
      (placed_before actors now table actor call list result pushed unpushed within turns)
