-- A put that is refused as full is one of more ids than a table has room for.
use Rattle.std.proofs.Common.{[], ◌≡◌, ◌≢◌, ◌⊎◌, inl, inr, ⊎_elim, ℕ, zero, suc, ◌-◌, List, ◌∷◌, Bool, true, false}
use Rattle.std.proofs.Common.{Option, Some, None, refl, sym, ◌∙◌, ap, subst, arith}
use Rattle.std.specs.Prelude.{All, Contains, filter, length, map, nat_eq, ◌==◌, slice_get, option_map, if◌then◌else◌}
use Rattle.std.specs.List.{IsDistinct}
use Rattle.std.proofs.lemmas.Bool.{eqb-true}
use Rattle.std.proofs.lemmas.List.Elements.{All-cons, All-weaker, All-filter, All-contains_itself}
use Rattle.std.proofs.lemmas.Map.Keys.{IsDistinct-cons}
use Rattle.std.proofs.lemmas.Option.{get_or_from_slice_get, slice_get-map, slice_get_within}
use Rattle.core_state.specs.declared.answer.Answer.{Answer}
use Rattle.core_state.specs.declared.answer.Answer.TheVariants as answer
use Rattle.core_state.specs.declared.answer.Kind.TheVariants as kind
use Rattle.core_state.specs.declared.item.Entry.{Entry}
use Rattle.core_state.specs.declared.item.Item.{Item}
use Rattle.core_state.specs.declared.item.Item.TheVariants.{Group, Call}
use Rattle.core_state.specs.Map.{Map, PutBytes, with_block, map_after_answer, map_after}
use Rattle.core_state.specs.Legal.{CallAt, IsAnswerOf, AnswersAreRight}
use Rattle.core_state.specs.Journal.{Asked, CallsAreRight}
use Rattle.client_script.specs.declared.call.ScriptCall.{ScriptCall}
use Rattle.client_script.specs.Script.{Placed, Script, calls_of, asked_by}
use Rattle.journal_law.specs.Caused.{IsHeldOrPut, HasTooManyIds}
use Rattle.journal_law.proofs.Distinct.{apart_from}
use Rattle.journal_law.proofs.RunBytes.{previous_of}

-- An entry stored the id.
abbrev IsStored : List Item → ℕ → Type 0
IsStored items id = (index : ℕ) × (entry : Entry) × CallAt items index entry
    × (entry.answer ≡ answer.Stored) × (entry.id ≡ Some id)

with_step : (map : Map) (changed : Option ℕ) (value : Option (List ℕ)) (id : ℕ) → with_block map changed value id ≢ None
    → (map id ≢ None) ⊎ ((value ≢ None) × (changed ≡ Some id))
with_step map None value id held = inl held
with_step map (Some changed) value id held = by (id == changed) refl held
  where
    by : (here : Bool) → (id == changed) ≡ here → (if here then value else map id) ≢ None
        → (map id ≢ None) ⊎ ((value ≢ None) × (Some changed ≡ Some id))
    by true is held = inr (held, ap (λ (n : ℕ). Some n) (sym (eqb-true id changed is)))
    by false is held = inl held

answer_step : (handed : PutBytes) (map : Map) (entry : Entry) (given : Answer) (id : ℕ)
    → map_after_answer handed map entry given id ≢ None
    → (map id ≢ None) ⊎ ((given ≡ answer.Stored) × (entry.id ≡ Some id))
answer_step handed map entry answer.Stored id held = ⊎_elim (λ before. inl before) (λ put. inr (refl, put.1))
    (with_step map entry.id (Some (handed entry.caller entry.call)) id held)
answer_step handed map entry answer.Freed id held = ⊎_elim (λ before. inl before) (λ put. absurd (put.0 refl))
    (with_step map entry.id None id held)
answer_step handed map entry other id held = inl held

-- An id that is there after some items was there before them, or was stored since.
first_or_stored : (handed : PutBytes) (map : Map) (items : List Item) (count id : ℕ)
    → map_after handed map items count id ≢ None → (map id ≢ None) ⊎ IsStored items id
first_or_stored handed map items zero id held = inl held
first_or_stored handed map [] (suc count) id held = inl held
first_or_stored handed map (Group group ∷ items) (suc count) id held = ⊎_elim
    (λ before. inl before)
    (λ (later : IsStored items id). inr (suc later.0, later.1, later.2, later.3, later.4))
    (first_or_stored handed map items count id held)
first_or_stored handed map (Call entry ∷ items) (suc count) id held = ⊎_elim
    (λ now. ⊎_elim (λ before. inl before) (λ put. inr (0, entry, refl, put.0, put.1))
    (answer_step handed map entry entry.answer id now))
    (λ (later : IsStored items id). inr (suc later.0, later.1, later.2, later.3, later.4))
    (first_or_stored handed (map_after_answer handed map entry entry.answer) items count id held)

-- What stands in a mapped list is made from what stands there.
mapped_there : {A B : Type 0} (f : A → B) (list : List A) (index : ℕ) (there : B)
    → slice_get (map f list) index ≡ Some there
    → (found : A) × (slice_get list index ≡ Some found) × (f found ≡ there)
mapped_there {A} {B} f list index there is = by (slice_get list index) refl
  where
    by : (found : Option A) → slice_get list index ≡ found
        → (found : A) × (slice_get list index ≡ Some found) × (f found ≡ there)
    by None at = absurd (nothing (sym (slice_get-map f list index ∙ ap (option_map f) at) ∙ is))
      where
        nothing : ◌≡◌ {A = Option B} None (Some there) → ⊥
        nothing same = cc
    by (Some found) at = (found, at, same (sym (slice_get-map f list index ∙ ap (option_map f) at) ∙ is))
      where
        same : Some (f found) ≡ Some there → f found ≡ there
        same equal = cc

-- the calls of one client, in order, as they stand in the script
abbrev placed_of : Script → ℕ → List Placed
placed_of script caller = filter (λ placed. placed.actor == caller) script.calls

-- A client's call stands in the script.
call_placed : (script : Script) (caller number : ℕ) (call : ScriptCall)
    → slice_get (calls_of script caller) number ≡ Some call
    → (placed : Placed) × Contains script.calls placed × (placed.call ≡ call)
call_placed script caller number call there =
    let its = placed_of script caller in
    let placed = mapped_there (λ (placed : Placed). placed.call) its number call there in (
      placed.0,
      subst (λ (p : Placed). Contains script.calls p) (get_or_from_slice_get its number placed.0 placed.0 placed.1)
          (among number placed.0 (slice_get_within its number placed.0 placed.1)),
      placed.2,
    )
  where
    among : All (Contains script.calls) (placed_of script caller)
    among = All-filter (λ placed. placed.actor == caller) (Contains script.calls) script.calls
        (All-contains_itself script.calls)

-- A client's put puts its id.
pub call_puts : (script : Script) (opening : Map) (caller number : ℕ) (call : ScriptCall) (id : ℕ)
    → slice_get (calls_of script caller) number ≡ Some call → call.kind ≡ kind.Put → call.id ≡ Some id
    → IsHeldOrPut script opening id
call_puts script opening caller number call id there put same =
    let placed = call_placed script caller number call there in inr (
      placed.0,
      placed.1,
      ap (λ (c : ScriptCall). c.kind) placed.2 ∙ put,
      ap (λ (c : ScriptCall). c.id) placed.2 ∙ same,
    )

-- What a client is asked is what a call of its asks.
asked_call : (script : Script) (caller number : ℕ) (asked : Asked)
    → slice_get (asked_by script caller) number ≡ Some asked
    → (call : ScriptCall) × (slice_get (calls_of script caller) number ≡ Some call) × (call.kind ≡ asked.kind)
    × (call.id ≡ asked.id)
asked_call script caller number asked there =
    let call = mapped_there (λ (call : ScriptCall). record { kind = call.kind; id = call.id }) (calls_of script caller)
    number asked there in
    (call.0, call.1, ap (λ (a : Asked). a.kind) call.2, ap (λ (a : Asked). a.id) call.2)

-- One id more than 512 that are held or put is one too many.
pub one_too_many : (script : Script) (opening : Map) (P : ℕ → Type 0) (id : ℕ) (others : List ℕ) → (P id → ⊥)
    → IsDistinct nat_eq others → length others ≡ 512 → All P others → IsHeldOrPut script opening id
    → ((other : ℕ) → P other → IsHeldOrPut script opening other)
    → HasTooManyIds script opening
one_too_many script opening P id others apart distinct all those put each = record {
  ids = id ∷ others;
  distinct = IsDistinct-cons nat_eq id others (apart_from P id others apart those) distinct;
  many = omega (arith, all);
  each = All-cons (IsHeldOrPut script opening) id others put (All-weaker P (IsHeldOrPut script opening) each others those);
}

-- The journal answers what the script asks, and answers it right.
module _ (script : Script) (handed : PutBytes) (opening : Map) (items : List Item)
    (calls_are : CallsAreRight (asked_by script) items) (answers : AnswersAreRight handed opening items) where
  -- An answered put stands in the script.
  put_placed : (index : ℕ) (entry : Entry) (id : ℕ) → CallAt items index entry
      → (IsAnswerOf entry.kind entry.answer → entry.kind ≡ kind.Put) → entry.id ≡ Some id
      → IsHeldOrPut script opening id
  put_placed index entry id there put same =
      let previous = previous_of items entry.caller index in
      let call = asked_call script entry.caller (entry.call - 1) (record { kind = entry.kind; id = entry.id })
      (calls_are.each index entry there).asked in
      let right = answers.each previous.0 index entry there previous.1 in
      call_puts script opening entry.caller (entry.call - 1) call.0 id call.1 (call.2 ∙ put right.1) (call.3 ∙ same)

  -- An id of the map after some items was in the one before them, or a put of the script stored it.
  pub held_or_put : (count id : ℕ) → map_after handed opening items count id ≢ None → IsHeldOrPut script opening id
  held_or_put count id held = ⊎_elim (λ first. inl first)
      (λ (stored : IsStored items id). put_placed stored.0 stored.1 id stored.2
      (λ is. subst (λ (given : Answer). IsAnswerOf stored.1.kind given) stored.3 is) stored.4)
      (first_or_stored handed opening items count id held)
