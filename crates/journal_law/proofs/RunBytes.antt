-- The maps of a run's groups hold bytes.
use Rattle.std.proofs.Common.{[], ◌≡◌, ◌≢◌, inl, inr, ⊎_elim, ℕ, zero, suc, ◌-◌, ◌<◌, List, ◌∷◌, length, Bool, true}
use Rattle.std.proofs.Common.{false, Option, Some, None, refl, sym, ◌∙◌, ap, subst, arith}
use Rattle.std.specs.Prelude.{All, filter, map, ◌==◌, slice_get, slice_index, option_map, unwrap_or, if◌then◌else◌}
use Rattle.std.proofs.lemmas.Bool.{cases_lt, cases_eq}
use Rattle.std.proofs.lemmas.List.{get_or_past}
use Rattle.std.proofs.lemmas.List.Elements.{All-filter}
use Rattle.std.proofs.lemmas.Option.{get_or_from_slice_get, slice_get-map, slice_get_within}
use Rattle.reconstruct.specs.Lost.{AreBytes}
use Rattle.core_state.specs.declared.answer.Answer.{Answer}
use Rattle.core_state.specs.declared.answer.Answer.TheVariants as answer
use Rattle.core_state.specs.declared.answer.Kind.{Kind}
use Rattle.core_state.specs.declared.answer.Kind.TheVariants as kind
use Rattle.core_state.specs.declared.item.Entry.{Entry}
use Rattle.core_state.specs.declared.item.Item.{Item}
use Rattle.core_state.specs.declared.item.Item.TheVariants.{Group, Call}
use Rattle.core_state.specs.Map.{Map, PutBytes, with_block, map_after_answer, map_after_item, map_after}
use Rattle.core_state.specs.Legal.{CallAt, IsPrevious, IsAnswerOf}
use Rattle.core_state.specs.Journal.{Asked, IsLegalJournal}
use Rattle.client_script.specs.declared.call.ScriptCall.{ScriptCall}
use Rattle.client_script.specs.Lines.{fill_bytes}
use Rattle.client_script.specs.Script.{Script, Placed, MayHave, IsAllowed, calls_of, asked_by, handed_by}

-- The map holds bytes.
abbrev pub HoldsBytes : Map → Type 0
HoldsBytes map = (id : ℕ) (content : List ℕ) → map id ≡ Some content → AreBytes content

-- What each put that is stored was handed is bytes.
pub record HandsBytes (handed : PutBytes) (items : List Item) : Type 0 where
  pub each : (index : ℕ) (entry : Entry) → CallAt items index entry → entry.answer ≡ answer.Stored
      → AreBytes (handed entry.caller entry.call)

with_bytes : (map : Map) (changed : Option ℕ) (value : Option (List ℕ)) → HoldsBytes map
    → ((bytes : List ℕ) → value ≡ Some bytes → AreBytes bytes)
    → HoldsBytes (with_block map changed value)
with_bytes map None value holds are id content has = holds id content has
with_bytes map (Some changed) value holds are id content has = by (id == changed) has
  where
    by : (here : Bool) → (if here then value else map id) ≡ Some content → AreBytes content
    by true has = are content has
    by false has = holds id content has

answer_bytes : (handed : PutBytes) (map : Map) (entry : Entry) (given : Answer)
    → (given ≡ answer.Stored → AreBytes (handed entry.caller entry.call)) → HoldsBytes map
    → HoldsBytes (map_after_answer handed map entry given)
answer_bytes handed map entry answer.Stored are holds id content has =
    with_bytes map entry.id (Some (handed entry.caller entry.call)) holds
    (λ bytes is. subst AreBytes (given is) (are refl)) id content has
  where
    given : {one other : List ℕ} → Some one ≡ Some other → one ≡ other
    given is = cc
answer_bytes handed map entry answer.Freed are holds id content has =
    with_bytes map entry.id None holds (λ bytes is. absurd (nothing is)) id content has
  where
    nothing : {bytes : List ℕ} → ◌≡◌ {A = Option (List ℕ)} None (Some bytes) → ⊥
    nothing is = cc
answer_bytes handed map entry other are holds id content has = holds id content has

item_bytes : (handed : PutBytes) (map : Map) (item : Item)
    → ((entry : Entry) → item ≡ Call entry → entry.answer ≡ answer.Stored → AreBytes (handed entry.caller entry.call))
    → HoldsBytes map → HoldsBytes (map_after_item handed map item)
item_bytes handed map (Group group) are holds = holds
item_bytes handed map (Call entry) are holds = answer_bytes handed map entry entry.answer (are entry refl) holds

-- A journal that begins from a map of bytes leaves one, after any number of its items.
pub after_bytes : (handed : PutBytes) (map : Map) (items : List Item) (count : ℕ) → HandsBytes handed items
    → HoldsBytes map → HoldsBytes (map_after handed map items count)
after_bytes handed map items zero hands holds = holds
after_bytes handed map [] (suc count) hands holds = holds
after_bytes handed map (item ∷ items) (suc count) hands holds =
    after_bytes handed (map_after_item handed map item) items count
    (record { each = λ index entry there. hands.each (suc index) entry there })
    (item_bytes handed map item (λ entry is. hands.each 0 entry (ap (λ (i : Item). Some i) is)) holds)

-- Behind one more item a caller's previous entry is that item, or the same as before it.
previous_next : (items : List Item) (caller index : ℕ) → (previous : ℕ) × IsPrevious items caller index previous
    → (previous : ℕ) × IsPrevious items caller (suc index) previous
previous_next items caller index earlier = by (slice_get items index) refl
  where
    passed : ((entry : Entry) → CallAt items index entry → entry.caller ≢ caller)
        → (previous : ℕ) × IsPrevious items caller (suc index) previous
    passed other = (
      earlier.0,
      record {
        there = ⊎_elim (λ none. inl none)
            (λ (found : (entry : Entry) × (earlier.0 < index) × CallAt items earlier.0 entry × (entry.caller ≡ caller)).
            inr (found.0, (let low = found.1 in omega (arith, low)), found.2, found.3)) earlier.1.there;
        latest = λ k entry above below there. ⊎_elim
            (λ less. earlier.1.latest k entry above less there)
            (λ more. other entry (subst (λ (n : ℕ). CallAt items n entry) (omega (arith, below, more)) there))
            (cases_lt k index);
      },
    )

    by : (item : Option Item) → slice_get items index ≡ item
        → (previous : ℕ) × IsPrevious items caller (suc index) previous
    by None is = passed (λ entry there. absurd (apart (sym is ∙ there)))
      where
        apart : {entry : Entry} → ◌≡◌ {A = Option Item} None (Some (Call entry)) → ⊥
        apart same = cc
    by (Some (Group group)) is = passed (λ entry there. absurd (apart (sym is ∙ there)))
      where
        apart : {entry : Entry} → Some (Group group) ≡ Some (Call entry) → ⊥
        apart same = cc
    by (Some (Call entry)) is = ⊎_elim
        (λ same. (
          index,
          record {
            there = inr (entry, omega arith, is, same);
            latest = λ k other above below there. absurd (omega (arith, above, below));
          },
        ))
        (λ differs. passed (λ other there. subst (λ (e : Entry). e.caller ≢ caller) (one (sym is ∙ there)) differs))
        (cases_eq entry.caller caller)
      where
        one : {other : Entry} → Some (Call entry) ≡ Some (Call other) → entry ≡ other
        one same = cc

-- Each index has a caller's previous entry before it, or none.
pub previous_of : (items : List Item) (caller index : ℕ) → (previous : ℕ) × IsPrevious items caller index previous
previous_of items caller zero = (
  0,
  record { there = inl refl; latest = λ k entry above below there. absurd (omega (arith, below)) },
)
previous_of items caller (suc index) = previous_next items caller index (previous_of items caller index)

-- Bytes one by one.
are_bytes : (bytes : List ℕ) → All (λ byte. byte < 256) bytes → AreBytes bytes
are_bytes bytes fit at = ⊎_elim (λ below. fit at 0 below)
    (λ above. let past : slice_index bytes at ≡ 0 = get_or_past bytes at 0 above in omega (arith, past))
    (cases_lt at (length bytes))

module _ (script : Script) (allowed : All (λ placed. IsAllowed placed.call) script.calls) (caller number : ℕ)
    (asked : Asked) (there : slice_get (asked_by script caller) number ≡ Some asked) where
  abbrev its : List Placed
  its = filter (λ placed. placed.actor == caller) script.calls

  its_allowed : All (λ placed. IsAllowed placed.call) its
  its_allowed = All-filter (λ placed. placed.actor == caller) (λ placed. IsAllowed placed.call) script.calls allowed

  -- What is asked is asked by an allowed call.
  asked_call : (call : ScriptCall) × (slice_get (calls_of script caller) number ≡ Some call)
      × (call.kind ≡ asked.kind) × IsAllowed call
  asked_call = by (slice_get its number) refl
    where
      by : (placed : Option Placed) → slice_get its number ≡ placed
          → (call : ScriptCall) × (slice_get (calls_of script caller) number ≡ Some call)
          × (call.kind ≡ asked.kind) × IsAllowed call
      by None is = absurd (nothing (sym (slice_get-map _ (calls_of script caller) number
          ∙ ap (option_map _) (slice_get-map _ its number ∙ ap (option_map _) is)) ∙ there))
        where
          nothing : ◌≡◌ {A = Option Asked} None (Some asked) → ⊥
          nothing same = cc
      by (Some placed) is = (
        placed.call,
        call_is,
        kind_of (sym (slice_get-map _ (calls_of script caller) number ∙ ap (option_map _) call_is) ∙ there),
        subst (λ (p : Placed). IsAllowed p.call) (get_or_from_slice_get its number placed placed is)
            (its_allowed number placed (slice_get_within its number placed is)),
      )
        where
          call_is : slice_get (calls_of script caller) number ≡ Some placed.call
          call_is = slice_get-map _ its number ∙ ap (option_map _) is

          kind_of : Some (record { kind = placed.call.kind; id = placed.call.id }) ≡ Some asked
              → placed.call.kind ≡ asked.kind
          kind_of same = cc

  -- A put of an allowed script is handed bytes.
  put_handed : asked.kind ≡ kind.Put
      → AreBytes (unwrap_or (option_map (λ call. fill_bytes call.fill) (slice_get (calls_of script caller) number)) [])
  put_handed put =
      let call = asked_call.0 in
      let may : MayHave kind.Put call.id (fill_bytes call.fill) =
      subst (λ (k : Kind). MayHave k call.id (fill_bytes call.fill)) (asked_call.2 ∙ put) asked_call.3 in
      subst (λ (o : Option ScriptCall). AreBytes (unwrap_or (option_map (λ call. fill_bytes call.fill) o) []))
      (sym asked_call.1) (are_bytes (fill_bytes call.fill) may.1.fit)

-- So are the puts that a legal journal of the script stores.
pub script_hands : (script : Script) (opening : Map) (items : List Item)
    → All (λ placed. IsAllowed placed.call) script.calls
    → IsLegalJournal (asked_by script) (handed_by script) opening items
    → HandsBytes (handed_by script) items
script_hands script opening items allowed legal = record {
  each = λ index entry there stored.
      let right = legal.answers.each (previous_of items entry.caller index).0 index entry there
      (previous_of items entry.caller index).1 in
      let is : entry.kind ≡ kind.Put = subst (λ (given : Answer). IsAnswerOf entry.kind given) stored right.1 in
      put_handed script allowed entry.caller (entry.call - 1) (record { kind = entry.kind; id = entry.id })
      (legal.calls_are.each index entry there).asked is;
}
