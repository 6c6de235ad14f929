-- What the journal of a script answers is a call of a client, and never one of the scrubber.
use Rattle.std.proofs.Common.{◌≡◌, ◌≢◌, inl, inr, ⊎_elim, ℕ, zero, suc, ◌-◌, List, Option, Some, None, refl, subst}
use Rattle.std.proofs.Common.{arith}
use Rattle.std.specs.Prelude.{slice_get, filter, All, ◌==◌, ⊤}
use Rattle.std.proofs.lemmas.Bool.{cases_eq}
use Rattle.std.proofs.lemmas.List.Elements.{All-filter, All-map, All-get_or, All-weaker}
use Rattle.std.proofs.lemmas.Option.{get_or_from_slice_get, slice_get_within}
use Rattle.core_state.specs.declared.answer.Kind.{Kind}
use Rattle.core_state.specs.declared.answer.Kind.TheVariants as kind
use Rattle.core_state.specs.declared.item.Entry.{Entry}
use Rattle.core_state.specs.declared.item.Item.{Item}
use Rattle.core_state.specs.declared.item.Item.TheVariants.{Group, Call}
use Rattle.core_state.specs.Journal.{Asked, IsLegalJournal}
use Rattle.core_state.specs.Legal.{CallAt, IsPrevious, IsAnswerOf}
use Rattle.core_state.specs.Map.{Map, PutBytes}
use Rattle.client_script.specs.declared.call.ScriptCall.{ScriptCall}
use Rattle.client_script.specs.Lines.{fill_bytes}
use Rattle.client_script.specs.Script.{Placed, Script, MayHave, IsAllowed, calls_of, asked_by}

-- what all elements have each one has
all_at : {X : Type 0} (P : X → Type 0) (xs : List X) (index : ℕ) (x : X) → All P xs → slice_get xs index ≡ Some x → P x
all_at P xs index x all is = subst P (get_or_from_slice_get xs index x x is)
    (All-get_or P xs index x (slice_get_within xs index x is) all)

-- a call of a client
abbrev pub IsClients : Kind → Type 0
IsClients kind.Scrub = ⊥
IsClients other = ⊤

allowed_clients : (asked : Kind) (id : Option ℕ) (bytes : List ℕ) → MayHave asked id bytes → IsClients asked
allowed_clients kind.Put id bytes may = tt
allowed_clients kind.Get id bytes may = tt
allowed_clients kind.Sum id bytes may = tt
allowed_clients kind.Free id bytes may = tt
allowed_clients kind.Sync id bytes may = tt
allowed_clients kind.Attach id bytes may = tt
allowed_clients kind.Copy id bytes may = tt
allowed_clients kind.Scrub id bytes may = absurd may

-- The calls of a script are clients'.
asked_clients : (script : Script) (caller index : ℕ) (asked : Asked) → All (λ placed. IsAllowed placed.call) script.calls
    → slice_get (asked_by script caller) index ≡ Some asked
    → IsClients asked.kind
asked_clients script caller index asked allowed there =
    all_at (λ (a : Asked). IsClients a.kind) (asked_by script caller) index asked
    (All-map (λ (a : Asked). IsClients a.kind) (λ (call : ScriptCall). record { kind = call.kind; id = call.id }) (calls_of script caller)
    (All-map (λ (call : ScriptCall). IsClients call.kind) (λ (placed : Placed). placed.call) (filter (λ (placed : Placed). placed.actor == caller) script.calls)
    (All-filter (λ (placed : Placed). placed.actor == caller) (λ (placed : Placed). IsClients placed.call.kind) script.calls
    (All-weaker (λ (placed : Placed). IsAllowed placed.call) (λ (placed : Placed). IsClients placed.call.kind)
    (λ placed may. allowed_clients placed.call.kind placed.call.id (fill_bytes placed.call.fill) may) script.calls allowed))))
    there

-- One item further, the call before is that item or the same as before.
previous_after : (items : List Item) (caller index : ℕ) → (previous : ℕ) × IsPrevious items caller index previous
    → (item : Option Item) → slice_get items index ≡ item → (previous : ℕ) × IsPrevious items caller (suc index) previous
previous_after items caller index earlier item at = by item at
  where
    -- where the item just before is another's
    go_on : ((entry : Entry) → CallAt items index entry → entry.caller ≢ caller)
        → (previous : ℕ) × IsPrevious items caller (suc index) previous
    go_on other = (
      earlier.0,
      record {
        there = ⊎_elim (λ none. inl none)
            (λ found. inr (found.0, (let low = found.1 in omega (arith, low)), found.2, found.3)) earlier.1.there;
        latest = λ k entry above below there. ⊎_elim
            (λ same. other entry (subst (λ (n : ℕ). CallAt items n entry) same there))
            (λ apart. earlier.1.latest k entry above (omega (arith, below, apart)) there) (cases_eq k index);
      },
    )

    by : (item : Option Item) → slice_get items index ≡ item → (previous : ℕ) × IsPrevious items caller (suc index) previous
    by None is = go_on (λ entry there. absurd (apart entry there))
      where
        apart : (entry : Entry) → CallAt items index entry → ⊥
        apart entry there = cc
    by (Some (Group group)) is = go_on (λ entry there. absurd (no_group entry there))
      where
        no_group : (entry : Entry) → CallAt items index entry → ⊥
        no_group entry there = cc
    by (Some (Call found)) is = ⊎_elim
        (λ same. (
          index,
          record {
            there = inr (found, omega arith, is, same);
            latest = λ k entry above below there. absurd (omega (arith, above, below));
          },
        ))
        (λ other. go_on (λ entry there. subst (λ (e : Entry). e.caller ≢ caller) (one entry there) other)) (cases_eq found.caller caller)
      where
        one : (entry : Entry) → CallAt items index entry → found ≡ entry
        one entry there = cc

-- Each call has one before it of the same caller, or none.
pub previous_there : (items : List Item) (caller index : ℕ) → (previous : ℕ) × IsPrevious items caller index previous
previous_there items caller zero =
    (0, record { there = inl refl; latest = λ k entry above below there. absurd (omega (arith, above, below)) })
previous_there items caller (suc index) =
    previous_after items caller index (previous_there items caller index) (slice_get items index) refl

-- Each answer in a legal journal is one for its call, which is a client's.
pub answers_client : (script : Script) (handed : PutBytes) (opening : Map) (items : List Item)
    → All (λ placed. IsAllowed placed.call) script.calls
    → IsLegalJournal (asked_by script) handed opening items
    → (index : ℕ) (entry : Entry) → CallAt items index entry
    → IsClients entry.kind × IsAnswerOf entry.kind entry.answer
answers_client script handed opening items allowed legal index entry there =
    let asked = legal.calls_are.each index entry there in
    let previous = previous_there items entry.caller index in (
      asked_clients script entry.caller (entry.call - 1) (record { kind = entry.kind; id = entry.id }) allowed asked.asked,
      (legal.answers.each previous.0 index entry there previous.1).1,
    )
