-- What one line more makes of a script.
use Rattle.std.proofs.Common.{◌≡◌, ℕ, ◌+◌, ◌-◌, ◌<◌, ◌≤◌, List, [], ◌∷◌, ◌++◌, length, get_or, take, Option, Some, None}
use Rattle.std.proofs.Common.{sym, ◌∙◌, ap, subst, arith, true, false, append_assoc, ◌≢◌}
use Rattle.std.proofs.lemmas.List.{length-map, get_or-map, map_more, take_all}
use Rattle.std.proofs.lemmas.List.Elements.{All-push}
use Rattle.std.specs.Prelude.{All, map, min, Ok, is_some}
use Rattle.client_script.specs.declared.call.ScriptCall.{ScriptCall}
use Rattle.client_script.specs.Lines.{Line, Clients, CallLine, Order, IsLineText, client_letter}
use Rattle.client_script.specs.Faults.{named_by, IsFaultOf}
use Rattle.client_script.specs.declared.line_fault.LineFault.TheVariants.{Turns}
use Rattle.client_script.specs.Script.{Script, most_calls}
use Rattle.client_script.specs.Meanings.{actors_of}
use Rattle.client_script.specs.Reading.{MayFollow, IsWrong, IsStep}
use Rattle.client_script.proofs.OneMeaning.{one_meaning}

-- A text that means nothing is wrong.
pub wrong_without_meaning : (script : Option Script) (text : List ℕ) → ((line : Line) → IsLineText text line → ⊥) → IsWrong script text
wrong_without_meaning None text none = record {
  breaks = λ line is may. none line is;
  no_limit = λ reached over. none (Clients over.0) over.1;
}
wrong_without_meaning (Some script) text none = record {
  breaks = λ line is may. none line is;
  no_limit = λ reached over. none (CallLine over.0 over.1 over.2 over.3) over.4;
}

-- Turns are wrong where one is no client's, or where there are no clients yet.
pub wrong_turns : (script : Option Script) (text : List ℕ) (actors : List ℕ) → IsLineText text (Order actors) → (MayFollow script (Order actors) → ⊥) → IsWrong script text
wrong_turns None text actors is isnt = record {
  breaks = λ line other may. isnt (subst (MayFollow None) (one_meaning text line (Order actors) other is) may);
  no_limit = λ reached over. let same : Clients over.0 ≡ Order actors = one_meaning text (Clients over.0) (Order actors) over.1 is in absurd (cc same);
}
wrong_turns (Some script) text actors is isnt = record {
  breaks = λ line other may. isnt (subst (MayFollow (Some script)) (one_meaning text line (Order actors) other is) may);
  no_limit = λ reached over.
      let same : CallLine over.0 over.1 over.2 over.3 ≡ Order actors = one_meaning text (CallLine over.0 over.1 over.2 over.3) (Order actors) over.4 is in
      absurd (cc same);
}

-- The reason is that one of them is no client's.
pub turns_of_none : (script : Option Script) (before : Script) (text actors : List ℕ) → script ≡ Some before → IsLineText text (Order actors) → (All (λ actor. actor < before.clients) actors → ⊥)
    → IsFaultOf (named_by script) text Turns
turns_of_none script before text actors there is none =
    (before.clients, ap named_by there, map client_letter actors, is.1, λ others spelled below. none (subst (All (λ actor. actor < before.clients)) (same others spelled) below))
  where
    same : (others : List ℕ) → IsLineText text (Order others) → others ≡ actors
    same others spelled = let one : Order others ≡ Order actors = one_meaning text (Order others) (Order actors) spelled is in cc one

-- The line that says how many clients there are is the first.
pub clients_step : (script : Option Script) (new : Script) (number clients count : ℕ) (text : List ℕ) → is_some script ≡ false → IsLineText text (Clients clients) → count ≡ min clients 9
    → count ≢ 0 → count ≤ 8 → new ≡ record { clients = count; calls = []; order = [] } → IsStep number text script (Ok tt) (Some new)
clients_step None new number clients count text none is least some few made =
    let same : count ≡ clients = omega (arith, least, few) in
    (Clients clients, is, (omega (arith, same, some), omega (arith, same, few)), ap Some (made ∙ (λ i. record { clients = same i; calls = []; order = [] })))
clients_step (Some script) new number clients count text none is least some few made = absurd (let bad : true ≡ false = none in cc)

-- A call is added.
pub call_step : (before : Option Script) (script new : Script) (number actor : ℕ) (call : ScriptCall) (text : List ℕ) → before ≡ Some script → call.line ≡ number
    → IsLineText text (CallLine actor call.kind call.id call.fill) → actor < script.clients → length script.calls < most_calls
    → new ≡ record script { calls = script.calls ++ record { actor = actor; call = call } ∷ [] } → IsStep number text before (Ok tt) (Some new)
call_step before script new number actor call text there numbered is client few pushed =
    subst (λ (o : Option Script). IsStep number text o (Ok tt) (Some new)) (sym there) (
      CallLine actor call.kind call.id call.fill,
      is,
      (client, few),
      ap Some (pushed ∙ (λ i. record script { calls = script.calls ++ record { actor = actor; call = record { line = numbered i; kind = call.kind; id = call.id; fill = call.fill } } ∷ [] })),
    )

-- the actor of a letter among all
actor_at : (letters : List ℕ) (place : ℕ) → place < length letters → get_or (actors_of letters) place 0 ≡ get_or letters place 0 - 97
actor_at letters place within = get_or-map (λ letter. letter - 97) letters place 0 0 within

pub turn_is_below : (letters : List ℕ) (place clients : ℕ) → place < length letters → All (λ actor. actor < clients) (actors_of letters) → get_or letters place 0 - 97 < clients
turn_is_below letters place clients within below =
    let here = below place 0 (omega (arith, within, length-map letters (λ letter. letter - 97))) in
    omega (arith, here, actor_at letters place within)

turns_more : (letters : List ℕ) (place : ℕ) → place < length letters → actors_of (take (place + 1) letters) ≡ actors_of (take place letters) ++ (get_or letters place 0 - 97) ∷ []
turns_more letters place within = map_more (λ letter. letter - 97) letters place 0 within

pub below_push : (letters : List ℕ) (place clients : ℕ) → place < length letters → All (λ actor. actor < clients) (actors_of (take place letters)) → get_or letters place 0 - 97 < clients
    → All (λ actor. actor < clients) (actors_of (take (place + 1) letters))
below_push letters place clients within below here =
    subst (All (λ actor. actor < clients)) (sym (turns_more letters place within)) (All-push (λ actor. actor < clients) (actors_of (take place letters)) _ below here)

pub turn_push : (first before after : Script) (letters : List ℕ) (place : ℕ) → place < length letters → before ≡ record first { order = first.order ++ actors_of (take place letters) }
    → after ≡ record before { order = before.order ++ (get_or letters place 0 - 97) ∷ [] }
    → after ≡ record first { order = first.order ++ actors_of (take (place + 1) letters) }
turn_push first before after letters place within so_far pushed =
    pushed
    ∙ ap (λ (s : Script). record s { order = s.order ++ (get_or letters place 0 - 97) ∷ [] }) so_far
    ∙ ap (λ (l : List ℕ). record first { order = l })
    (append_assoc first.order (actors_of (take place letters)) ((get_or letters place 0 - 97) ∷ [])
    ∙ ap (λ (l : List ℕ). first.order ++ l) (sym (turns_more letters place within)))

-- All turns are added.
pub turns_step : (before : Option Script) (script new : Script) (number place : ℕ) (letters text : List ℕ) → before ≡ Some script → length letters ≤ place → IsLineText text (Order (actors_of letters))
    → All (λ actor. actor < script.clients) (actors_of (take place letters)) → new ≡ record script { order = script.order ++ actors_of (take place letters) } → IsStep number text before (Ok tt) (Some new)
turns_step before script new number place letters text there end is below pushed =
    let all : take place letters ≡ letters = take_all place letters end in
    subst (λ (o : Option Script). IsStep number text o (Ok tt) (Some new)) (sym there) (
      Order (actors_of letters),
      is,
      subst (λ (l : List ℕ). All (λ actor. actor < script.clients) (actors_of l)) all below,
      ap Some (pushed ∙ ap (λ (l : List ℕ). record script { order = script.order ++ actors_of l }) all),
    )
