-- What the calls of a script hold, and whose they are.
use Rattle.std.proofs.Common.{◌≡◌, ℕ, zero, suc, ◌+◌, ◌<◌, ◌≤◌, List, [], ◌∷◌, length, Option, Some, None, refl, sym}
use Rattle.std.proofs.Common.{subst, arith}
use Rattle.std.specs.Prelude.{All}
use Rattle.std.specs.List.{AllZip}
use Rattle.std.proofs.lemmas.List.Elements.{All-nil, All-cons}
use Rattle.core_state.specs.declared.answer.Kind.{Kind}
use Rattle.core_state.specs.declared.answer.Kind.TheVariants.{Put, Get, Sum, Free, Sync, Attach, Copy, Scrub}
use Rattle.client_script.specs.declared.call.Fill.{Fill}
use Rattle.client_script.specs.declared.call.Fill.TheVariants.{Nothing, Pattern, Hex}
use Rattle.client_script.specs.Lines.{Line, Passed, Clients, CallLine, Order, IsLineText, pattern_byte, pattern_from}
use Rattle.client_script.specs.Lines.{fill_bytes}
use Rattle.client_script.specs.Script.{Script, Placed, AreRightBelow, AreRightLines, MayHave, IsAllowed, IsScript}
use Rattle.client_script.specs.Script.{clients_in, calls_in, most_clients}

pattern_length : (seed from len : ℕ) → length (pattern_from seed from len) ≡ len
pattern_length seed from zero = refl
pattern_length seed from (suc len) = omega (arith, pattern_length seed (from + 1) len)

pattern_fits : (seed from len : ℕ) → All (λ byte. byte < 256) (pattern_from seed from len)
pattern_fits seed from zero = All-nil (λ byte. byte < 256)
pattern_fits seed from (suc len) =
    All-cons (λ byte. byte < 256) (pattern_byte seed from) (pattern_from seed (from + 1) len) (omega arith) (pattern_fits seed (from + 1) len)

-- A call that is spelled so has what its kind may have.
call_allowed : (text : List ℕ) (actor : ℕ) (kind : Kind) (id : Option ℕ) (fill : Fill) → IsLineText text (CallLine actor kind id fill) → MayHave kind id (fill_bytes fill)
call_allowed text actor Put (Some id) (Pattern len seed) is =
    let count = pattern_length seed 0 len in
    (is.id_fits, record { some = omega (arith, count, is.fill_fits.0); few = omega (arith, count, is.fill_fits.1); fit = pattern_fits seed 0 len })
call_allowed text actor Put (Some id) (Hex bytes) is = (is.id_fits, record { some = is.fill_fits.0; few = is.fill_fits.1; fit = is.fill_fits.2 })
call_allowed text actor Get (Some id) Nothing is = is.id_fits
call_allowed text actor Sum (Some id) Nothing is = is.id_fits
call_allowed text actor Free (Some id) Nothing is = is.id_fits
call_allowed text actor Sync None Nothing is = refl
call_allowed text actor Attach None Nothing is = refl
call_allowed text actor Copy None Nothing is = refl
call_allowed text actor Scrub None Nothing is = absurd is.served
call_allowed text actor kind id fill is = absurd (omega (arith, is.some))

allowed_in : (number : ℕ) (texts : List (List ℕ)) (lines : List Line) → AllZip IsLineText texts lines → All (λ placed. IsAllowed placed.call) (calls_in number lines)
allowed_in number [] [] each = All-nil (λ placed. IsAllowed placed.call)
allowed_in number [] (line ∷ lines) each = absurd each
allowed_in number (text ∷ texts) [] each = absurd each
allowed_in number (text ∷ texts) (Passed ∷ lines) each = allowed_in (number + 1) texts lines each.1
allowed_in number (text ∷ texts) (Clients count ∷ lines) each = allowed_in (number + 1) texts lines each.1
allowed_in number (text ∷ texts) (CallLine actor kind id fill ∷ lines) each =
    All-cons (λ placed. IsAllowed placed.call) (record { actor = actor; call = record { line = number; kind = kind; id = id; fill = fill } }) (calls_in (number + 1) lines)
    (call_allowed text actor kind id fill each.0) (allowed_in (number + 1) texts lines each.1)
allowed_in number (text ∷ texts) (Order actors ∷ lines) each = allowed_in (number + 1) texts lines each.1

actors_below : (clients calls number : ℕ) (lines : List Line) → AreRightBelow clients calls lines → All (λ placed. placed.actor < clients) (calls_in number lines)
actors_below clients calls number [] right = All-nil (λ (placed : Placed). placed.actor < clients)
actors_below clients calls number (Passed ∷ lines) right = actors_below clients calls (number + 1) lines right
actors_below clients calls number (Clients count ∷ lines) right = absurd right
actors_below clients calls number (CallLine actor kind id fill ∷ lines) right =
    All-cons (λ (placed : Placed). placed.actor < clients) (record { actor = actor; call = record { line = number; kind = kind; id = id; fill = fill } }) (calls_in (number + 1) lines)
    right.0 (actors_below clients (calls + 1) (number + 1) lines right.2)
actors_below clients calls number (Order actors ∷ lines) right = actors_below clients calls (number + 1) lines right.1

actors_in : (number : ℕ) (lines : List Line) → AreRightLines lines → (clients_in lines ≤ most_clients) × All (λ placed. placed.actor < clients_in lines) (calls_in number lines)
actors_in number [] right = (omega arith, All-nil (λ (placed : Placed). placed.actor < 0))
actors_in number (Passed ∷ lines) right = actors_in (number + 1) lines right
actors_in number (Clients count ∷ lines) right = (right.1, actors_below count 0 (number + 1) lines right.2)
actors_in number (CallLine actor kind id fill ∷ lines) right = absurd right
actors_in number (Order actors ∷ lines) right = absurd right

-- So are all calls of a script.
module _ (bytes : List ℕ) (script : Script) (is : IsScript bytes script) where
  pub allowed_calls : All (λ placed. IsAllowed placed.call) script.calls
  allowed_calls = subst (All (λ (placed : Placed). IsAllowed placed.call)) (sym is.calls) (allowed_in 1 _ is.lines is.are.each)

  pub actors_of_clients : (script.clients ≤ most_clients) × All (λ placed. placed.actor < script.clients) script.calls
  actors_of_clients =
      let right = actors_in 1 is.lines is.are.right in (
        omega (arith, right.0, is.clients.1),
        subst (All (λ (placed : Placed). placed.actor < script.clients)) (sym is.calls) (subst (λ n. All (λ (placed : Placed). placed.actor < n) (calls_in 1 is.lines)) (sym is.clients.1) right.1),
      )
