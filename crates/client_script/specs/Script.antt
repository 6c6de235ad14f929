-- A script as a whole, and the first line that breaks a rule.
use Rattle.std.specs.Prelude.{◌≡◌, ◌⊎◌, ℕ, ◌+◌, ◌-◌, ◌^◌, ◌<◌, ◌≤◌, List, [], ◌∷◌, ◌++◌, length, take, map, filter}
use Rattle.std.specs.Prelude.{Option, Some, None, option_map, unwrap_or, slice_get, ◌==◌, All, ⊤}
use Rattle.std.proofs.Common.{inl, inr}
use Rattle.std.specs.List.{AllZip}
use Rattle.core_state.specs.declared.answer.Kind.{Kind}
use Rattle.core_state.specs.declared.answer.Kind.TheVariants.{Put, Get, Sum, Free, Sync, Attach, Copy}
use Rattle.core_state.specs.Journal.{Asked}
use Rattle.client_script.specs.declared.call.Fill.{Fill}
use Rattle.client_script.specs.declared.call.ScriptCall.{ScriptCall}
use Rattle.client_script.specs.Lines.{Line, Passed, Clients, CallLine, Order, IsLineText, split_lines, fill_bytes}

abbrev pub most_clients : ℕ
most_clients = 8

abbrev pub most_calls : ℕ
most_calls = 10000

abbrev pub most_bytes : ℕ
most_bytes = 16777216

-- Below the line that says how many clients there are, calls and turns are theirs, and the calls
-- aren't too many.
abbrev pub AreRightBelow : ℕ → ℕ → List Line → Type 0
AreRightBelow clients calls [] = ⊤
AreRightBelow clients calls (Passed ∷ lines) = AreRightBelow clients calls lines
AreRightBelow clients calls (Clients count ∷ lines) = ⊥
AreRightBelow clients calls (CallLine actor kind id fill ∷ lines) =
    (actor < clients) × (calls < most_calls) × AreRightBelow clients (calls + 1) lines
AreRightBelow clients calls (Order actors ∷ lines) =
    All (λ actor. actor < clients) actors × AreRightBelow clients calls lines

-- The first line that isn't passed over says how many clients there are.
abbrev pub AreRightLines : List Line → Type 0
AreRightLines [] = ⊤
AreRightLines (Passed ∷ lines) = AreRightLines lines
AreRightLines (Clients count ∷ lines) =
    (1 ≤ count) × (count ≤ most_clients) × AreRightBelow count 0 lines
AreRightLines (CallLine actor kind id fill ∷ lines) = ⊥
AreRightLines (Order actors ∷ lines) = ⊥

-- how many clients there are, 0 where no line says it
abbrev pub clients_in : List Line → ℕ
clients_in [] = 0
clients_in (Clients count ∷ lines) = count
clients_in (line ∷ lines) = clients_in lines

-- a call and whose it is
pub record Placed : Type 0 where
  pub actor : ℕ
  pub call : ScriptCall

-- the calls, with the numbers of their lines from this one on
abbrev pub calls_in : ℕ → List Line → List Placed
calls_in number [] = []
calls_in number (CallLine actor kind id fill ∷ lines) =
    record { actor = actor; call = record { line = number; kind = kind; id = id; fill = fill } } ∷
    calls_in (number + 1) lines
calls_in number (line ∷ lines) = calls_in (number + 1) lines

-- the turns, all lines of them joined
abbrev pub order_in : List Line → List ℕ
order_in [] = []
order_in (Order actors ∷ lines) = actors ++ order_in lines
order_in (line ∷ lines) = order_in lines

-- These texts are lines of a script, as far as they go.
pub record AreLines (texts : List (List ℕ)) (lines : List Line) : Type 0 where
  pub each : AllZip IsLineText texts lines
  pub right : AreRightLines lines

-- what a script asks for
pub record Script : Type 0 where
  pub clients : ℕ
  pub calls : List Placed
  pub order : List ℕ

-- The bytes are a script.
pub record IsScript (bytes : List ℕ) (script : Script) : Type 0 where
  pub few : length bytes ≤ most_bytes
  pub lines : List Line
  pub are : AreLines (split_lines bytes) lines
  pub clients : (1 ≤ script.clients) × (script.clients ≡ clients_in lines)
  pub calls : script.calls ≡ calls_in 1 lines
  pub order : script.order ≡ order_in lines

-- The lines above this one are right, and with it they aren't.
pub record BreaksAt (bytes : List ℕ) (number : ℕ) (lines : List Line) (text : List ℕ) : Type 0 where
  pub few : length bytes ≤ most_bytes
  pub above : AreLines (take number (split_lines bytes)) lines
  pub there : slice_get (split_lines bytes) number ≡ Some text
  pub breaks : (more : List Line) → AreLines (take (number + 1) (split_lines bytes)) more → ⊥

-- The line passes a limit: it asks for too many clients, or is one call too many.
abbrev pub PassesLimit : List Line → List ℕ → Type 0
PassesLimit lines text =
    ((count : ℕ) × IsLineText text (Clients count) × (most_clients < count)
    × (clients_in lines ≡ 0))
    ⊎ ((actor : ℕ) × (kind : Kind) × (id : Option ℕ) × (fill : Fill)
    × IsLineText text (CallLine actor kind id fill)
    × (actor < clients_in lines) × (length (calls_in 1 lines) ≡ most_calls))

-- A script is over a limit: too many bytes, or the first line that breaks a rule passes a limit.
abbrev pub IsOverLimit : List ℕ → Type 0
IsOverLimit bytes = (most_bytes < length bytes)
    ⊎ ((number : ℕ) × (lines : List Line) × (text : List ℕ) × BreaksAt bytes number lines text
    × PassesLimit lines text)

-- what a script over a limit reached, one more than is allowed
abbrev pub reached_by : (bytes : List ℕ) → IsOverLimit bytes → ℕ
reached_by bytes (inl many) = most_bytes + 1
reached_by bytes (inr (number, lines, text, breaks, inl clients)) = most_clients + 1
reached_by bytes (inr (number, lines, text, breaks, inr call)) = most_calls + 1

-- All lines are right, and none says how many clients there are.
pub record LacksClients (bytes : List ℕ) : Type 0 where
  pub few : length bytes ≤ most_bytes
  pub lines : List Line
  pub are : AreLines (split_lines bytes) lines
  pub none : clients_in lines ≡ 0

-- The first line that breaks a rule, counted from 1, breaks the grammar.
abbrev pub IsFaultAt : List ℕ → ℕ → Type 0
IsFaultAt bytes number =
    (LacksClients bytes × (number ≡ length (split_lines bytes) + 1))
    ⊎ ((above : ℕ) × (lines : List Line) × (text : List ℕ) × (number ≡ above + 1)
    × BreaksAt bytes above lines text
    × (PassesLimit lines text → ⊥))

-- A call names a block.
abbrev pub NamesBlock : Option ℕ → Type 0
NamesBlock None = ⊥
NamesBlock (Some id) = id < 2 ^ 64

-- The bytes of a put are some, not too many, and each is one.
pub record AreBlockBytes (bytes : List ℕ) : Type 0 where
  pub some : 1 ≤ length bytes
  pub few : length bytes ≤ 65536
  pub fit : All (λ byte. byte < 256) bytes

-- A call of this kind may have this id and these bytes.
abbrev pub MayHave : Kind → Option ℕ → List ℕ → Type 0
MayHave Put id bytes = NamesBlock id × AreBlockBytes bytes
MayHave Get id bytes = NamesBlock id
MayHave Sum id bytes = NamesBlock id
MayHave Free id bytes = NamesBlock id
MayHave Sync id bytes = id ≡ None
MayHave Attach id bytes = id ≡ None
MayHave Copy id bytes = id ≡ None
MayHave kind id bytes = ⊥

-- A call has what its kind may have.
abbrev pub IsAllowed : ScriptCall → Type 0
IsAllowed call = MayHave call.kind call.id (fill_bytes call.fill)

-- the calls of one client, in order
abbrev pub calls_of : Script → ℕ → List ScriptCall
calls_of script actor =
    map (λ placed. placed.call) (filter (λ placed. placed.actor == actor) script.calls)

-- what its calls ask
abbrev pub asked_by : Script → ℕ → List Asked
asked_by script actor =
    map (λ call. record { kind = call.kind; id = call.id }) (calls_of script actor)

-- the bytes that a script hands to each put, by caller and number of its call
abbrev pub handed_by : Script → ℕ → ℕ → List ℕ
handed_by script caller call =
    unwrap_or (option_map (λ asked. fill_bytes asked.fill)
    (slice_get (calls_of script caller) (call - 1))) []
