-- A script as far as it is read, and what one more line makes of it.
use Rattle.std.specs.Prelude.{◌≡◌, ◌⊎◌, ℕ, ◌+◌, ◌<◌, ◌≤◌, List, [], ◌∷◌, ◌++◌, length, Option, Some, None, option_map}
use Rattle.std.specs.Prelude.{Result, Ok, Err, All, ⊤}
use Rattle.core_state.specs.declared.answer.Kind.{Kind}
use Rattle.client_script.specs.declared.call.Fill.{Fill}
use Rattle.client_script.specs.declared.refused.ParseRefused.{ParseRefused}
use Rattle.client_script.specs.declared.refused.ParseRefused.TheVariants.{ScriptFault, Limit, NoMemory}
use Rattle.client_script.specs.Lines.{Line, Passed, Clients, CallLine, Order, IsLineText}
use Rattle.client_script.specs.declared.line_fault.LineFault.{LineFault}
use Rattle.client_script.specs.Faults.{named_by, IsFaultOf, IsFaultFor}
use Rattle.client_script.specs.Script.{Script, most_clients, most_calls, IsOverLimit, reached_by}

-- A line may follow a script; there is none above the line that says how many clients there are.
abbrev pub MayFollow : Option Script → Line → Type 0
MayFollow script Passed = ⊤
MayFollow None (Clients count) = (1 ≤ count) × (count ≤ most_clients)
MayFollow None (CallLine actor kind id fill) = ⊥
MayFollow None (Order actors) = ⊥
MayFollow (Some script) (Clients count) = ⊥
MayFollow (Some script) (CallLine actor kind id fill) =
    (actor < script.clients) × (length script.calls < most_calls)
MayFollow (Some script) (Order actors) = All (λ actor. actor < script.clients) actors

-- the script with the line of this number
abbrev pub with_line : ℕ → Line → Option Script → Option Script
with_line number Passed script = script
with_line number (Clients count) script = Some (record { clients = count; calls = []; order = [] })
with_line number (CallLine actor kind id fill) script = option_map (λ (before : Script). record before {
  calls = before.calls ++ record {
    actor = actor;
    call = record { line = number; kind = kind; id = id; fill = fill };
  } ∷ [];
}) script
with_line number (Order actors) script =
    option_map (λ (before : Script). record before { order = before.order ++ actors }) script

-- A text passes a limit, and reaches so much.
abbrev pub Reaches : Option Script → List ℕ → ℕ → Type 0
Reaches None text reached =
    (count : ℕ) × IsLineText text (Clients count) × (most_clients < count)
    × (reached ≡ most_clients + 1)
Reaches (Some script) text reached =
    (actor : ℕ) × (kind : Kind) × (id : Option ℕ) × (fill : Fill)
    × IsLineText text (CallLine actor kind id fill) × (actor < script.clients)
    × (most_calls ≤ length script.calls) × (reached ≡ most_calls + 1)

-- A text breaks a rule, and passes no limit.
pub record IsWrong (script : Option Script) (text : List ℕ) : Type 0 where
  pub breaks : (line : Line) → IsLineText text line → MayFollow script line → ⊥
  pub no_limit : (reached : ℕ) → Reaches script text reached → ⊥

-- The line of this number was read, or why it wasn't.
abbrev pub IsStep : ℕ → List ℕ → Option Script → Result (Unit {0}) ParseRefused → Option Script →
    Type 0
IsStep number text old (Ok done) new =
    (line : Line) × IsLineText text line × MayFollow old line × (new ≡ with_line number line old)
IsStep number text old (Err (ScriptFault line why)) new =
    (line ≡ number) × IsWrong old text × IsFaultOf (named_by old) text why
IsStep number text old (Err (Limit reached)) new = Reaches old text reached
IsStep number text old (Err NoMemory) new = ⊤

-- Why a script was refused.
abbrev pub IsRefusedFor : List ℕ → ParseRefused → Type 0
IsRefusedFor bytes (ScriptFault line why) = IsFaultFor bytes line why
IsRefusedFor bytes (Limit reached) =
    (over : IsOverLimit bytes) × (reached ≡ reached_by bytes over)
IsRefusedFor bytes NoMemory = ⊤

-- The answer is this, unless there was no memory.
abbrev pub IsUnlessNoMemory : Result Script ParseRefused → Result Script ParseRefused → Type 0
IsUnlessNoMemory result answer = (result ≡ answer) ⊎ (result ≡ Err NoMemory)

-- The answer is that this line breaks the grammar, and why, unless there was no memory.
abbrev pub IsFaultUnlessNoMemory : Result Script ParseRefused → ℕ → Type 0
IsFaultUnlessNoMemory result line =
    ((why : LineFault) × (result ≡ Err (ScriptFault line why))) ⊎ (result ≡ Err NoMemory)
