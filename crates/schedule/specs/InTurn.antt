-- Whose turn is next, as a script's order and its lines say, and runs of such turns.
use Rattle.std.specs.Prelude.{◌≡◌, ℕ, zero, suc, ◌+◌, List, [], ◌∷◌, ◌++◌, length, Bool, false, ◌||◌}
use Rattle.std.specs.Prelude.{if◌then◌else◌, Option, Some, None, is_some, nat_lt, slice_get, ⊤}
use Rattle.std.specs.List.{list_any}
use Rattle.bank_trait.specs.Disk.{Disk}
use Rattle.core_state.specs.JournalRoom.{Journal}
use Rattle.client_script.specs.InOrder.{given_of}
use Rattle.client_script.specs.Script.{Placed, Script, calls_of}
use Rattle.core_turns.specs.Core.{Core, at_disk}
use Rattle.schedule.specs.declared.client.Client.{Client}
use Rattle.schedule.specs.declared.progress.Progress.{Progress}
use Rattle.schedule.specs.Clients.{Changes}
use Rattle.schedule.specs.Turns.{Turns, TurnTaken, taken_by, turns_of}
use Rattle.schedule.specs.Turned.{Turned}

-- ---- whose turn it is

-- where a replay is: at these letters of its order; in a round, at the client of this number; or at the call of this
-- number, from 0, in the order of their lines
pub data Cursor : Type 0 where
  InOrder : (letters : List ℕ) → Cursor
  InRound : (actor : ℕ) → Cursor
  InRest : (given : ℕ) → Cursor

-- whether a client has a call under way
abbrev pub is_under_way : Option Client → Bool
is_under_way None = false
is_under_way (Some client) = is_some client.under_way

-- whether the client of this number has one
abbrev pub is_busy_at : List Client → ℕ → Bool
is_busy_at clients actor = is_under_way (slice_get clients actor)

-- whether any client has one
abbrev pub is_any_busy : List Client → Bool
is_any_busy clients = list_any (λ client. is_some client.under_way) clients

-- whether a client hasn't begun its call of this number, from 1
abbrev pub has_left : Option Client → ℕ → Bool
has_left None number = false
has_left (Some client) number = nat_lt client.begun number

-- whether the client of this number hasn't
abbrev pub has_left_at : List Client → ℕ → ℕ → Bool
has_left_at clients actor number = has_left (slice_get clients actor) number

-- whether it has a turn to take: of its call under way, or of one that it hasn't begun
abbrev pub has_turn_at : Script → List Client → ℕ → Bool
has_turn_at script clients actor =
    is_busy_at clients actor || has_left_at clients actor (length (calls_of script actor))

-- The call of a script after so many is this client's, and has this number among its calls, from 1.
pub record IsCallOfScript (script : Script) (given actor number : ℕ) : Type 0 where
  pub placed : Placed
  pub there : slice_get script.calls given ≡ Some placed
  pub is : placed.actor ≡ actor
  pub counted : number ≡ given_of script given actor + 1

-- the client whose turn it is at a call of the script, the one after so many: that call is under way, or isn't begun
abbrev pub turn_in_rest : Script → List Client → ℕ → Option Placed → Option ℕ
turn_in_rest script clients given None = None
turn_in_rest script clients given (Some placed) =
    if is_busy_at clients placed.actor || has_left_at clients placed.actor (given_of script given placed.actor + 1)
    then Some placed.actor else None

-- whose turn is next, if it is anyone's there: a letter of a client that has none is passed over
abbrev pub turn_at : Script → List Client → Cursor → Option ℕ
turn_at script clients (InOrder []) = None
turn_at script clients (InOrder (letter ∷ letters)) =
    if has_turn_at script clients letter then Some letter else None
turn_at script clients (InRound actor) = if is_busy_at clients actor then Some actor else None
turn_at script clients (InRest given) = turn_in_rest script clients given (slice_get script.calls given)

-- where a replay is once its order or a round is over
abbrev pub after_round : List Client → Cursor
after_round clients = if is_any_busy clients then InRound 0 else InRest 0

-- where it is after a call of the script that was given: there, as long as that is someone's turn
abbrev pub rest_after : ℕ → Option ℕ → Cursor
rest_after given None = InRest (given + 1)
rest_after given (Some actor) = InRest given

-- where it is after the turn, by what the clients had come to before it
abbrev pub cursor_after : Script → List Client → Cursor → Cursor
cursor_after script clients (InOrder []) = after_round clients
cursor_after script clients (InOrder (letter ∷ letters)) = InOrder letters
cursor_after script clients (InRound actor) =
    if nat_lt actor script.clients then InRound (actor + 1) else after_round clients
cursor_after script clients (InRest given) =
    rest_after given (turn_in_rest script clients given (slice_get script.calls given))

-- ---- turns

-- The client of this number has one turn, of its call under way or of its next one, and the others stay as they are. So
-- a client that has neither has no turn. One in which the next call finds another's in its way is a turn: the client
-- waits.
pub record IsTurnOf (script : Script) (actor : ℕ) (before after : Turns) : Type 0 where
  pub client : Client
  pub there : slice_get before.clients actor ≡ Some client
  pub now : Client
  pub turned : Turned (calls_of script actor) actor
      (record { state = before.state; items = before.items; client = client })
      (record { state = after.state; items = after.items; client = now })
  pub changes : Changes before.clients after.clients actor now

-- what the calls have come to, where the replay is, and how many turns it took
pub record Replay : Type 0 where
  pub turns : Turns
  pub cursor : Cursor
  pub taken : ℕ

abbrev pub replay_at : Turns → ℕ → Cursor → Replay
replay_at turns taken cursor = record { turns = turns; cursor = cursor; taken = taken }

-- what the calls have come to, of a core, its disk, a journal, and the clients
abbrev pub turns_by : Core → Disk → Journal → Progress → Turns
turns_by core disk journal progress = turns_of (at_disk core disk) journal.items progress.clients.items

abbrev pub replay_by : Core → Disk → Journal → Progress → Cursor → Replay
replay_by core disk journal progress cursor = replay_at (turns_by core disk journal progress) progress.turns cursor

-- ---- turn after turn

-- These turns were taken one after the other, whoever's they were.
abbrev pub HaveTaken : Script → Turns → List TurnTaken → Type 0
HaveTaken script start [] = ⊤
HaveTaken script start (turn ∷ later) = IsTurnOf script turn.actor start turn.left × HaveTaken script turn.left later

-- ---- the turns whose turn it is

-- The turn is counted; where it is nobody's, nothing is done.
abbrev pub IsStepOf : Script → Replay → List TurnTaken → List TurnTaken → Replay → Option ℕ → Type 0
IsStepOf script before passed more after None = (after.turns ≡ before.turns) × (after.taken ≡ before.taken)
    × (more ≡ passed)
IsStepOf script before passed more after (Some actor) = IsTurnOf script actor before.turns after.turns
    × (after.taken ≡ before.taken + 1) × (more ≡ passed ++ taken_by actor after.turns ∷ [])

-- One step of a replay: the turn of the client whose it is there.
pub record ReplaySteps (script : Script) (before : Replay) (passed more : List TurnTaken) (after : Replay)
    : Type 0 where
  pub turn : IsStepOf script before passed more after (turn_at script before.turns.clients before.cursor)
  pub cursor : after.cursor ≡ cursor_after script before.turns.clients before.cursor

-- So many steps, one after the other, with these turns.
abbrev pub Goes : Script → ℕ → Replay → List TurnTaken → Replay → Type 0
Goes script zero start passed now = (now ≡ start) × (passed ≡ [])
Goes script (suc steps) start passed now = (middle : Replay) × (before : List TurnTaken)
    × Goes script steps start before middle × ReplaySteps script middle before passed now

-- A replay has gone on by some steps.
pub record HasGone (script : Script) (start : Replay) (passed : List TurnTaken) (now : Replay) : Type 0 where
  pub steps : ℕ
  pub goes : Goes script steps start passed now
