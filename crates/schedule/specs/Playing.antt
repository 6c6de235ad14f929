-- What stands while a script is carried out, and how that ends.
use Rattle.std.specs.Prelude.{◌≡◌, ℕ, suc, ◌+◌, ◌-◌, ◌*◌, ◌≤◌, List, [], ◌∷◌, length, Option, Some, None, ⊤}
use Rattle.range_locks.specs.Order.{shared_count}
use Rattle.core_state.specs.declared.item.Item.{Item}
use Rattle.client_script.specs.Script.{Script, calls_of}
use Rattle.core_turns.specs.declared.copying.CopyRun.{CopyRun}
use Rattle.core_turns.specs.declared.rounds.CopyRound.TheVariants.{Copies}
use Rattle.core_turns.specs.declared.turn.Turn.{Turn}
use Rattle.core_turns.specs.declared.turn.Turn.TheVariants.{More, Busy, Done}
use Rattle.core_turns.specs.Core.{Core, CoreState}
use Rattle.schedule.specs.declared.client.Client.{Client}
use Rattle.schedule.specs.declared.whole_run.Ended.{Ended}
use Rattle.schedule.specs.declared.whole_run.Ended.TheVariants.{Whole, NoMemory, Limit}
use Rattle.schedule.specs.declared.client.UnderWay.{UnderWay}
use Rattle.schedule.specs.declared.client.Work.{Work}
use Rattle.schedule.specs.declared.client.Work.TheVariants as work
use Rattle.schedule.specs.Clients.{answered_of}
use Rattle.schedule.specs.Coming.{LeadTo, IsSchedule}
use Rattle.schedule.specs.InTurn.{Cursor, InOrder, InRest, HasGone, Replay, replay_at}
use Rattle.schedule.specs.Running.{IsGoing}
use Rattle.schedule.specs.Turned.{group_by}
use Rattle.schedule.specs.Works.{made_by, made_in}
use Rattle.schedule.specs.Turns.{Turns, TurnTaken, most_turns, turns_of}
use Rattle.schedule.specs.Replaying.{AreIdle}

-- ---- room for answers

-- whether the last turn of a call under way took the room of a group
abbrev pub taken_for : Option ℕ → ℕ
taken_for None = 0
taken_for (Some made) = 1

abbrev pub taken_under : Option UnderWay → ℕ
taken_under None = 0
taken_under (Some under) = taken_for (made_in under.work)

-- how much of the room that a client's calls have, two items each, is taken
abbrev pub taken_of : Client → ℕ
taken_of client = 2 * answered_of client.begun client.under_way + taken_under client.under_way

-- how much so many calls of a client have still
abbrev pub owed : ℕ → Client → ℕ
owed calls client = 2 * calls - taken_of client

-- how much the calls of all clients have, by how many each has
abbrev pub all_owed : (ℕ → ℕ) → List Client → ℕ
all_owed calls [] = 0
all_owed calls (client ∷ clients) = owed (calls 0) client + all_owed (λ actor. calls (suc actor)) clients

-- how many calls of a script each client has
abbrev pub calls_by : Script → ℕ → ℕ
calls_by script actor = length (calls_of script actor)

-- A turn took room for what its call lists: its group, its answer and the group that comes with that; and made room for
-- the next group of a copy that had made one.
abbrev pub UsesRoom : ℕ → ℕ → Client → Client → Type 0
UsesRoom before after old new = before + taken_of old ≤ after + taken_of new

-- So much room was left when a turn of a work had come to this, before it listed anything: more by that of the next
-- group of a copy that had made one; where there was no memory for it, no less, and the answer comes without a group.
abbrev pub MakesRoom : Work → ℕ → ℕ → Turn Work → Type 0
MakesRoom does before after (More next) = before + taken_for (made_in does) ≤ after
MakesRoom does before after (Busy by) = ⊤
MakesRoom does before after (Done given) =
    before + taken_for (made_in does) + taken_for (group_by given (made_by does)) ≤ after + 1

-- There is room for an answer of each call that has none yet, and for the next group of each that makes one.
pub record HasRoomForAnswers (script : Script) (clients : List Client) (room : ℕ) : Type 0 where
  pub enough : all_owed (calls_by script) clients ≤ room

-- ---- who holds sectors

-- Whoever copies sectors is a client whose work is a copy's job.
abbrev pub AreCopiers : List Client → Core → Type 0
AreCopiers clients core = (actor : ℕ) → core.copying ≡ Some actor
    → (client : Client) × (under : UnderWay) × (run : CopyRun) × IsGoing clients actor client under
    × (under.work ≡ work.Copy (Copies run))

-- how many shared holds a work has: a put and a read have one
abbrev pub sharing_in : Work → ℕ
sharing_in (work.Put run) = 1
sharing_in (work.Read run) = 1
sharing_in other = 0

abbrev pub sharing_under : Option UnderWay → ℕ
sharing_under None = 0
sharing_under (Some under) = sharing_in under.work

-- how many the clients' calls under way have
abbrev pub sharing_of : List Client → ℕ
sharing_of [] = 0
sharing_of (client ∷ clients) = sharing_under client.under_way + sharing_of clients

-- No more holds are shared than the clients' calls under way have.
abbrev pub AreSharers : List Client → Core → Type 0
AreSharers clients core = shared_count core.holds ≤ sharing_of clients

-- ---- between turns

-- What has to stand before a turn. Who copies sectors, and who shares some, is a client.
pub record IsReady (script : Script) (turns : Turns) (room : ℕ) : Type 0 where
  pub schedule : IsSchedule script turns
  pub copying : AreCopiers turns.clients turns.state.core
  pub sharing : AreSharers turns.clients turns.state.core
  pub counted : length turns.clients ≡ script.clients
  pub enough : HasRoomForAnswers script turns.clients room

-- Turns have come to a state in which the next turn may be taken, and they are those of the script.
pub record HasPlayed (script : Script) (start now : Replay) (room : ℕ) : Type 0 where
  pub passed : List TurnTaken
  pub come : LeadTo script start.turns passed now.turns
  pub gone : HasGone script start passed now
  pub ready : IsReady script now.turns room

-- Turns have come so far that no more can be counted.
pub record HasRunOutOfTurns (script : Script) (start : Replay) (turns : Turns) (taken room : ℕ) : Type 0 where
  pub most : most_turns ≤ taken
  pub cursor : Cursor
  pub played : HasPlayed script start (replay_at turns taken cursor) room

-- ---- at the end

-- How a replay ends: each call is answered; or there was no memory before the first turn, and nothing was done; or no
-- more turns can be counted.
abbrev pub EndsAs : Script → Replay → List TurnTaken → Replay → Ended → Type 0
EndsAs script start passed now Whole = HasGone script start passed now × (now.cursor ≡ InRest (length script.calls))
    × AreIdle now.turns.clients
EndsAs script start passed now NoMemory = (now ≡ start) × (passed ≡ [])
EndsAs script start passed now Limit = HasGone script start passed now × (most_turns ≤ now.taken)

-- From this start the calls of a script were carried out, with these turns, first those that were listed, so many in
-- all; and they ended so, with this core, its disk and this journal.
pub record CarriesOut (script : Script) (listed : List ℕ) (start : Turns) (ended : Ended) (taken : ℕ)
    (state : CoreState) (items : List Item) : Type 0 where
  pub passed : List TurnTaken
  pub clients : List Client
  pub cursor : Cursor
  pub come : LeadTo script start passed (turns_of state items clients)
  pub ends : EndsAs script (replay_at start 0 (InOrder listed)) passed
      (replay_at (turns_of state items clients) taken cursor) ended
