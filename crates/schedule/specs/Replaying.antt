-- A script that is carried out turn by turn.
use Rattle.std.specs.Prelude.{◌≡◌, ◌≢◌, ℕ, ◌+◌, ◌<◌, ◌≤◌, List, [], ◌∷◌, length, replicate, Some, None, slice_get, true}
use Rattle.core_blocks.specs.Blocks.{AreUnderWay}
use Rattle.client_script.specs.InOrder.{given_of}
use Rattle.client_script.specs.Script.{Script, calls_of}
use Rattle.core_turns.specs.Core.{Core}
use Rattle.schedule.specs.declared.client.Client.{Client}
use Rattle.schedule.specs.declared.client.UnderWay.{UnderWay}
use Rattle.schedule.specs.Coming.{LeadTo}
use Rattle.schedule.specs.InTurn.{IsTurnOf, is_busy_at}
use Rattle.schedule.specs.Turns.{Turns, most_turns, taken_by}

-- No call is under way.
pub record IsAtRest (core : Core) : Type 0 where
  pub holds : core.holds ≡ []
  pub committing : core.committing ≡ None
  pub copying : core.copying ≡ None
  pub attaching : core.attaching ≡ None
  pub blocks : AreUnderWay core.pool.blocks []

-- a client that has begun no call
abbrev pub blank_client : Client
blank_client = record { begun = 0; under_way = None }

-- so many of them
abbrev pub blank_clients : ℕ → List Client
blank_clients count = replicate count blank_client

-- No client has a call under way.
pub record AreIdle (clients : List Client) : Type 0 where
  pub each : (index : ℕ) (client : Client) → slice_get clients index ≡ Some client → client.under_way ≡ None

-- A client took a turn: it begins no other call while it has one under way. Where no call is under way, its next one
-- finds none in its way.
pub record TakesOne (script : Script) (actor : ℕ) (before : Turns) (clients : List Client) (client now : Client)
    : Type 0 where
  pub there : slice_get clients actor ≡ Some now
  pub further : client.begun ≤ now.begun
  pub still : (under : UnderWay) → client.under_way ≡ Some under → now.begun ≡ client.begun
  pub begins : AreIdle before.clients → client.begun < length (calls_of script actor)
      → now.begun ≡ client.begun + 1

-- A client had a turn, and the others stay as they were.
pub record HasTurn (script : Script) (actor : ℕ) (before after : Turns) : Type 0 where
  pub come : LeadTo script before (taken_by actor after ∷ []) after
  pub is : IsTurnOf script actor before after
  pub others : (other : ℕ) → other ≢ actor → slice_get after.clients other ≡ slice_get before.clients other
  pub takes : (client : Client) → slice_get before.clients actor ≡ Some client
      → (now : Client) × TakesOne script actor before after.clients client now

-- A round has come so far: where one of the first clients had a call under way, turns were taken since, and could be
-- counted; the others are as they were.
pub record HasComeRound (count : ℕ) (old : List Client) (before : ℕ) (new : List Client) (taken : ℕ) : Type 0 where
  pub counted : before ≤ taken
  pub took : (index : ℕ) → index < count → is_busy_at old index ≡ true → (before < taken) × (taken ≤ most_turns)
  pub same : (index : ℕ) → count ≤ index → slice_get new index ≡ slice_get old index

-- A client has begun one call more, and the others are as they were.
pub record BeginsOne (actor : ℕ) (old new : List Client) : Type 0 where
  pub others : (other : ℕ) → other ≢ actor → slice_get new other ≡ slice_get old other
  pub one : (client : Client) → slice_get old actor ≡ Some client
      → (now : Client) × (slice_get new actor ≡ Some now) × (now.begun ≡ client.begun + 1)

-- Each client has begun all its first calls, as many as are among so many of the script's.
pub record HaveBegun (script : Script) (given : ℕ) (clients : List Client) : Type 0 where
  pub each : (actor : ℕ) (client : Client) → slice_get clients actor ≡ Some client
      → given_of script given actor ≤ client.begun
