-- What the clients of a script have come to that share a pool, whoever's turns they were.
use Rattle.std.specs.Prelude.{◌≡◌, ◌⊎◌, ℕ, ◌+◌, ◌≤◌, List, [], ◌∷◌, ◌++◌, length, map, replicate, slice_get, true}
use Rattle.std.specs.Prelude.{false}
use Rattle.std.specs.Prelude.{Option, Some, None}
use Rattle.bank_trait.specs.Disk.{Disk}
use Rattle.core_state.specs.declared.item.Entry.{Entry}
use Rattle.core_state.specs.declared.item.Item.{Item}
use Rattle.core_state.specs.Legal.{CallAt}
use Rattle.client_script.specs.Script.{Script, calls_of}
use Rattle.core_turns.specs.declared.turn.Turn.TheVariants.{Busy}
use Rattle.core_turns.specs.Core.{Core, CoreState}
use Rattle.turn_lock.specs.Seats.{Lock, Sitting}
use Rattle.turn_lock.specs.Turn.{entries}
use Rattle.pool_live.specs.declared.batch.Next.{Next}
use Rattle.pool_live.specs.declared.batch.Next.TheVariants.{GoesOn, Waits, Ended}
use Rattle.pool_live.specs.declared.live.TurnsTaken.{TurnsTaken}
use Rattle.schedule.specs.declared.client.Client.{Client}
use Rattle.schedule.specs.declared.client.UnderWay.{UnderWay}
use Rattle.schedule.specs.declared.computing.ToCompute.{ToCompute}
use Rattle.schedule.specs.Clients.{answered_of}
use Rattle.schedule.specs.Computing.{IsAskedBy, IsComputable}
use Rattle.schedule.specs.Coming.{LeadTo}
use Rattle.schedule.specs.InTurn.{HaveTaken, has_turn_at}
use Rattle.schedule.specs.Playing.{IsReady}
use Rattle.schedule.specs.Turned.{BeginsNext}
use Rattle.schedule.specs.Turns.{Turns, TurnTaken, most_turns, turns_of}

-- The seat is one of the lock, and does not hold the turn.
abbrev pub IsFreeSeat : {K E : Type 0} → Lock K → Sitting E → Type 0
IsFreeSeat lock seat = (seat.lock ≡ lock.id) × (seat.holds ≡ false)

-- A client's next call has found another's in its way, in the turn that led here.
pub record HasFoundBusy (script : Script) (actor : ℕ) (now : Turns) : Type 0 where
  pub before : Turns
  pub client : Client
  pub by : ℕ
  pub begins : BeginsNext (calls_of script actor) actor
      (record { state = before.state; items = before.items; client = client })
      (record { state = now.state; items = now.items; client = client }) (Busy by)
  pub still : slice_get now.clients actor ≡ Some client

-- What a client's next turn asks for can be computed, and is what its call under way asks for.
pub record IsAskedNext (script : Script) (actor : ℕ) (clients : List Client) (ahead : ToCompute) : Type 0 where
  pub can : IsComputable (calls_of script actor) ahead
  pub asked : (client : Client) → slice_get clients actor ≡ Some client → IsAskedBy (calls_of script actor) client ahead

-- Each client that has a call under way has begun that.
pub record AreBegun (clients : List Client) : Type 0 where
  pub each : (index : ℕ) (client : Client) (under : UnderWay) → slice_get clients index ≡ Some client
      → client.under_way ≡ Some under → 1 ≤ client.begun

-- So many of a client's calls were answered.
abbrev pub HaveAnswered : List Client → ℕ → ℕ → Type 0
HaveAnswered clients actor count = (client : Client) → slice_get clients actor ≡ Some client
    → answered_of client.begun client.under_way ≡ count

-- What a client has before it once so many turns were counted: a turn, before which this can be computed; the first
-- turn of its next call again, which has found another's in its way; or none, as its calls are answered, or no more
-- turns can be counted.
abbrev pub IsNextFor : Script → ℕ → Turns → ℕ → Next → Type 0
IsNextFor script actor now taken (GoesOn ahead) =
    (has_turn_at script now.clients actor ≡ true) × IsAskedNext script actor now.clients ahead
IsNextFor script actor now taken Waits = HasFoundBusy script actor now
IsNextFor script actor now taken Ended = (has_turn_at script now.clients actor ≡ false) ⊎ (most_turns ≤ taken)

-- the clients that had the turns that were told
abbrev pub actors_told : List TurnsTaken → List ℕ
actors_told [] = []
actors_told (taken ∷ told) = replicate taken.turns taken.actor ++ actors_told told

-- Each of these clients has had a turn, in this order, whoever's turn it would have been by a script's order. What has
-- to stand before a turn stands after them, and what stood stands, with the journal grown by what the turns answered.
pub record HaveHadTurns (script : Script) (start : Turns) (actors : List ℕ) (now : Turns) (room : ℕ) : Type 0 where
  pub passed : List TurnTaken
  pub actors_are : map (λ turn. turn.actor) passed ≡ actors
  pub taken : HaveTaken script start passed
  pub come : LeadTo script start passed now
  pub ready : IsReady script now room

-- These clients have had the turns since the start, one after the other, and so many were counted.
abbrev pub StandsFor : Script → Option Turns → List ℕ → Turns → ℕ → ℕ → Type 0
StandsFor script None actors now room taken = ⊥
StandsFor script (Some start) actors now room taken =
    HaveHadTurns script start actors now room × (taken ≡ length actors)

-- The turns that were told led to where a client has this before it.
pub record ToldLeadTo (script : Script) (start : Option Turns) (told : List TurnsTaken) (actor : ℕ) (next : Next)
    : Type 0 where
  pub now : Turns
  pub room : ℕ
  pub taken : ℕ
  pub stands : StandsFor script start (actors_told told) now room taken
  pub next_is : IsNextFor script actor now taken next

-- The lock was had so often that it can be had no more.
abbrev pub IsSpent : Sitting TurnsTaken → Type 0
IsSpent seat = most_turns ≤ length seat.me.seen

-- A client's thread had its turns, and came to where the client has this before it; or the lock can be had no more.
abbrev pub ComesTo : Script → Option Turns → Sitting TurnsTaken → ℕ → Next → Type 0
ComesTo script start seat actor next =
    ToldLeadTo script start (entries seat.me.seen) actor next ⊎ (IsSpent seat × (next ≡ Ended))

-- Some clients have.
abbrev pub HasStoodFor : Script → Option Turns → Turns → ℕ → ℕ → Type 0
HasStoodFor script start now room taken = (actors : List ℕ) × StandsFor script start actors now room taken

-- A client had so many turns more.
abbrev pub MovesOn : Script → Turns → ℕ → ℕ → ℕ → ℕ → Turns → ℕ → ℕ → Type 0
MovesOn script before room taken actor turns after left counted = (start : Option Turns) (actors : List ℕ)
    → StandsFor script start actors before room taken
    → StandsFor script start (actors ++ replicate turns actor) after left counted

-- From this start, and so many turns, the calls of a script were carried out with these turns, whoever's they were: so
-- many were counted then.
pub record HasCarriedOut (script : Script) (start : Turns) (before : ℕ) (state : CoreState) (items : List Item)
    (turns : ℕ) : Type 0 where
  pub passed : List TurnTaken
  pub clients : List Client
  pub taken : HaveTaken script start passed
  pub come : LeadTo script start passed (turns_of state items clients)
  pub counted : turns ≡ before + length passed

-- Core, disk and journal are as they were.
abbrev pub IsUntouched : Core → Disk → List Item → Core → Disk → List Item → Type 0
IsUntouched core disk items after later more = (after ≡ core) × (later ≡ disk) × (more ≡ items)

-- The journal answers no call.
abbrev pub AnswersNone : List Item → Type 0
AnswersNone items = (index : ℕ) (entry : Entry) → CallAt items index entry → ⊥
