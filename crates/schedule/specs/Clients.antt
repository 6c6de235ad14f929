-- What clients have come to, and which calls of a script a journal answers meanwhile.
use Rattle.std.specs.Prelude.{◌≡◌, ◌≢◌, ℕ, ◌+◌, ◌-◌, ◌<◌, ◌≤◌, List, length, Option, Some, None, slice_get}
use Rattle.core_state.specs.declared.item.Entry.{Entry}
use Rattle.core_state.specs.declared.item.Item.{Item}
use Rattle.core_state.specs.Legal.{CallAt}
use Rattle.core_state.specs.Journal.{CallsAreRight}
use Rattle.client_script.specs.Script.{Script, asked_by, calls_of}
use Rattle.schedule.specs.declared.client.Client.{Client}
use Rattle.schedule.specs.declared.client.UnderWay.{UnderWay}

-- One client of some is this from now on, and the others are as they were.
pub record Changes (old new : List Client) (index : ℕ) (client : Client) : Type 0 where
  pub there : slice_get new index ≡ Some client
  pub others : (other : ℕ) → other ≢ index → slice_get new other ≡ slice_get old other

-- how many of so many calls were answered: all but the last where that is under way
abbrev pub answered_of : ℕ → Option UnderWay → ℕ
answered_of begun None = begun
answered_of begun (Some under) = begun - 1

-- No client has begun more calls than it has.
abbrev pub BeginsNoMore : Script → List Client → Type 0
BeginsNoMore script clients = (caller : ℕ) (client : Client) → slice_get clients caller ≡ Some client
    → client.begun ≤ length (calls_of script caller)

-- Who has a call under way has begun one.
abbrev pub HaveBegunTheirs : List Client → Type 0
HaveBegunTheirs clients = (caller : ℕ) (client : Client) (under : UnderWay) → slice_get clients caller ≡ Some client
    → client.under_way ≡ Some under → 1 ≤ client.begun

-- Each call that is answered is one that its client has begun and that isn't under way,
abbrev pub AnswersBegun : List Client → List Item → Type 0
AnswersBegun clients items = (index : ℕ) (entry : Entry) → CallAt items index entry
    → (client : Client) × (slice_get clients entry.caller ≡ Some client)
    × (entry.call ≤ answered_of client.begun client.under_way)

-- and each such call is answered.
abbrev pub AnswersAllBegun : List Client → List Item → Type 0
AnswersAllBegun clients items = (caller number : ℕ) (client : Client) → slice_get clients caller ≡ Some client
    → number < answered_of client.begun client.under_way
    → (index : ℕ) × (entry : Entry) × CallAt items index entry × (entry.caller ≡ caller)
    × (entry.call ≡ number + 1)

-- The journal answers the first calls of each client, those that were begun and aren't under way, each once and
-- in order, and no others.
pub record ClientsAreAnswered (script : Script) (clients : List Client) (items : List Item) : Type 0 where
  pub right : CallsAreRight (asked_by script) items
  pub few : BeginsNoMore script clients
  pub some : HaveBegunTheirs clients
  pub each : AnswersBegun clients items
  pub every : AnswersAllBegun clients items
