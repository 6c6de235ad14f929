-- What stands between two turns of a script's clients.
use Rattle.std.specs.Prelude.{◌≡◌, ◌⊎◌, ℕ, ◌-◌, ◌<◌, ◌≤◌, List, ◌∷◌, [], flat_map, length, Option, Some, None}
use Rattle.std.specs.Prelude.{slice_get, ⊤}
use Rattle.bank_trait.specs.Disk.{Disk}
use Rattle.core_state.specs.declared.answer.Kind.TheVariants as kind
use Rattle.core_state.specs.declared.item.Entry.{Entry}
use Rattle.core_state.specs.declared.item.Group.{Group as GroupItem}
use Rattle.core_state.specs.declared.item.Item.{Item}
use Rattle.core_state.specs.Map.{map_of, map_after}
use Rattle.core_state.specs.Legal.{CallAt}
use Rattle.core_state.specs.Keeps.{Kept, Setting}
use Rattle.core_state.specs.Moment.{AwaitsAttach}
use Rattle.core_state.specs.World.{World}
use Rattle.core_commit.specs.CommitTurns.{CommitRun}
use Rattle.client_script.specs.declared.call.ScriptCall.{ScriptCall}
use Rattle.client_script.specs.Lines.{fill_bytes}
use Rattle.client_script.specs.Script.{Script, calls_of}
use Rattle.core_turns.specs.Damage.{undamaged}
use Rattle.core_turns.specs.declared.attaching.AttachRun.{AttachRun}
use Rattle.core_turns.specs.declared.rounds.CopyRound.TheVariants.{Rests, Copies, Commits}
use Rattle.core_turns.specs.Attaching.{HoldsAttach, IsAttachRunOf, attach_commit}
use Rattle.core_turns.specs.Core.{Core, CoreState}
use Rattle.core_turns.specs.Getting.{HasTooManyOut}
use Rattle.core_turns.specs.Committing.{IsCommitOf}
use Rattle.core_turns.specs.UnderWay.{HoldingCall, AreCallsOf, Stands, shown_of}
use Rattle.schedule.specs.declared.client.Client.{Client}
use Rattle.schedule.specs.declared.client.UnderWay.{UnderWay}
use Rattle.schedule.specs.declared.client.Work.{Work}
use Rattle.schedule.specs.declared.client.Work.TheVariants as work
pub use Rattle.schedule.specs.Works.{commit_in, held_by, MakesCommit}
use Rattle.schedule.specs.Moments.{Past}
use Rattle.schedule.specs.Recorded.{Recorded, IsBegunAt}

-- ---- without a world

-- The client is the one of this number, and this is its call under way.
pub record IsGoing (clients : List Client) (index : ℕ) (client : Client) (under : UnderWay) : Type 0 where
  pub there : slice_get clients index ≡ Some client
  pub under_way : client.under_way ≡ Some under

-- the one that a client has under way, if it has one
abbrev pub held_under : Option UnderWay → List HoldingCall
held_under None = []
held_under (Some under) = held_by under.work

abbrev pub call_of_client : Client → List HoldingCall
call_of_client client = held_under client.under_way

-- the calls under way that hold sectors
abbrev pub calls_under_way : List Client → List HoldingCall
calls_under_way clients = flat_map call_of_client clients

-- The hold of a work is that of this client, and so is a copy.
abbrev pub IsHoldOf : ℕ → Work → Type 0
IsHoldOf index (work.Put run) = run.hold.actor ≡ index
IsHoldOf index (work.Read run) = run.hold.actor ≡ index
IsHoldOf index (work.Sync run) = ⊤
IsHoldOf index (work.Attach run) = ⊤
IsHoldOf index (work.Copy (Rests actor made)) = actor ≡ index
IsHoldOf index (work.Copy (Copies run)) = run.hold.actor ≡ index
IsHoldOf index (work.Copy (Commits run)) = ⊤

-- The work is what a call of the script asks for.
abbrev pub IsWorkFor : ScriptCall → Work → Type 0
IsWorkFor call (work.Put run) = (call.kind ≡ kind.Put) × (call.id ≡ Some run.range.id)
    × (length (fill_bytes call.fill) ≡ run.len)
IsWorkFor call (work.Read run) = (call.kind ≡ run.kind) × (call.id ≡ Some run.entry.id)
IsWorkFor call (work.Sync run) = (call.kind ≡ kind.Sync) × (call.id ≡ None)
IsWorkFor call (work.Attach run) = (call.kind ≡ kind.Attach) × (call.id ≡ None)
IsWorkFor call (work.Copy round) = (call.kind ≡ kind.Copy) × (call.id ≡ None)

-- A client's call under way has the client's hold, if it has one, and is what the script asks for. The commit that it
-- makes is the core's, and so is an attach.
pub record IsWorkOf (script : Script) (core : Core) (index : ℕ) (client : Client) (does : Work) : Type 0 where
  pub hold : IsHoldOf index does
  pub call : ScriptCall
  pub there : slice_get (calls_of script index) (client.begun - 1) ≡ Some call
  pub asked : IsWorkFor call does
  pub commit : (run : CommitRun) → commit_in does ≡ Some run → IsCommitOf core run × (core.committing ≡ Some index)
  pub attach : (run : AttachRun) → does ≡ work.Attach run → IsAttachRunOf core run × (core.attaching ≡ Some index)

-- The clients' calls under way are calls of this core, and their clients' works. A commit under way is a client's, or
-- was cut short. An attach under way is a client's.
pub record AreGoing (script : Script) (core : Core) (clients : List Client) : Type 0 where
  pub are : AreCallsOf core (calls_under_way clients)
  pub each : (index : ℕ) (client : Client) (under : UnderWay) → IsGoing clients index client under
      → IsWorkOf script core index client under.work
  pub one : (actor : ℕ) → core.committing ≡ Some actor → HasTooManyOut core
      ⊎ ((client : Client) × (under : UnderWay) × (run : CommitRun) × IsGoing clients actor client under
      × (commit_in under.work ≡ Some run))
  pub attaches : (actor : ℕ) → core.attaching ≡ Some actor
      → (client : Client) × (under : UnderWay) × (run : AttachRun) × IsGoing clients actor client under
      × (under.work ≡ work.Attach run)

-- ---- with one

-- The commit under way, if there is one, is a client's work.
abbrev pub IsTheirs : List Client → Option CommitRun → Type 0
IsTheirs clients None = (index : ℕ) (client : Client) (under : UnderWay) → IsGoing clients index client under
    → MakesCommit under.work → ⊥
IsTheirs clients (Some run) = (index : ℕ) × (client : Client) × (under : UnderWay)
    × IsGoing clients index client under × (commit_in under.work ≡ Some run)

-- The group begun makes the map of the time when its work began, and may begin an expansion where this holds.
abbrev pub HasBegun : World → List Item → GroupItem → List Kept → ℕ → Type 0 → Type 0
HasBegun world items item begun at attached =
    (next : Kept) × (begun ≡ next ∷ []) × IsBegunAt world items item at attached next

-- So it is of an attach that makes a commit. Its group may begin an expansion.
abbrev pub HasBegunIn : World → List Item → GroupItem → List Kept → ℕ → Option CommitRun → Type 0
HasBegunIn world items item begun at None = ⊤
HasBegunIn world items item begun at (Some run) =
    HasBegun world items item begun at (AwaitsAttach world.calls items at)

-- So it is of each work that makes a commit. The group of a sync or of a copy begins no expansion.
abbrev pub HasBegunBy : World → List Item → GroupItem → List Kept → ℕ → Work → Type 0
HasBegunBy world items item begun at (work.Put run) = ⊤
HasBegunBy world items item begun at (work.Read run) = ⊤
HasBegunBy world items item begun at (work.Sync run) = HasBegun world items item begun at ⊥
HasBegunBy world items item begun at (work.Attach run) = HasBegunIn world items item begun at (attach_commit run)
HasBegunBy world items item begun at (work.Copy (Commits run)) = HasBegun world items item begun at ⊥
HasBegunBy world items item begun at (work.Copy round) = ⊤

-- A put has the bytes that the script hands it, a read the block that its id had when the read began.
abbrev pub HasContent : World → List Item → ScriptCall → ℕ → List ℕ → Work → Type 0
HasContent world items call at content (work.Put run) = content ≡ fill_bytes call.fill
HasContent world items call at content (work.Read run) =
    map_after world.handed world.opening items at run.entry.id ≡ Some content
HasContent world items call at content (work.Sync run) = ⊤
HasContent world items call at content (work.Attach run) = ⊤
HasContent world items call at content (work.Copy round) = ⊤

-- A client's call under way began after some items, those of its own calls before it.
pub record IsClient (world : World) (script : Script) (items : List Item) (item : GroupItem) (begun : List Kept)
    (bytes : List ℕ) (index : ℕ) (client : Client) (under : UnderWay) : Type 0 where
  pub at : (1 ≤ under.at) × (under.at ≤ length items)
  pub after : (place : ℕ) (entry : Entry) → CallAt items place entry → entry.caller ≡ index → place < under.at
  pub group : HasBegunBy world items item begun under.at under.work
  pub content : (call : ScriptCall) → slice_get (calls_of script index) (client.begun - 1) ≡ Some call
      → HasContent world items call under.at bytes under.work

-- Each call under way is what its client has come to.
abbrev pub ClientsAreGoing : World → Script → List Item → GroupItem → List Kept → (ℕ → List ℕ) → List Client → Type 0
ClientsAreGoing world script items item begun contents clients = (index : ℕ) (client : Client) (under : UnderWay)
    → IsGoing clients index client under → IsClient world script items item begun (contents index) index client under

-- What is known of each attach under way is so.
abbrev pub HoldAttaches : Setting → Kept → List Kept → Disk → List Client → Type 0
HoldAttaches setting last begun disk clients = (index : ℕ) (client : Client) (under : UnderWay) (run : AttachRun)
    → IsGoing clients index client under → under.work ≡ work.Attach run → HoldsAttach setting last begun disk run

-- After these items the journal is right, the core stands with the clients' calls under way and holds the
-- journal's map, in a pool that reaches so far by now; and each image since the bank was the first one keeps groups of
-- the run in a row, none older than the last one listed by then. Of a group whose commit is in its first half no image
-- shows anything. What is known of an attach under way is so.
pub record Runs (world : World) (script : Script) (past : Past) (state : CoreState) (items : List Item)
    (clients : List Client) : Type 0 where
  pub last : Kept
  pub begun : List Kept
  pub contents : ℕ → List ℕ
  pub commit : Option CommitRun
  pub item : GroupItem
  pub reach : ℕ
  pub recorded : Recorded world past items item last (shown_of begun commit) state.disk
  pub stands : Stands (record world.setting { reach = reach }) last begun
      (map_of world.handed world.opening items) undamaged contents (calls_under_way clients) commit state
  pub theirs : IsTheirs clients commit
  pub each : ClientsAreGoing world script items item begun contents clients
  pub attaches : HoldAttaches (record world.setting { reach = reach }) last begun state.disk clients

-- the setting of what stands: the pool reaches as far as it does by now
abbrev pub setting_now : {world : World} {script : Script} {past : Past} {state : CoreState} {items : List Item}
    {clients : List Client} → Runs world script past state items clients → Setting
setting_now {world = world} runs = record world.setting { reach = runs.reach }
