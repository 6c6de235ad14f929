-- What a run of turns keeps, from the opening of its pool to its end.
use Rattle.std.specs.Prelude.{◌≡◌, ◌≢◌, ℕ, ◌+◌, ◌<◌, ◌≤◌, List, [], ◌∷◌, ◌++◌, All, Contains}
use Rattle.bank_trait.specs.Disk.{Image, Disk, Later}
use Rattle.bank_trait.specs.Regions.{TouchesOnly}
use Rattle.uberblock_ring.specs.Devices.{count_of, IsWithin}
use Rattle.core_state.specs.declared.answer.Answer.TheVariants as answer
use Rattle.core_state.specs.declared.item.Entry.{Entry}
use Rattle.core_state.specs.declared.item.Group.{Group as GroupItem}
use Rattle.core_state.specs.declared.item.Item.{Item}
use Rattle.core_state.specs.declared.item.Item.TheVariants.{Group}
use Rattle.core_state.specs.Legal.{GroupAt, CallAt}
use Rattle.core_state.specs.Journal.{CallsAreRight, IsLegalJournal}
use Rattle.core_state.specs.Keeps.{HaveParity, Kept, Setting}
use Rattle.core_state.specs.Moment.{KeepsThroughout}
use Rattle.core_open.specs.Causes.{IsChoiceWithout, AreOutIn}
use Rattle.core_open.specs.Failing.{HaveFailed}
use Rattle.core_open.specs.Holds.{HoldsImage, shape_of}
use Rattle.core_open.specs.Opens.{IsWithinBelow, RenewsChoice, WritesInOrder}
use Rattle.core_open.specs.Regions.{IsOnBelow}
use Rattle.client_script.specs.Script.{Script, asked_by, handed_by}
use Rattle.core_open.specs.Opening.{MayBegin}
use Rattle.core_turns.specs.Core.{CoreState, HasBankOf}
use Rattle.journal_law.specs.Caused.{HasTooManyIds}
use Rattle.journal_law.specs.Moments.{KeepsLast}
use Rattle.journal_law.specs.NoSpace.{NoSpaceIsCaused}
use Rattle.journal_law.specs.FirstGroup.{BeginsAfter}
use Rattle.core_open.specs.Pool.{first_item}
use Rattle.schedule.specs.declared.whole_run.Ran.{Ran}
use Rattle.schedule.specs.Caused.{AnswersAreCaused}
use Rattle.schedule.specs.Coming.{AttachesNone}
use Rattle.schedule.specs.Digests.{ReadsAreKnown}
use Rattle.schedule.specs.Dropping.{IsDropCause}
use Rattle.schedule.specs.Fitting.{FitsCall}
use Rattle.schedule.specs.InTurn.{Cursor, HaveTaken, InOrder, replay_at}
use Rattle.schedule.specs.Moments.{KeepsTurnByTurn}
use Rattle.schedule.specs.Numbered.{GroupsAreNumbered}
use Rattle.schedule.specs.OfLines.{FollowsLines}
use Rattle.schedule.specs.Playing.{EndsAs}
use Rattle.schedule.specs.Replaying.{IsAtRest, blank_clients}
use Rattle.schedule.specs.Turns.{Turns, TurnTaken, bank_when, last_left, turns_of}

-- A run began with this group: one of those that the bank kept, which the devices choose but for the silent ones, and
-- the journal's first group is the one after it.
pub record RunOrigin (first : Kept) (later : List Kept) (old : Disk) (items : List Item) (silent : ℕ) (chosen : Kept)
    : Type 0 where
  pub known : Contains (first ∷ later) chosen
  pub choice : (image : Image) → HoldsImage old image
      → (shown : IsChoiceWithout (shape_of old) silent image) × (shown.uber.group ≡ chosen.uber.group)
  pub begins : BeginsAfter chosen items

-- The journal is legal from that group's map on. No read is told as damaged. Answers have the cause that the journal
-- tells and the bank; one says `Full` where the map and the script have more ids than a table has room for, and one
-- says `NoSpace` where the group's index and the script have too many blocks.
pub record JournalIsTrue (script : Script) (chosen : Kept) (items : List Item) (banks : ℕ → Disk) : Type 0 where
  pub legal : IsLegalJournal (asked_by script) (handed_by script) chosen.map items
  pub sound : (index : ℕ) (entry : Entry) → CallAt items index entry → entry.answer ≢ answer.Damaged
  pub caused : AnswersAreCaused items banks
  pub full : (index : ℕ) (entry : Entry) → CallAt items index entry → entry.answer ≡ answer.Full
      → HasTooManyIds script chosen.map
  pub no_space : NoSpaceIsCaused script chosen.uber chosen.entries items

-- What the bank keeps at the end are some of a run's groups. All of these have the parity of the first one, and that is
-- the run's.
pub record AreGroupsOf (groups : List Kept) (first : Kept) (at_end : List Kept) (parity : ℕ) : Type 0 where
  pub kept_among : (group : Kept) → Contains at_end group → Contains groups group
  pub parities : HaveParity first.uber.parity groups
  pub parity_is : first.uber.parity ≡ parity

-- Whatever a stop leaves, at any moment of the run, keeps some of the groups in a row: those kept before, the
-- journal's, and at most one that was begun after them; and none older than the last one listed by then. At its end
-- that is the journal's last one.
pub record RunKeeps (script : Script) (setting : Setting) (first : Kept) (later : List Kept) (old new : Disk)
    (items : List Item) (parity silent : ℕ) (banks : ℕ → Disk) : Type 0 where
  pub chosen : Kept
  pub origin : RunOrigin first later old items silent chosen
  pub journal : JournalIsTrue script chosen items banks
  pub any_moment : KeepsThroughout setting (asked_by script) (handed_by script) chosen.map (first ∷ later) items old new
  pub no_older : KeepsTurnByTurn setting (asked_by script) (handed_by script) chosen.map (first ∷ later) items
      (record { origin = old; banks = banks }) new
  pub kept : KeepsLast setting (asked_by script) (handed_by script) chosen.map items new
  pub groups : AreGroupsOf ((first ∷ later) ++ any_moment.groups.answered ++ any_moment.groups.begun) first
      (kept.last ∷ kept.begun) parity

-- what the turns of a run begin with: a core, the journal of the opening's group, and clients that have begun no call
abbrev pub first_turns : Script → CoreState → GroupItem → Turns
first_turns script start opened = turns_of start (Group opened ∷ []) (blank_clients script.clients)

-- The opening left a core at rest, of the pool that it opened, and listed the pool's group first.
pub record OpeningLeft (old : Disk) (items : List Item) (opened : GroupItem) (start : CoreState) : Type 0 where
  pub there : GroupAt items 0 opened
  pub opened_is : opened ≡ first_item start.core.pool
  pub rest : IsAtRest start.core
  pub bank : HasBankOf start.core start.disk
  pub later : Later old start.disk

-- Each device that was silent when the pool was looked for has failed by the end of the opening. But for those the
-- devices choose the group that the opening renews. The opening wrote copies of that group, and nothing else until the
-- uberblock that renews it.
pub record OpeningRenews (old : Disk) (start : CoreState) (silent : ℕ) : Type 0 where
  pub failed : HaveFailed old start.disk silent
  pub renews : (image : Image) → HoldsImage old image
      → RenewsChoice (shape_of old) silent image start.core.pool.uber start.core.pool.blocks.table.entries
  pub writes : WritesInOrder old start.disk silent start.core.pool.uber

-- These turns were taken from there, and came to this journal and this bank.
pub record TurnsCameTo (script : Script) (first : Turns) (passed : List TurnTaken) (items : List Item) (new : Disk)
    : Type 0 where
  pub taken : HaveTaken script first passed
  pub onward : Later first.state.disk new
  pub items_are : (last_left first passed).items ≡ items
  pub disk_is : (last_left first passed).state.disk ≡ new

-- Each device that is out at the end was out in the pool that was opened, or failed in the run. No device is touched
-- but those of the pool, as far as it reaches in the end, and the one behind them, which an attach may have laid a
-- group without its joining; where no call of the script is an attach, but those of the pool that was opened.
pub record DevicesAreSpared (script : Script) (old new : Disk) (silent to parity out reach : ℕ) : Type 0 where
  pub each : (image : Image) → HoldsImage old image → AreOutIn old new silent to parity out image
  pub only : TouchesOnly (IsOnBelow (reach + 1)) old new
  pub same : AttachesNone script → TouchesOnly (IsOnBelow to) old new

-- The calls that were answered are the script's, those of each client in its order, and each answer fits its call. The
-- groups are numbered one after the other. The calls of an only client follow the lines of the script.
pub record AnswersCalls (script : Script) (old new : Disk) (items : List Item) (parity out : ℕ) : Type 0 where
  pub calls : CallsAreRight (asked_by script) items
  pub fits : (index : ℕ) (entry : Entry) → CallAt items index entry
      → FitsCall parity old.devices out (IsDropCause old new out) entry
  pub numbers : GroupsAreNumbered items
  pub lines : script.clients ≤ 1 → All (λ placed. placed.actor < script.clients) script.calls
      → FollowsLines script items

-- These devices have to be borne: no more than there are parities, of those that are out at the end; with the silent
-- ones of the pool, and those that the opening's group lists as out.
pub record AreToBeBorne (borne silent to out_first parity out : ℕ) : Type 0 where
  pub few : count_of borne ≤ parity
  pub within : IsWithin borne out
  pub missed : IsWithinBelow to silent borne
  pub listed : IsWithin out_first borne

-- A script's calls were carried out on the pool that the devices showed, whoever's turns they were.
pub record HasRun (script : Script) (old new : Disk) (items : List Item) (out : ℕ) : Type 0 where
  -- the group that the journal begins with, and what the opening left
  pub opened : GroupItem
  pub start : CoreState
  pub opens : OpeningLeft old items opened start
  -- the devices that were silent when the pool was looked for
  pub silent : ℕ
  pub opening : OpeningRenews old start silent
  -- the turns that were taken
  pub passed : List TurnTaken
  pub turns : TurnsCameTo script (first_turns script start opened) passed items new
  -- how many devices may be out without a loss
  pub parity : ℕ
  pub devices : DevicesAreSpared script old new silent opened.to parity out
      (last_left (first_turns script start opened) passed).state.core.reach
  pub answers : AnswersCalls script old new items parity out
  -- whatever the devices hold
  pub reads : ReadsAreKnown script start.core.pool.blocks.table.entries items
  -- the devices whose failure has to be borne
  pub borne : ℕ
  pub bears : AreToBeBorne borne silent opened.to start.core.pool.uber.out parity out
  -- Where these may fail, and those that were silent of the first group's devices, all that a run keeps is kept. An
  -- item was listed with the bank as its turn left it.
  pub keeps : (setting : Setting) (first : Kept) (later : List Kept) → MayBegin setting first later old
      → IsWithinBelow first.uber.reflow.to silent setting.failed → IsWithin borne setting.failed
      → RunKeeps script setting first later old new items parity silent
      (bank_when (first_turns script start opened) passed)

-- the banks with which the items of a run were listed, by how many there were then
abbrev pub banks_of : {script : Script} → {old new : Disk} → {items : List Item} → {out : ℕ}
    → HasRun script old new items out → ℕ → Disk
banks_of {script = script} run = bank_when (first_turns script run.start run.opened) run.passed

-- The turns of a run were those of the clients whose turn it was, first those that were listed, as many as are told,
-- and they ended as is told.
pub record HasTakenTurns (script : Script) (listed : List ℕ) {old new : Disk} {items : List Item} {out : ℕ}
    (run : HasRun script old new items out) (ran : Ran) : Type 0 where
  pub now : Turns
  pub cursor : Cursor
  pub ends : EndsAs script (replay_at (first_turns script run.start run.opened) 0 (InOrder listed)) run.passed
      (replay_at now ran.turns cursor) ran.ended

-- A script was carried out on the pool that the devices showed, and the turns were those of the list and then the
-- script's.
pub record HasRunInTurn (script : Script) (listed : List ℕ) (old new : Disk) (items : List Item) (ran : Ran) : Type 0
  where
    pub run : HasRun script old new items ran.out
    pub turns : HasTakenTurns script listed run ran
