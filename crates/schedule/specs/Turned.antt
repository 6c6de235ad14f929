-- What one turn of a client does.
use Rattle.std.specs.Prelude.{◌≡◌, ◌⊎◌, ℕ, ◌+◌, ◌-◌, ◌<◌, ◌≤◌, List, [], ◌∷◌, ◌++◌, length, Option, Some, None}
use Rattle.std.specs.Prelude.{slice_get, ⊤}
use Rattle.bank_trait.specs.Disk.{Disk, Unchanged}
use Rattle.reflow_mark.specs.declared.reflow.Reflow.{Reflow}
use Rattle.row_layout.specs.Layout.{rows_of}
use Rattle.core_state.specs.declared.answer.Answer.{Answer}
use Rattle.core_state.specs.declared.answer.Answer.TheVariants as answer
use Rattle.core_state.specs.declared.answer.Kind.{Kind}
use Rattle.core_state.specs.declared.answer.Kind.TheVariants as kind
use Rattle.core_state.specs.declared.item.Entry.{Entry}
use Rattle.core_state.specs.declared.item.Group.{Group as GroupItem}
use Rattle.core_state.specs.declared.item.Item.{Item}
use Rattle.core_state.specs.declared.item.Item.TheVariants.{Group, Call}
use Rattle.core_state.specs.Legal.{CallAt}
use Rattle.core_blocks.specs.declared.range.PutRange.{PutRange}
use Rattle.core_blocks.specs.Blocks.{AreUnderWay, IsUnderWay}
use Rattle.core_blocks.specs.Kept.{NoneFree}
use Rattle.block_record.specs.declared.entry.IndexEntry.{IndexEntry}
use Rattle.block_table.specs.Table.{IsTable}
use Rattle.core_client.specs.BlockTurns.{IsAtColumn}
use Rattle.client_script.specs.declared.call.ScriptCall.{ScriptCall}
use Rattle.client_script.specs.Lines.{fill_bytes}
use Rattle.core_turns.specs.declared.getting.GetRun.{GetRun}
use Rattle.core_turns.specs.declared.filling.Filled.{Filled}
use Rattle.core_turns.specs.declared.putting.PutRun.{PutRun}
use Rattle.core_turns.specs.declared.turn.Turn.{Turn}
use Rattle.core_turns.specs.declared.turn.Turn.TheVariants.{More, Busy, Done}
use Rattle.core_turns.specs.Core.{Core, CoreState, HasBankOf, IsCore, at_disk}
use Rattle.core_turns.specs.Getting.{IsReadKind, IsGetOf, BeginsGet, ReadsTurn, SolvesGet, EndsGet}
use Rattle.core_turns.specs.Freeing.{FreesBlock}
use Rattle.core_turns.specs.Putting.{IsPutOf, BeginsPutTurn, FillsPut, WritesTurn, EndsPut, GivesUpTurn}
use Rattle.core_turns.specs.Committing.{IsCommitOf, BeginsCommit, StepsCommit}
use Rattle.core_turns.specs.Attaching.{AttachGoesOn, BeginsAttach, HasNewDevice, IsAttachRunOf, StepsAttach}
use Rattle.core_turns.specs.declared.rounds.CopyRound.{CopyRound}
use Rattle.core_turns.specs.declared.rounds.CopyRound.TheVariants.{Rests}
use Rattle.core_turns.specs.Rounds.{BeginsRound, IsRoundOf, StepsCopy}
use Rattle.core_turns.specs.UnderWay.{TurnGoesOn}
use Rattle.journal_law.specs.Points.{point_after}
use Rattle.schedule.specs.declared.client.Client.{Client}
use Rattle.schedule.specs.declared.client.UnderWay.{UnderWay}
use Rattle.schedule.specs.declared.client.Work.{Work}
use Rattle.schedule.specs.declared.client.Work.TheVariants as work
use Rattle.schedule.specs.Works.{begun_at, commit_in, made_by, made_in}

-- ---- first turns

-- A free took a block away; puts under way stay so, and no sector of a block that a group up to now keeps is free.
pub record Frees (old new : Core) (id : ℕ) (given : Answer) : Type 0 where
  pub frees : FreesBlock old new id given
  pub under : (ranges : List PutRange) → AreUnderWay old.pool.blocks ranges → AreUnderWay new.pool.blocks ranges
  pub kept : (past : ℕ) (kept : List IndexEntry) → past < old.begun + 1 → NoneFree old.pool.blocks past kept
      → NoneFree new.pool.blocks past kept

-- what a call that is answered in its first turn comes to
abbrev pub AnswersAtOnce : Core → Core → ℕ → ℕ → ScriptCall → Kind → Option ℕ → Answer → Type 0
AnswersAtOnce old new devices actor call kind.Put (Some id) given =
    BeginsPutTurn old new actor id (length (fill_bytes call.fill)) (Done given)
AnswersAtOnce old new devices actor call kind.Get (Some id) given = BeginsGet old new actor kind.Get id (Done given)
AnswersAtOnce old new devices actor call kind.Sum (Some id) given = BeginsGet old new actor kind.Sum id (Done given)
AnswersAtOnce old new devices actor call kind.Free (Some id) given = Frees old new id given
AnswersAtOnce old new devices actor call kind.Sync None given = BeginsCommit old new actor (Done given)
AnswersAtOnce old new devices actor call kind.Attach None given = BeginsAttach old new devices actor (Done given)
AnswersAtOnce old new devices actor call kind.Copy None given = BeginsRound old new actor (Done given)
AnswersAtOnce old new devices actor call asked id given = ⊥

-- what a call that finds another's in its way comes to
abbrev pub Waits : Core → Core → ℕ → ℕ → ScriptCall → Kind → Option ℕ → ℕ → Type 0
Waits old new devices actor call kind.Put (Some id) by =
    BeginsPutTurn old new actor id (length (fill_bytes call.fill)) (Busy by)
Waits old new devices actor call kind.Get (Some id) by = BeginsGet old new actor kind.Get id (Busy by)
Waits old new devices actor call kind.Sum (Some id) by = BeginsGet old new actor kind.Sum id (Busy by)
Waits old new devices actor call kind.Sync None by = BeginsCommit old new actor (Busy by)
Waits old new devices actor call kind.Attach None by = BeginsAttach old new devices actor (Busy by)
Waits old new devices actor call kind.Copy None by = BeginsRound old new actor (Busy by)
Waits old new devices actor call asked id by = ⊥

-- what a call that goes on comes to
abbrev pub BeginsWork : Core → Core → ℕ → ℕ → ScriptCall → Kind → Option ℕ → Work → Type 0
BeginsWork old new devices actor call kind.Put (Some id) (work.Put run) =
    BeginsPutTurn old new actor id (length (fill_bytes call.fill)) (More run)
BeginsWork old new devices actor call kind.Get (Some id) (work.Read run) =
    BeginsGet old new actor kind.Get id (More run)
BeginsWork old new devices actor call kind.Sum (Some id) (work.Read run) =
    BeginsGet old new actor kind.Sum id (More run)
BeginsWork old new devices actor call kind.Sync None (work.Sync run) = BeginsCommit old new actor (More run)
BeginsWork old new devices actor call kind.Attach None (work.Attach run) =
    BeginsAttach old new devices actor (More run)
BeginsWork old new devices actor call kind.Copy None (work.Copy round) = BeginsRound old new actor (More round)
BeginsWork old new devices actor call asked id does = ⊥

abbrev pub BeginsCall : Core → Core → ℕ → ℕ → ScriptCall → Turn Work → Type 0
BeginsCall old new devices actor call (More does) = BeginsWork old new devices actor call call.kind call.id does
BeginsCall old new devices actor call (Busy by) = Waits old new devices actor call call.kind call.id by
BeginsCall old new devices actor call (Done given) = AnswersAtOnce old new devices actor call call.kind call.id given

-- The blocks of a commit that begins are those of a table.
abbrev pub HasTableOf : Core → Turn Work → Type 0
HasTableOf core (More (work.Sync run)) = IsTable core.pool.blocks.table
HasTableOf core other = ⊤

-- ---- later turns

-- A put's block was filled in before, or is now.
abbrev pub IsFilledIn : ScriptCall → PutRun → PutRun → Type 0
IsFilledIn call run filled = (filled ≡ run) ⊎ ((run.filled ≡ None) × FillsPut run filled (fill_bytes call.fill))

-- A put goes on, once it is filled in, or is given up where there is no memory for that.
pub record GoesOnPutting (before after : CoreState) (call : ScriptCall) (run next : PutRun) : Type 0 where
  pub filled : PutRun
  pub fills : IsFilledIn call run filled
  pub writes : WritesTurn before filled after (More next)

-- how it ends: by a write that finds too many devices out, by its last turn, or given up
pub record EndsPutting (before after : CoreState) (call : ScriptCall) (run : PutRun) (given : Answer) : Type 0 where
  pub filled : PutRun
  pub fills : IsFilledIn call run filled
  pub disk : after.disk ≡ before.disk
  pub ends : WritesTurn before filled after (Done given)
      ⊎ (((all : Filled) × (filled.filled ≡ Some all) × (all.write.next ≡ length all.write.writes)
      × EndsPut before.core filled after.core (Done given))
      ⊎ ((run.filled ≡ None) × (filled ≡ run) × GivesUpTurn before.core run after.core (Done given)))

abbrev pub PutGoesOn : CoreState → CoreState → ScriptCall → PutRun → Turn PutRun → Type 0
PutGoesOn before after call run (More next) = GoesOnPutting before after call run next
PutGoesOn before after call run (Busy by) = ⊥
PutGoesOn before after call run (Done given) = EndsPutting before after call run given

-- what the next turn of a put that is filled in comes to: a write, or its last turn, which calls no device
abbrev pub WritesOn : CoreState → PutRun → CoreState → Turn PutRun → Type 0
WritesOn before run after turn = WritesTurn before run after turn
    ⊎ ((after.disk ≡ before.disk) × ((all : Filled) × (run.filled ≡ Some all)
    × (all.write.next ≡ length all.write.writes) × EndsPut before.core run after.core turn))

-- A read has one column more, or passed over it.
pub record GoesOnReading (before after : CoreState) (run next : GetRun) : Type 0 where
  pub left : run.read.row < rows_of run.read.layout
  pub place : IsAtColumn run.read
  pub reads : ReadsTurn before run after (More next)
  pub unchanged : Unchanged before.disk after.disk

-- how it ends: by a column that finds too many devices out, or by its last turn, solved where memory was there
pub record EndsReading (before after : CoreState) (run : GetRun) (given : Answer) : Type 0 where
  pub disk : after.disk ≡ before.disk
  pub ends : ReadsTurn before run after (Done given)
      ⊎ ((solved : GetRun) × ((solved ≡ run) ⊎ SolvesGet run solved)
      × (run.read.row ≡ rows_of run.read.layout) × EndsGet before.core solved after.core (Done given))

abbrev pub ReadGoesOn : CoreState → CoreState → GetRun → Turn GetRun → Type 0
ReadGoesOn before after run (More next) = GoesOnReading before after run next
ReadGoesOn before after run (Busy by) = ⊥
ReadGoesOn before after run (Done given) = EndsReading before after run given

-- The journal has no room for another group of a copy, so it ends. Nothing was done.
abbrev pub LacksRoom : CopyRound → CoreState → CoreState → Answer → Type 0
LacksRoom (Rests actor (Some group)) before after given = (given ≡ answer.NoMemory) × (after ≡ before)
LacksRoom round before after given = ⊥

abbrev pub GoesOnBy : CoreState → CoreState → ScriptCall → Work → Turn Work → Type 0
GoesOnBy before after call (work.Put run) (More (work.Put next)) = GoesOnPutting before after call run next
GoesOnBy before after call (work.Read run) (More (work.Read next)) = GoesOnReading before after run next
GoesOnBy before after call (work.Sync run) (More (work.Sync next)) = StepsCommit before run after (More next)
GoesOnBy before after call (work.Attach run) (More (work.Attach next)) = StepsAttach before run after (More next)
    × IsAttachRunOf after.core next
GoesOnBy before after call (work.Copy round) (More (work.Copy next)) = StepsCopy before round after (More next)
    × IsRoundOf after.core next
GoesOnBy before after call (work.Put run) (Done given) = EndsPutting before after call run given
GoesOnBy before after call (work.Read run) (Done given) = EndsReading before after run given
GoesOnBy before after call (work.Sync run) (Done given) = StepsCommit before run after (Done given)
GoesOnBy before after call (work.Attach run) (Done given) = StepsAttach before run after (Done given)
GoesOnBy before after call (work.Copy round) (Done given) = StepsCopy before round after (Done given)
    ⊎ LacksRoom round before after given
GoesOnBy before after call does turn = ⊥

-- ---- what is listed

-- the entry of a call of this number, which began after so many items
abbrev pub entry_for : ScriptCall → ℕ → ℕ → ℕ → Answer → Entry
entry_for call actor number at given = record {
  caller = actor;
  call = number;
  kind = call.kind;
  id = call.id;
  at = point_after call.kind at given;
  answer = given;
}

-- the item of a group of these widths whose commit began after so many items
abbrev pub group_with : Reflow → ℕ → ℕ → GroupItem
group_with widths at number = record { group = number; after = at; from = widths.from; to = widths.to }

-- of the widths that its answer left in the core
abbrev pub group_for : Core → ℕ → ℕ → GroupItem
group_for core at number = group_with core.pool.uber.reflow at number

-- the group that comes with an answer, if one does: an attach that is refused may have made one, or not
abbrev pub group_by : Answer → Option ℕ → Option ℕ
group_by (answer.Synced number) made = Some number
group_by (answer.Attached width number) made = Some number
group_by (answer.NewDeviceFailed device) made = made
group_by (answer.DeviceOut device) made = made
group_by given made = None

-- the journal with an answer, and before it the group that the call made
abbrev pub listed_of : Reflow → List Item → ℕ → Entry → Option ℕ → List Item
listed_of widths items at entry None = items ++ Call entry ∷ []
listed_of widths items at entry (Some number) =
    (items ++ Group (group_with widths at number) ∷ []) ++ Call entry ∷ []

abbrev pub listed_with : Reflow → List Item → ℕ → Entry → Option ℕ → Answer → List Item
listed_with widths items at entry made given = listed_of widths items at entry (group_by given made)

abbrev pub listed_for : Core → List Item → ℕ → Entry → Option ℕ → Answer → List Item
listed_for core items at entry made given = listed_with core.pool.uber.reflow items at entry made given

-- the journal with the group that a call made which goes on, where it made one
abbrev pub listed_on : Reflow → List Item → ℕ → Option ℕ → List Item
listed_on widths items at None = items
listed_on widths items at (Some number) = items ++ Group (group_with widths at number) ∷ []

-- No call that a journal tells more of was answered so.
abbrev pub AnswersNoneWith : Answer → List Item → List Item → Type 0
AnswersNoneWith given old new =
    (index : ℕ) (entry : Entry) → length old ≤ index → CallAt new index entry → entry.answer ≡ given → ⊥

-- ---- a turn

-- the core with its disk, the journal's items, and what a client has come to
pub record TurnState : Type 0 where
  pub state : CoreState
  pub items : List Item
  pub client : Client

abbrev pub turn_state : Core → Disk → List Item → Client → TurnState
turn_state core disk items client = record { state = at_disk core disk; items = items; client = client }

-- The client's next call begins, waits, or is answered at once.
pub record BeginsNext (calls : List ScriptCall) (actor : ℕ) (before after : TurnState) (turn : Turn Work) : Type 0 where
  pub idle : before.client.under_way ≡ None
  pub call : ScriptCall
  pub next : slice_get calls before.client.begun ≡ Some call
  pub did : BeginsCall before.state.core after.state.core before.state.disk.devices actor call turn
  pub table : HasTableOf before.state.core turn
  pub disk : after.state.disk ≡ before.state.disk

-- what a turn of a work does, whatever it comes to
abbrev pub WorkGoesOn : Work → CoreState → CoreState → Type 0
WorkGoesOn (work.Attach run) before after = AttachGoesOn before after × (HasBankOf before.core before.disk
    → HasBankOf after.core after.disk)
WorkGoesOn other before after = TurnGoesOn before after

-- The client's call under way goes on, or is answered.
pub record CallGoesOn (calls : List ScriptCall) (before after : TurnState) (under : UnderWay) (turn : Turn Work)
    : Type 0 where
  pub going : before.client.under_way ≡ Some under
  pub call : ScriptCall
  pub is : slice_get calls (before.client.begun - 1) ≡ Some call
  pub did : GoesOnBy before.state after.state call under.work turn
  pub goes : WorkGoesOn under.work before.state after.state
  pub core : IsCore after.state.core

-- what the client is then, and what the journal has
abbrev pub LeavesBegun : ℕ → ScriptCall → TurnState → TurnState → Turn Work → Type 0
LeavesBegun actor call before after (More does) = (after.items ≡ before.items)
    × (after.client ≡ record {
      begun = before.client.begun + 1;
      under_way = Some (record { at = length before.items; work = does });
    })
LeavesBegun actor call before after (Busy by) = (after.items ≡ before.items) × (after.client ≡ before.client)
LeavesBegun actor call before after (Done given) =
    (after.items ≡ before.items
    ++ Call (entry_for call actor (before.client.begun + 1) (length before.items) given) ∷ [])
    × (after.client ≡ record { begun = before.client.begun + 1; under_way = None })

-- a call under way once a turn has left it with this work, when the journal had so many items: its group began then,
-- where its commit begins in that turn
abbrev pub gone_on : UnderWay → ℕ → Work → UnderWay
gone_on under now does = record {
  at = begun_at (commit_in does) (commit_in under.work) under.at now;
  work = does;
}

abbrev pub LeavesGoing : ℕ → ScriptCall → TurnState → TurnState → UnderWay → Turn Work → Type 0
LeavesGoing actor call before after under (More does) = (after.items ≡ listed_on after.state.core.pool.uber.reflow
    before.items (gone_on under (length before.items) does).at (made_in does))
    × (after.client ≡ record {
      begun = before.client.begun;
      under_way = Some (gone_on under (length before.items) does);
    })
LeavesGoing actor call before after under (Busy by) = ⊥
LeavesGoing actor call before after under (Done given) =
    (after.items ≡ listed_for after.state.core before.items under.at
    (entry_for call actor before.client.begun under.at given) (made_by under.work) given)
    × (after.client ≡ record { begun = before.client.begun; under_way = None })

-- a turn of a client: of its next call, or of its call under way
pub data Turned (calls : List ScriptCall) (actor : ℕ) (before after : TurnState) : Type 0 where
  Began : (turn : Turn Work) (begins : BeginsNext calls actor before after turn)
      → LeavesBegun actor begins.call before after turn → Turned calls actor before after
  Went : (under : UnderWay) (turn : Turn Work) (goes : CallGoesOn calls before after under turn)
      → LeavesGoing actor goes.call before after under turn → Turned calls actor before after

-- ---- what a turn asks for

-- The call under way is one of this core, and what the script asks for.
abbrev pub MayGoOn : Core → ScriptCall → Work → Type 0
MayGoOn core call (work.Put run) = IsPutOf core run × IsUnderWay core.pool.blocks run.range
    × (length (fill_bytes call.fill) ≡ run.len)
MayGoOn core call (work.Read run) = IsReadKind run.kind × IsGetOf core run
MayGoOn core call (work.Sync run) = IsCommitOf core run
MayGoOn core call (work.Attach run) = IsAttachRunOf core run
MayGoOn core call (work.Copy round) = IsRoundOf core round

-- The bank has the device that an attach is to bring.
abbrev pub HasDeviceFor : Disk → Work → Type 0
HasDeviceFor disk (work.Attach run) = HasNewDevice disk run
HasDeviceFor disk other = ⊤

abbrev pub HasDeviceForTurn : Disk → Turn Work → Type 0
HasDeviceForTurn disk (More does) = HasDeviceFor disk does
HasDeviceForTurn disk other = ⊤

abbrev pub HasDeviceUnder : Disk → Option UnderWay → Type 0
HasDeviceUnder disk None = ⊤
HasDeviceUnder disk (Some under) = HasDeviceFor disk under.work
