-- How a run or a replay ends: its script is read, its pool opened, its calls answered, its text written.
use Rattle.std.specs.Prelude.{◌≡◌, ◌⊎◌, ℕ, ◌<◌, ◌≤◌, List, [], ◌++◌, length, Some, All, Result, Ok, Err}
use Rattle.bank_trait.specs.Causes.{FaultCounted}
use Rattle.bank_trait.specs.Disk.{Disk, Unchanged}
use Rattle.core_state.specs.declared.answer.Answer.{Answer}
use Rattle.core_state.specs.declared.answer.Answer.TheVariants as answer
use Rattle.core_state.specs.declared.item.Entry.{Entry}
use Rattle.core_state.specs.declared.item.Item.{Item}
use Rattle.core_state.specs.declared.item.Item.TheVariants.{Group, Call as CallItem}
use Rattle.core_state.specs.Journal.{IsComplete}
use Rattle.core_state.specs.Legal.{CallAt}
use Rattle.core_open.specs.Causes.{IsOpenCause}
use Rattle.core_open.specs.Opens.{IsForMemory, LeavesOthers}
use Rattle.core_open.specs.declared.why.OpenWhy.{OpenWhy}
use Rattle.core_open.specs.Opening.{CutsOpening, LeavesUnopened}
use Rattle.client_script.specs.FromSource.{IsToldWell, IsNotReadFor}
use Rattle.client_script.specs.Script.{Script, IsAllowed, IsScript, IsOverLimit, IsFaultAt, asked_by}
use Rattle.client_script.specs.Texts.{journal_text}
use Rattle.client_script.specs.Written.{IsAdded, IsPartAdded}
use Rattle.client_script.specs.declared.line_fault.LineFault.{LineFault}
use Rattle.client_script.specs.declared.refused.ReadRefused.{ReadRefused}
use Rattle.client_script.specs.declared.refused.ReadRefused.TheVariants as read
use Rattle.schedule.specs.Turns.{most_turns}
use Rattle.schedule.specs.WholeRun.{HasRun, HasTakenTurns}
use Rattle.schedule.specs.declared.whole_run.Ended.TheVariants as ended
use Rattle.schedule.specs.declared.whole_run.Ran.{Ran}
use Rattle.raidzx_top.specs.declared.order.Order.{Order}
use Rattle.raidzx_top.specs.declared.running.Trouble.{Trouble}
use Rattle.raidzx_top.specs.declared.running.Trouble.TheVariants as trouble
use Rattle.raidzx_top.specs.declared.status.Status.{Status}
use Rattle.raidzx_top.specs.declared.status.Status.TheVariants as status
use Rattle.raidzx_top.specs.Call.{Stream}
use Rattle.raidzx_top.specs.Order.{IsCarriedBy, IsInTurn, listed_by}
use Rattle.raidzx_top.specs.Exit.{read_status, why_status}
use Rattle.raidzx_top.specs.Making.{IsSaid}
use Rattle.raidzx_top.specs.RunText.{status_line}

-- The source told these bytes, and none of its reads failed.
abbrev pub IsWell : Stream → Stream → List ℕ → Type 0
IsWell source source_after bytes =
    IsToldWell source.bytes bytes source.faults source_after.faults

-- The script was read: it is what the source's bytes say, which break no rule.
pub record HasRead (source source_after : Stream) (script : Script) : Type 0 where
  pub is : (bytes : List ℕ) → source.bytes ≡ Some bytes → IsScript bytes script
  pub allowed : All (λ placed. IsAllowed placed.call) script.calls
  pub clients : script.clients ≤ 8
  pub actors : All (λ placed. placed.actor < script.clients) script.calls
  pub few : (bytes : List ℕ) → IsWell source source_after bytes → IsOverLimit bytes → ⊥
  pub right : (bytes : List ℕ) (line : ℕ) → IsWell source source_after bytes
      → IsFaultAt bytes line → ⊥

-- Why there is no script. The first line that breaks a rule is told, and where none does there was no
-- memory; that may be told in place of each.
pub record IsUnread (source source_after : Stream) (why : ReadRefused) : Type 0 where
  pub cause : IsNotReadFor source.bytes source.faults source_after.faults why
  pub limit : (bytes : List ℕ) → IsWell source source_after bytes → IsOverLimit bytes
      → ((reached : ℕ) × (why ≡ read.Limit reached)) ⊎ (why ≡ read.NoMemory)
  pub fault : (bytes : List ℕ) (line : ℕ) → IsWell source source_after bytes
      → IsFaultAt bytes line
      → ((reason : LineFault) × (why ≡ read.ScriptFault line reason)) ⊎ (why ≡ read.NoMemory)
  pub script : (bytes : List ℕ) (script : Script) → IsWell source source_after bytes
      → IsScript bytes script → why ≡ read.NoMemory

-- Why no pool was opened, and what that left.
pub record IsUnopened (old new : Disk) (why : OpenWhy) : Type 0 where
  pub cause : IsOpenCause old new why
  pub cut : Unchanged old new ⊎ CutsOpening old new
  pub untouched : LeavesUnopened why old new
  pub others : LeavesOthers old new
  pub opens : IsForMemory old new why

-- A run or a replay that was refused before its pool was open: there was no script, no room for its journal, or
-- no pool.
pub data IsRefused (source source_after : Stream) (old new : Disk) (given : Status) : Type 0 where
  Unread : (why : ReadRefused) → IsUnread source source_after why → new ≡ old
      → given ≡ read_status why → IsRefused source source_after old new given
  Roomless : (script : Script) → HasRead source source_after script → new ≡ old
      → given ≡ status.NoMemory → IsRefused source source_after old new given
  Unopened : (script : Script) → HasRead source source_after script → (why : OpenWhy)
      → IsUnopened old new why → given ≡ why_status why
      → IsRefused source source_after old new given

-- Calls were left unanswered for this trouble: there was no room for the next answer, or no more turns could be
-- counted.
abbrev pub StoppedFor : Ran → Trouble → Type 0
StoppedFor ran trouble.NoMemory = ran.ended ≡ ended.NoMemory
StoppedFor ran trouble.Limit = ran.ended ≡ ended.Limit
StoppedFor ran trouble.TooManyFailed = ⊥

-- What was carried out of a script in this order: its calls, and in a run those of the client that widens the pool
-- too, where a device is to be attached, or where an expansion ran as the pool was opened. The journal is legal for
-- that, and what it tells is kept, at each moment and in the end.
pub record CarriedCalls (order : Order) (script : Script) (old new : Disk) (items : List Item) (out : ℕ) : Type 0 where
  pub carried : Script
  pub run : HasRun carried old new items out
  pub carried_is : IsCarriedBy order script run.opened carried

-- As many turns are told as were taken. Of a replay each was that of the client whose turn it was by the order that the
-- script lists, of a run with an only client by the order of the lines; where a run has more, by none.
pub record TurnsAreTold (order : Order) (script : Script) (old new : Disk) (items : List Item) (ran : Ran)
    (calls : CarriedCalls order script old new items ran.out) : Type 0 where
  pub counted : ran.turns ≡ length calls.run.passed
  pub taken : IsInTurn order script calls.run.opened
      → HasTakenTurns calls.carried (listed_by order script) calls.run ran

-- A script was carried out on the pool in this order, in as many turns as are told. Each call is answered, but where
-- there was no memory or no more turns could be counted.
pub record HasCarried (order : Order) (script : Script) (old new : Disk) (items : List Item) (ran : Ran) : Type 0 where
  pub calls : CarriedCalls order script old new items ran.out
  pub turns : TurnsAreTold order script old new items ran calls
  pub complete : (StoppedFor ran trouble.NoMemory → ⊥) → (StoppedFor ran trouble.Limit → ⊥)
      → IsComplete (asked_by calls.carried) items
  pub used_up : StoppedFor ran trouble.Limit → most_turns ≤ ran.turns

-- A script was read, or there was none, or no room for the journal of its run.
abbrev pub EndsScript : Stream → Stream → Result Script Status → Type 0
EndsScript source source_after (Ok script) = HasRead source source_after script
EndsScript source source_after (Err given) = (disk : Disk) → IsRefused source source_after disk disk given

-- The answer tells of this trouble.
abbrev pub IsTold : Trouble → Answer → Type 0
IsTold trouble.NoMemory given = given ≡ answer.NoMemory
IsTold trouble.Limit given = (reached : ℕ) × (given ≡ answer.Limit reached)
IsTold trouble.TooManyFailed given = (out : ℕ) × (given ≡ answer.TooManyFailed out)

-- The item is a call that was answered so.
abbrev pub ItemTells : Trouble → Item → Type 0
ItemTells trouble (Group group) = ⊥
ItemTells trouble (CallItem entry) = IsTold trouble entry.answer

-- Some call was answered so.
abbrev pub AnswersSo : List Item → Trouble → Type 0
AnswersSo items trouble =
    (index : ℕ) × (entry : Entry) × CallAt items index entry × IsTold trouble entry.answer

-- Some call met this trouble: it was left unanswered for it, or answered so.
abbrev pub HasMet : Ran → List Item → Trouble → Type 0
HasMet ran items met = StoppedFor ran met ⊎ AnswersSo items met

-- The status of a script that was carried out and whose text is written: the first of want of memory, a limit
-- and too many failed devices that some call met.
abbrev pub IsStatusOf : Ran → List Item → Status → Type 0
IsStatusOf ran items status.NoMemory = HasMet ran items trouble.NoMemory
IsStatusOf ran items status.Limit =
    (HasMet ran items trouble.NoMemory → ⊥) × HasMet ran items trouble.Limit
IsStatusOf ran items (status.TooManyFailed listed) = (listed ≡ ran.out)
    × (HasMet ran items trouble.NoMemory → ⊥) × (HasMet ran items trouble.Limit → ⊥)
    × HasMet ran items trouble.TooManyFailed
IsStatusOf ran items status.Done =
    (HasMet ran items trouble.NoMemory → ⊥) × (HasMet ran items trouble.Limit → ⊥)
    × (HasMet ran items trouble.TooManyFailed → ⊥)
IsStatusOf ran items other = ⊥

-- the status where the text wasn't written whole
abbrev pub after_fault : Status → Status
after_fault status.NoMemory = status.NoMemory
after_fault status.Limit = status.Limit
after_fault other = status.SinkFault

-- The journal's text and the line of a status were written, or the sink failed on the way.
abbrev pub EndsTelling : Stream → Stream → List Item → Status → Status → Type 0
EndsTelling sink sink_after items line given =
    ((given ≡ line)
    × IsAdded sink.bytes sink_after.bytes (journal_text items ++ status_line line))
    ⊎ ((given ≡ after_fault line) × FaultCounted sink.faults sink_after.faults
    × IsPartAdded sink.bytes sink_after.bytes (journal_text items ++ status_line line))

-- A run or a replay that was refused said so, and took no turn.
pub record WasRefused (source source_after sink sink_after : Stream) (old new : Disk)
    (items : List Item) (given : Status) (turns : ℕ) : Type 0 where
  pub none : items ≡ []
  pub no_turns : turns ≡ 0
  pub refused : IsRefused source source_after old new given
  pub said : IsSaid sink.bytes sink_after.bytes sink.faults sink_after.faults (status_line given)

-- One that opened its pool told its journal, its status, and how many turns it took.
pub record WasCarriedOut (order : Order) (source source_after sink sink_after : Stream)
    (old new : Disk) (items : List Item) (given : Status) (turns : ℕ) : Type 0 where
  pub script : Script
  pub read : HasRead source source_after script
  pub ran : Ran
  pub done : HasCarried order script old new items ran
  pub turns_are : turns ≡ ran.turns
  pub line : Status
  pub line_is : IsStatusOf ran items line
  pub told : EndsTelling sink sink_after items line given

-- how a run or a replay ends
abbrev pub EndsRun : Order → Stream → Stream → Stream → Stream → Disk → Disk → List Item → Status
    → ℕ → Type 0
EndsRun order source source_after sink sink_after old new items given turns =
    WasRefused source source_after sink sink_after old new items given turns
    ⊎ WasCarriedOut order source source_after sink sink_after old new items given turns
