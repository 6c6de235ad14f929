-- What a call promises: what a new pool is, what a run or a replay answers and keeps at each moment and in the
-- end, what a `status` tells (`StatusCall.antt`), and what is written.
use Rattle.std.specs.Prelude.{◌≡◌, ◌≢◌, ◌⊎◌, ℕ, ◌<◌, ◌≤◌, List, [], ◌∷◌, ◌++◌, Some, Bool, true, ⊤}
use Rattle.bank_trait.specs.Causes.{FaultCounted}
use Rattle.bank_trait.specs.Disk.{Image, Unchanged}
use Rattle.bank_trait.specs.Regions.{Tells, TouchesOnly}
use Rattle.core_open.specs.Regions.{IsOnBelow}
use Rattle.uberblock_ring.specs.Devices.{count_below, IsWithin}
use Rattle.uberblock_ring.specs.Uberblock.{Uber, first_uber}
use Rattle.core_state.specs.declared.answer.Answer.{Answer}
use Rattle.core_state.specs.declared.answer.Answer.TheVariants as answer
use Rattle.core_state.specs.declared.answer.Kind.TheVariants as kind
use Rattle.core_state.specs.declared.item.Entry.{Entry}
use Rattle.core_state.specs.declared.item.Item.{Item}
use Rattle.core_state.specs.Legal.{CallAt}
use Rattle.core_state.specs.Journal.{IsComplete}
use Rattle.core_state.specs.Keeps.{Kept, Setting}
use Rattle.core_state.specs.Shown.{Shows}
use Rattle.core_state.specs.Collision.{BankKeeps, MightStand}
use Rattle.core_state.specs.Create.{IsCreated, first_kept, rows_for}
use Rattle.core_open.specs.Causes.{AreTooMany}
use Rattle.core_open.specs.Opens.{IsUnhindered, IsWithinBelow, LeavesOthers}
use Rattle.core_open.specs.Holds.{HoldsNoOther}
use Rattle.core_open.specs.Opening.{CutsOpening, MayBegin}
use Rattle.client_script.specs.Copier.{copier}
use Rattle.client_script.specs.Script.{Script, IsScript, asked_by}
use Rattle.client_script.specs.Texts.{journal_text}
use Rattle.schedule.specs.OfLines.{FollowsLines}
use Rattle.schedule.specs.WholeRun.{HasRun, RunKeeps, banks_of}
use Rattle.schedule.specs.declared.whole_run.Ran.{Ran}
use Rattle.raidzx_top.specs.declared.order.Order.{Order}
use Rattle.raidzx_top.specs.declared.order.Order.TheVariants.{AsTheyCome, AsListed}
use Rattle.raidzx_top.specs.declared.running.Trouble.TheVariants as trouble
use Rattle.raidzx_top.specs.declared.status.Status.{Status}
use Rattle.raidzx_top.specs.declared.status.Status.TheVariants as status
use Rattle.raidzx_top.specs.Bearing.{CanBear, setting_with}
use Rattle.raidzx_top.specs.Words.{Create}
use Rattle.command_words.specs.declared.command.NewPool.{NewPool}
use Rattle.command_words.specs.declared.command.ServedCommand.TheVariants as served
use Rattle.raidzx_top.specs.Served.{IsServedAs, command_of}
use Rattle.raidzx_top.specs.Call.{TopCall, HoldsImage, IsCarriedOut, IsQuiet, shape_of}
use Rattle.raidzx_top.specs.Order.{served_by}
use Rattle.raidzx_top.specs.Causes.{NoneRose, IsTooSmall, MeetsLimit, IsNoCommand, IsCaused, ComesWhere, most_turns}
use Rattle.raidzx_top.specs.Reopened.{BearsCut, MayAdd, SurvivesOpening, SurvivesStops}
use Rattle.raidzx_top.specs.RunJournal.{NoneWantsMemory}
use Rattle.raidzx_top.specs.RunText.{IsWritten, TextIsRight, create_text, status_line}
use Rattle.raidzx_top.specs.Running.{CarriedCalls, IsStatusOf, StoppedFor, TurnsAreTold, after_fault}
use Rattle.raidzx_top.specs.StatusCall.{StatusIsTold}

-- a setting in which a new pool stands: its devices, and failures of no more of them than its parity
pub record IsNewSetting (call : TopCall) (parity width id : ℕ) (setting : Setting) : Type 0 where
  pub shape : setting.shape ≡ shape_of call.old
  pub pool : setting.pool ≡ id
  pub base : setting.base ≡ width
  pub reach : setting.reach ≡ width
  pub few : count_below setting.failed 16 ≤ parity

-- Whatever a crash leaves, no device from a number on shows an uberblock.
abbrev pub NoneShowsFrom : TopCall → ℕ → Type 0
NoneShowsFrom call width = (image : Image) (device : ℕ) (uber : Uber) → width ≤ device
    → MightStand (shape_of call.old) call.new call.new.clock image
    → Shows (shape_of call.old) image device uber
    → ⊥

-- what `create` leaves where the bank tells what it holds: a pool of one group, which the bank keeps
-- where no other device shows an uberblock, and with which a run may begin, where no uberblock or page on the bank is
-- another's by chance
pub record CreatePromises (call : TopCall) (parity width id : ℕ) : Type 0 where
  pub made : IsCreated (first_uber id parity width (rows_for call.old.sectors)) call.new
  pub keeps : (setting : Setting) → IsNewSetting call parity width id setting → NoneShowsFrom call width
      → BankKeeps setting (first_kept id parity width call.old.sectors) [] call.new
  pub begins : (setting : Setting) → IsNewSetting call parity width id setting
      → NoneShowsFrom call width → HoldsNoOther setting (first_kept id parity width call.old.sectors ∷ []) call.new
      → MayBegin setting (first_kept id parity width call.old.sectors) [] call.new

-- what a call promises that asks for this pool
pub record PoolIsKept (call : TopCall) (made : NewPool) : Type 0 where
  pub keeps : IsCarriedOut call → Tells call.old → CreatePromises call made.parity made.width made.id
  pub text : IsCarriedOut call
      → TextIsRight call (create_text made.parity made.width made.id (rows_for call.old.sectors))
  -- Devices from the width on are left alone.
  pub others : TouchesOnly (IsOnBelow made.width) call.old call.new
  pub quiet : IsQuiet call

-- what a call of `create` promises
pub record CreateIsKept (call : TopCall) : Type 0 where
  pub created : (made : NewPool) → IsServedAs call.words (served.Create made) → PoolIsKept call made
  pub untouched : (call.status ≡ status.Usage) ⊎ (call.status ≡ status.TooSmall) → call.new ≡ call.old

-- The status of a script that was carried out is the first of want of memory, a limit, a failed sink and too
-- many failed devices that it met; else it is Done. The text ends with the line that it has where no sink
-- fails.
pub record StatusIsRight (call : TopCall) (ran : Ran) : Type 0 where
  pub line : Status
  pub line_is : IsStatusOf ran call.journal line
  pub given : (call.status ≡ line)
      ⊎ ((call.status ≡ after_fault line) × FaultCounted call.sink.faults call.sink_after.faults)
  pub written : (held : List ℕ) → call.sink.bytes ≡ Some held
      → IsWritten call held (journal_text call.journal ++ status_line line)

-- The script that was read, how its calls ended, and what was carried out of it.
pub record CarriesScript (order : Order) (call : TopCall) : Type 0 where
  pub script : Script
  pub script_is : (bytes : List ℕ) → call.source.bytes ≡ Some bytes → IsScript bytes script
  pub ran : Ran
  pub calls : CarriedCalls order script call.old call.new call.journal ran.out

-- In which order that was done.
pub record TellsTurns (order : Order) (call : TopCall) (did : CarriesScript order call) : Type 0 where
  pub turns : call.turns ≡ did.ran.turns
  pub are_told : TurnsAreTold order did.script call.old call.new call.journal did.ran did.calls
  -- The answers of an only client stand in the order of the lines, each call whole before the next.
  pub lines : did.calls.carried.clients ≤ 1 → FollowsLines did.calls.carried call.journal

-- What was answered is kept, whatever fails and whenever it stops.
pub record KeepsAnswers (call : TopCall) (carried : Script) (out : ℕ)
    (run : HasRun carried call.old call.new call.journal out) : Type 0 where
  -- However many devices fail, those that have to be borne are no more than there are parities, and what was answered
  -- is right for whoever can bear them.
  pub binds : (setting : Setting) (first : Kept) (later : List Kept) (failed : ℕ)
      → MayBegin setting first later call.old → CanBear setting first call.old run.silent run.borne failed
      → RunKeeps carried (setting_with setting failed) first later call.old call.new call.journal run.parity run.silent
      (banks_of run)
  -- What a stop leaves of it, at any moment, the next run or replay reads back.
  pub survives : (setting : Setting) (first : Kept) (later : List Kept) → MayBegin setting first later call.old
      → IsWithinBelow first.uber.reflow.to run.silent setting.failed → IsWithin run.borne setting.failed
      → SurvivesStops setting first later carried call.old call.new call.journal (banks_of run)

-- Each call is answered, unless there was no memory, and then the status tells so, or the turns were used up.
pub record AnswersEach (call : TopCall) (carried : Script) (ran : Ran) : Type 0 where
  pub complete : call.status ≢ status.NoMemory → (StoppedFor ran trouble.Limit → ⊥)
      → IsComplete (asked_by carried) call.journal
  pub memory : call.status ≢ status.NoMemory → NoneWantsMemory call.journal
  pub used_up : StoppedFor ran trouble.Limit → most_turns ≤ call.turns
  -- A call that tells of too many failed devices lists devices that are out or have failed.
  pub too_many : (index listed : ℕ) (entry : Entry) → CallAt call.journal index entry
      → entry.answer ≡ answer.TooManyFailed listed
      → (image : Image) → HoldsImage call.old image → AreTooMany call.old call.new image listed

-- what a run that opened its pool promises, or a replay
pub record RunPromises (order : Order) (call : TopCall) : Type 0 where
  pub did : CarriesScript order call
  pub in_turn : TellsTurns order call did
  pub keeps : KeepsAnswers call did.calls.carried did.ran.out did.calls.run
  pub answers : AnswersEach call did.calls.carried did.ran
  pub text : TextIsRight call (journal_text call.journal)
  pub status_is : StatusIsRight call did.ran

-- what a run or a replay that opened no pool leaves: what was there, but for counts of faults; or an opening
-- that was cut short, for want of memory or as too many devices failed
pub record LeavesNone (call : TopCall) : Type 0 where
  pub untouched : (call.status ≡ status.NoMemory → ⊥)
      → ((out : ℕ) → call.status ≡ status.TooManyFailed out → ⊥)
      → Unchanged call.old call.new
  pub cut : Unchanged call.old call.new ⊎ CutsOpening call.old call.new
  -- What a stop leaves of it, at any moment, the next run or replay reads back.
  pub survives : (setting : Setting) (first : Kept) (later : List Kept) → MayBegin setting first later call.old
      → BearsCut setting first.uber.reflow.to cut
      → SurvivesOpening setting first later call.old call.new
  -- Devices that are not of the pool that the devices show are left alone.
  pub others : (call.new ≡ call.old) ⊎ LeavesOthers call.old call.new
  pub turns : call.turns ≡ 0

-- what a call of `run` or of `replay` promises
pub record RunIsKept (order : Order) (call : TopCall) : Type 0 where
  pub opened : IsServedAs call.words (served_by order) → call.journal ≢ []
      → RunPromises order call
  pub unopened : IsServedAs call.words (served_by order) → call.journal ≡ [] → LeavesNone call
  -- One that was carried out has opened its pool.
  pub carried_out : IsServedAs call.words (served_by order) → IsCarriedOut call
      → call.journal ≢ []

-- The source told a script, and didn't fail.
pub record GivesScript (call : TopCall) : Type 0 where
  pub bytes : List ℕ
  pub told : call.source.bytes ≡ Some bytes
  pub script : Script
  pub script_is : IsScript bytes script
  pub source : FaultCounted call.source.faults call.source_after.faults → ⊥

-- The bank keeps groups of which none is too near the greatest number, no device is out, and none failed.
pub record KeepsUnhindered (call : TopCall) : Type 0 where
  pub setting : Setting
  pub first : Kept
  pub later : List Kept
  pub may : MayBegin setting first later call.old
  pub unhindered : IsUnhindered setting first later call.old call.new

-- Nothing was in the way of a run or a replay.
pub record RunsUnhindered (order : Order) (call : TopCall) : Type 0 where
  pub served : IsServedAs call.words (served_by order)
  pub read : GivesScript call
  pub bank : KeepsUnhindered call
  pub sink : FaultCounted call.sink.faults call.sink_after.faults → ⊥

-- An answer that smooth runs have: what was asked for, or a refusal with a cause of its own.
abbrev pub IsSmoothAnswer : Answer → Type 0
IsSmoothAnswer answer.Damaged = ⊥
IsSmoothAnswer (answer.DeviceOut device) = ⊥
IsSmoothAnswer (answer.NewDeviceFailed device) = ⊥
IsSmoothAnswer (answer.Paused device) = ⊥
IsSmoothAnswer (answer.TooManyFailed out) = ⊥
IsSmoothAnswer other = ⊤

-- A copy is done: the pool has this width, which is no less than any to which it was widened before.
pub record IsDone (items : List Item) (index : ℕ) (given : Answer) : Type 0 where
  pub width : ℕ
  pub given_is : given ≡ answer.Completed width
  pub wide : (earlier to group : ℕ) (attach : Entry) → earlier < index → CallAt items earlier attach
      → attach.answer ≡ answer.Attached to group → to ≤ width

-- Behind this answer stands the one of a copy of the same client, which is done.
pub record IsCopiedBehind (items : List Item) (index : ℕ) (attach : Entry) : Type 0 where
  pub later : ℕ
  pub copy : Entry
  pub there : CallAt items later copy
  pub behind : index < later
  pub own : copy.caller ≡ attach.caller
  pub done : IsDone items later copy.answer

-- An expansion that has begun comes to its end: each copy that was asked for is done, and where a device was to be
-- attached, and was, the copy behind that is.
pub record WidensWholly (order : Order) (items : List Item) : Type 0 where
  pub copies : (index : ℕ) (entry : Entry) → CallAt items index entry → entry.kind ≡ kind.Copy
      → IsDone items index entry.answer
  pub attached : order ≡ AsTheyCome true → (index to group : ℕ) (attach : Entry) → CallAt items index attach
      → attach.caller ≡ copier → attach.answer ≡ answer.Attached to group → IsCopiedBehind items index attach

-- Then the status is Done, each answer is smooth, and an expansion comes to its end; or there was no memory, or a group
-- met the greatest number, or the turns were used up.
pub record CompletesAll (order : Order) (call : TopCall) : Type 0 where
  pub status_is : (call.status ≡ status.Done) ⊎ ((call.status ≡ status.NoMemory)
      ⊎ ((call.status ≡ status.Limit) × MeetsLimit call (command_of (served_by order))))
  pub answers : (index : ℕ) (entry : Entry) → CallAt call.journal index entry
      → IsSmoothAnswer entry.answer
  pub widens : call.status ≡ status.Done → WidensWholly order call.journal

-- A `create` that has nothing in its way is carried out.
pub record CreateCompletes (call : TopCall) : Type 0 where
  pub done : (made : NewPool) → IsServedAs call.words (served.Create made)
      → (IsTooSmall call (Create made.parity made.width made.id) → ⊥)
      → NoneRose call → (FaultCounted call.sink.faults call.sink_after.faults → ⊥)
      → call.status ≡ status.Done

-- A run or a replay that has nothing in its way completes.
abbrev pub RunCompletes : Order → TopCall → Type 0
RunCompletes order call = RunsUnhindered order call → CompletesAll order call

-- Each status has its cause, and refusals come wherever their cause is there.
pub record ExplainsStatus (call : TopCall) : Type 0 where
  pub cause : IsCaused call
  pub comes : ComesWhere call

-- A call that does nothing says so, words that are no command do nothing, and no turn is taken where no pool was
-- opened.
pub record RefusesCleanly (call : TopCall) : Type 0 where
  pub refused : call.journal ≡ [] → (IsCarriedOut call → ⊥) → TextIsRight call []
  pub quiet : IsNoCommand call → IsQuiet call
  pub turns : call.journal ≡ [] → call.turns ≡ 0

-- A new pool is kept; what a run answers is right and kept, and so it is with a replay; a `status` tells what the
-- devices show, and changes nothing. What was written is the text.
pub record DoesCommand (call : TopCall) : Type 0 where
  pub create : CreateIsKept call
  pub run : (attaches : Bool) → RunIsKept (AsTheyCome attaches) call
  pub replay : RunIsKept AsListed call
  pub told : StatusIsTold call

-- What has nothing in its way is carried out.
pub record CompletesCommand (call : TopCall) : Type 0 where
  pub complete : CreateCompletes call
  pub completes : (order : Order) → RunCompletes order call

-- what every call promises
pub record CallPromises (call : TopCall) : Type 0 where
  pub explains : ExplainsStatus call
  pub refuses : RefusesCleanly call
  pub commands : DoesCommand call
  pub unhindered : CompletesCommand call
  -- the next bank may have further devices
  pub may_be_added : MayAdd call.new

-- There was no memory to read the words: that was told, and nothing was done.
pub record WordsAreUnread (call : TopCall) : Type 0 where
  pub status_is : call.status ≡ status.NoMemory
  pub untouched : call.new ≡ call.old
  pub quiet : IsQuiet call
  pub text : TextIsRight call []
  pub may_be_added : MayAdd call.new

-- A call keeps its promises, unless its words could not be read.
abbrev pub KeepsPromises : TopCall → Type 0
KeepsPromises call = CallPromises call ⊎ WordsAreUnread call
