-- When each status of the top call comes.
use Rattle.std.specs.Prelude.{◌≡◌, ◌≢◌, ◌⊎◌, ℕ, ◌+◌, ◌<◌, ◌≤◌, List, [], Some, true, ⊤}
use Rattle.bank_trait.specs.Causes.{FaultCounted}
use Rattle.bank_trait.specs.Disk.{Image, Disk, Later}
use Rattle.uberblock_ring.specs.Devices.{has_device}
use Rattle.uberblock_ring.specs.Uberblock.{first_uber, max_group}
use Rattle.core_state.specs.declared.answer.Answer.TheVariants as answer
use Rattle.core_state.specs.declared.item.Entry.{Entry}
use Rattle.core_state.specs.Legal.{CallAt}
use Rattle.core_state.specs.Choosing.{IsNotPool}
use Rattle.core_state.specs.Create.{IsCreated, rows_for}
use Rattle.core_open.specs.Causes.{IsShownChoice, AreTooMany}
use Rattle.client_script.specs.Faults.{IsFaultFor}
use Rattle.client_script.specs.Script.{IsOverLimit, IsFaultAt}
use Rattle.client_script.specs.declared.line_fault.LineFault.{LineFault}
pub use Rattle.schedule.specs.Turns.{most_turns}
use Rattle.raidzx_top.specs.declared.status.Status.{Status}
use Rattle.raidzx_top.specs.declared.status.Status.TheVariants as status
use Rattle.raidzx_top.specs.Words.{Command, Create, Load}
use Rattle.command_words.specs.declared.command.ServedCommand.{ServedCommand}
use Rattle.raidzx_top.specs.Served.{IsServed, IsServedAs, command_of}
use Rattle.raidzx_top.specs.Call.{TopCall, HoldsImage, MakesGroups, Opens, ReadsScript, size_of, shape_of}

-- A device has failed in this call, or none has.
abbrev pub HasRisen : TopCall → ℕ → Type 0
HasRisen call device = FaultCounted (call.old.faults device) (call.new.faults device)

abbrev pub NoneRose : TopCall → Type 0
NoneRose call = (device : ℕ) → HasRisen call device → ⊥

-- The bank is too small for a new pool.
abbrev pub IsTooSmall : TopCall → Command → Type 0
IsTooSmall call command =
    (size : ℕ × ℕ) × (size_of command ≡ Some size)
    × ((call.old.devices < size.1) ⊎ (call.old.sectors < 256))

-- the bank that an opening finds: that at entry, in `load` the one after its `create`
abbrev pub IsFoundBank : TopCall → Command → Disk → Type 0
IsFoundBank call (Create parity width id) found = ⊥
IsFoundBank call (Load seed blocks parity width) found =
    Later call.old found × Later found call.new
    × IsCreated (first_uber seed parity width (rows_for call.old.sectors)) found
IsFoundBank call command found = found ≡ call.old

-- an image of what an opening finds, where the bank tells it
pub record IsFoundImage (call : TopCall) (command : Command) (image : Image) : Type 0 where
  pub found : Disk
  pub is : IsFoundBank call command found
  pub holds : HoldsImage found image

-- Some device is listed, and each that is has failed in this call.
pub record HaveFailedInCall (call : TopCall) (listed : ℕ) : Type 0 where
  pub some : listed ≢ 0
  pub each : (device : ℕ) → has_device listed device ≡ true → HasRisen call device

-- Too many devices are out; or a pool couldn't be made; or those that are left show no candidate.
abbrev pub IsTooManyFailed : TopCall → Command → ℕ → Type 0
IsTooManyFailed call command listed =
    (Opens command
    × ((image : Image) → IsFoundImage call command image
    → AreTooMany call.old call.new image listed))
    ⊎ (((size : ℕ × ℕ) × (size_of command ≡ Some size) × (call.journal ≡ [])
    × HaveFailedInCall call listed)
    ⊎ (Opens command × HaveFailedInCall call listed
    × ((image : Image) → IsFoundImage call command image
    → IsNotPool (shape_of call.old) listed image)))

-- An opening finds a group too near the greatest; a call was refused for that; or the turns were used up.
abbrev pub MeetsLimit : TopCall → Command → Type 0
MeetsLimit call command =
    (MakesGroups command × (call.journal ≡ [])
    × ((image : Image) → IsFoundImage call command image
    → (shown : IsShownChoice call.old call.new image) × (max_group < shown.choice.uber.group + 2)))
    ⊎ (((index : ℕ) × (entry : Entry) × (reached : ℕ) × CallAt call.journal index entry
    × (entry.answer ≡ answer.Limit reached))
    ⊎ (most_turns ≤ call.turns))

-- why a command got a status
abbrev pub IsCause : TopCall → Command → Status → Type 0
IsCause call command status.Done = ⊤
IsCause call command status.Usage = ⊥
IsCause call command (status.ScriptFault line why) =
    ReadsScript command × ((bytes : List ℕ) → call.source.bytes ≡ Some bytes → IsFaultFor bytes line why)
IsCause call command status.NotPool = Opens command
    × ((image : Image) → IsFoundImage call command image → IsNotPool (shape_of call.old) 0 image)
IsCause call command (status.TooManyFailed out) = IsTooManyFailed call command out
IsCause call command status.TooSmall = IsTooSmall call command
IsCause call command status.SourceFault =
    ReadsScript command × FaultCounted call.source.faults call.source_after.faults
IsCause call command status.SinkFault = FaultCounted call.sink.faults call.sink_after.faults
IsCause call command status.NoMemory = Opens command
IsCause call command status.Limit =
    (ReadsScript command × ((bytes : List ℕ) → call.source.bytes ≡ Some bytes → IsOverLimit bytes))
    ⊎ MeetsLimit call command

-- The words are no command that is carried out.
abbrev pub IsNoCommand : TopCall → Type 0
IsNoCommand call = IsServed call.words → ⊥

-- Each status has its cause: `usage` that the words are no command, each other one its own.
pub record IsCaused (call : TopCall) : Type 0 where
  pub usage : call.status ≡ status.Usage → IsNoCommand call
  pub others : (given : ServedCommand) → IsServedAs call.words given
      → IsCause call (command_of given) call.status

-- The status is this one, or there was no memory.
abbrev pub IsOrNoMemory : TopCall → Status → Type 0
IsOrNoMemory call wanted = (call.status ≡ wanted) ⊎ (call.status ≡ status.NoMemory)

-- The status is that this line breaks the grammar, and why, or there was no memory.
abbrev pub IsFaultOrNoMemory : TopCall → ℕ → Type 0
IsFaultOrNoMemory call line =
    ((why : LineFault) × (call.status ≡ status.ScriptFault line why)) ⊎ (call.status ≡ status.NoMemory)

-- The source didn't fail, and gave these bytes.
abbrev pub IsReadWhole : TopCall → Command → List ℕ → Type 0
IsReadWhole call command bytes = ReadsScript command × (call.source.bytes ≡ Some bytes)
    × (FaultCounted call.source.faults call.source_after.faults → ⊥)

-- The source gave a script that breaks no rule, to a command that reads one.
abbrev pub GivesScriptTo : TopCall → Command → Type 0
GivesScriptTo call command = ReadsScript command → (bytes : List ℕ) × IsReadWhole call command bytes
    × (IsOverLimit bytes → ⊥) × ((line : ℕ) → IsFaultAt bytes line → ⊥)

-- What an opening finds has no candidate.
pub record ShowsNoPool (call : TopCall) (command : Command) : Type 0 where
  pub image : Image
  pub found : IsFoundImage call command image
  pub none : IsNotPool (shape_of call.old) 0 image

-- A command that opens a pool, once its script is read: it finds no candidate and no device fails.
pub record FindsNoPool (call : TopCall) (command : Command) : Type 0 where
  pub given : ServedCommand
  pub served : IsServedAs call.words given
  pub command_is : command_of given ≡ command
  pub script : GivesScriptTo call command
  pub fits : IsTooSmall call command → ⊥
  pub shown : ShowsNoPool call command
  pub quiet : NoneRose call

-- Then it says so.
abbrev pub SaysNoPool : TopCall → Type 0
SaysNoPool call = (command : Command) → FindsNoPool call command → IsOrNoMemory call status.NotPool

-- Refusals of a command that come wherever their cause is there, in the order of checks.
pub record IsRefusedWhere (call : TopCall) (command : Command) : Type 0 where
  pub limit : (bytes : List ℕ) → IsReadWhole call command bytes → IsOverLimit bytes
      → IsOrNoMemory call status.Limit
  pub fault : (bytes : List ℕ) (line : ℕ) → IsReadWhole call command bytes → IsFaultAt bytes line
      → IsFaultOrNoMemory call line
  pub too_small : IsTooSmall call command → IsOrNoMemory call status.TooSmall

-- Statuses that come exactly where their cause is there.
pub record ComesWhere (call : TopCall) : Type 0 where
  pub usage : IsNoCommand call → call.status ≡ status.Usage
  pub refused : (given : ServedCommand) → IsServedAs call.words given → IsRefusedWhere call (command_of given)
  pub no_pool : SaysNoPool call
