-- What of a call's next turn can be computed while others have their turns.
use Rattle.std.specs.Prelude.{◌≡◌, ◌==◌, ℕ, ◌-◌, List, Option, None, Some, if◌then◌else◌, slice_get, ⊤}
use Rattle.std.specs.Global.{Box}
use Rattle.client_script.specs.declared.call.ScriptCall.{ScriptCall}
use Rattle.client_script.specs.Lines.{fill_bytes}
use Rattle.row_layout.specs.Layout.{rows_of}
use Rattle.core_turns.specs.declared.filling.MadeUp.{MadeUp}
use Rattle.core_turns.specs.declared.filling.ToFill.{ToFill}
use Rattle.core_turns.specs.declared.solving.SolvedFrom.{SolvedFrom}
use Rattle.core_turns.specs.Core.{Core}
use Rattle.core_turns.specs.Getting.{IsAlike, IsSolvable, IsSolved, to_solve_of}
use Rattle.core_turns.specs.Putting.{IsFillable, IsMadeUp, left_to_fill, to_fill_of}
use Rattle.schedule.specs.declared.computing.ToCompute.{ToCompute}
use Rattle.schedule.specs.declared.computing.ToCompute.TheVariants as to_compute
use Rattle.schedule.specs.declared.computing.Computed.{Computed}
use Rattle.schedule.specs.declared.computing.Computed.TheVariants as computed
use Rattle.schedule.specs.declared.client.Client.{Client}
use Rattle.schedule.specs.declared.client.UnderWay.{UnderWay}
use Rattle.schedule.specs.declared.client.Work.{Work}
use Rattle.schedule.specs.declared.client.Work.TheVariants as work
use Rattle.schedule.specs.Turned.{MayGoOn}

-- It can be computed, of one of these calls.
abbrev pub IsComputable : List ScriptCall → ToCompute → Type 0
IsComputable calls to_compute.Nothing = ⊤
IsComputable calls (to_compute.Fill number block) = (call : ScriptCall) → slice_get calls number ≡ Some call
    → IsFillable block (fill_bytes call.fill)
IsComputable calls (to_compute.Solve block) = IsSolvable block

-- A block of these bytes was made up.
abbrev pub IsMadeUpOf : List ℕ → MadeUp → Type 0
IsMadeUpOf content made = IsMadeUp made.block made.filled content

-- A block was solved.
abbrev pub IsSolvedOf : SolvedFrom → Type 0
IsSolvedOf from = IsSolvable from.block × IsSolved from.block from.solved

-- It was computed, of one of these calls,
abbrev pub IsComputedFor : List ScriptCall → Computed → Type 0
IsComputedFor calls computed.Nothing = ⊤
IsComputedFor calls (computed.Filled number made) = (call : ScriptCall) → slice_get calls number ≡ Some call
    → IsMadeUpOf (fill_bytes call.fill) made.value
IsComputedFor calls (computed.Solved from) = IsSolvedOf from.value

-- of this call.
abbrev pub IsComputedOf : ScriptCall → Computed → Type 0
IsComputedOf call computed.Nothing = ⊤
IsComputedOf call (computed.Filled number made) = IsMadeUpOf (fill_bytes call.fill) made.value
IsComputedOf call (computed.Solved from) = IsSolvedOf from.value

-- The call that a client has under way is one of a core, and one of these.
abbrev pub MayGoOnAs : List ScriptCall → Client → Type 0
MayGoOnAs calls client = (core : Core) × ((under : UnderWay) (call : ScriptCall) → client.under_way ≡ Some under
    → slice_get calls (client.begun - 1) ≡ Some call → MayGoOn core call under.work)

-- what is asked for of a put: its block, if it is left to fill
abbrev pub filling : ℕ → Option ToFill → ToCompute
filling number (Some block) = to_compute.Fill number block
filling number None = to_compute.Nothing

-- What a call under way asks for, the call of this number among its client's. A read asks once it has all columns,
-- where there is memory to share them.
abbrev pub IsAskedOf : ℕ → Work → ToCompute → Type 0
IsAskedOf number (work.Put run) asked = asked ≡ filling number (left_to_fill run run.filled)
IsAskedOf number (work.Read run) to_compute.Nothing = ⊤
IsAskedOf number (work.Read run) (to_compute.Fill other block) = ⊥
IsAskedOf number (work.Read run) (to_compute.Solve block) = (run.read.row ≡ rows_of run.read.layout)
    × IsAlike block (to_solve_of run)
IsAskedOf number other asked = asked ≡ to_compute.Nothing

-- What a client with these calls asks for: what its call under way does, and nothing where it has none.
abbrev pub IsAskedBy : List ScriptCall → Client → ToCompute → Type 0
IsAskedBy calls client asked = ((under : UnderWay) (call : ScriptCall) → client.under_way ≡ Some under
    → slice_get calls (client.begun - 1) ≡ Some call → IsAskedOf (client.begun - 1) under.work asked)
    × (client.under_way ≡ None → asked ≡ to_compute.Nothing)

-- What was asked for was computed, unless there was no memory for that.
abbrev pub IsComputed : ToCompute → Computed → Type 0
IsComputed asked computed.Nothing = ⊤
IsComputed (to_compute.Fill number block) (computed.Filled other made) = (other ≡ number) × (made.value.block ≡ block)
IsComputed (to_compute.Solve block) (computed.Solved from) = from.value.block ≡ block
IsComputed asked other = ⊥

-- what was computed, unless it was for another call than the one of this number
abbrev pub for_call : ℕ → Computed → Computed
for_call number (computed.Filled other made) = if other == number then computed.Filled other made else computed.Nothing
for_call number other = other

-- It was computed for what this call has under way: for the block of a put, or from the columns that a read has.
abbrev pub FitsWork : Work → Computed → Type 0
FitsWork (work.Put run) (computed.Filled number made) = made.value.block ≡ to_fill_of run
FitsWork (work.Read run) (computed.Solved from) = IsAlike from.value.block (to_solve_of run)
FitsWork does given = ⊥

-- the block of a put in it
abbrev pub block_in : Computed → Option (Box MadeUp)
block_in (computed.Filled number made) = Some made
block_in other = None

-- the block of a read in it
abbrev pub solved_in : Computed → Option (Box SolvedFrom)
solved_in (computed.Solved from) = Some from
solved_in other = None
