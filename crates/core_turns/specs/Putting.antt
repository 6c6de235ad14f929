-- Puts, turn by turn.
use Rattle.std.specs.Prelude.{◌≡◌, ℕ, ◌+◌, ◌<◌, ◌≤◌, List, ◌∷◌, [], ◌++◌, length, slice_get, Option, Some, None, Bool}
use Rattle.std.specs.Prelude.{Contains, false, true, ⊤}
use Rattle.sha2.specs.Sha256.{sha256}
use Rattle.range_locks.specs.declared.hold.Hold.{Hold}
use Rattle.range_locks.specs.declared.hold.HoldKind.TheVariants.{Shared}
use Rattle.range_locks.specs.Holds.{EndsHold}
use Rattle.reflow_mark.specs.declared.reflow.Reflow.{Reflow}
use Rattle.row_layout.specs.Layout.{IsColumn, Layout, allocated_of, end_of, sector_of}
use Rattle.shadow_write.specs.declared.write.Write.{Write}
use Rattle.shadow_write.specs.Writes.{writes_of}
use Rattle.space_alloc.specs.Space.{Run, Gains, IsDropping, IsBusySpace, HasNoFreeRun}
use Rattle.block_record.specs.declared.entry.IndexEntry.{IndexEntry}
use Rattle.block_table.specs.Table.{ChangesOnly, IsFull, entry_of, without_one}
use Rattle.reconstruct.specs.Lost.{AreBytes}
use Rattle.reconstruct.specs.Rows.{sectors_for}
use Rattle.core_state.specs.declared.answer.Answer.{Answer}
use Rattle.core_state.specs.declared.answer.Answer.TheVariants as answer
use Rattle.core_blocks.specs.declared.range.PutRange.{PutRange}
use Rattle.core_blocks.specs.declared.refused.PutRefused.{PutRefused}
use Rattle.core_blocks.specs.declared.refused.PutRefused.TheVariants as refused
use Rattle.core_blocks.specs.Blocks.{AreUnderWay, IsUnderWay, put_run}
use Rattle.core_blocks.specs.Kept.{NoneFree, SparesAll}
use Rattle.core_blocks.specs.Puts.{BeginsPut, HoldsBack, IsRangeFor, sectors_taken}
use Rattle.core_blocks.specs.Usage.{AddsAtMost}
use Rattle.core_state.specs.Committing.{Point, point_of}
use Rattle.shadow_write.specs.Band.{AsksSame, IsFrontOf}
use Rattle.core_client.specs.Pool.{IsInPool}
use Rattle.core_client.specs.Writing.{ChecksPlace, IsPassedOrMade, IsPlanOf}
use Rattle.core_client.specs.BlockTurns.{IsWrittenSoFar}
use Rattle.core_turns.specs.declared.filling.Filled.{Filled}
use Rattle.core_turns.specs.declared.filling.ToFill.{ToFill}
use Rattle.core_turns.specs.declared.getting.GetRun.{GetRun}
use Rattle.core_turns.specs.declared.putting.PutRun.{PutRun}
use Rattle.core_turns.specs.declared.turn.Turn.{Turn}
use Rattle.core_turns.specs.declared.turn.Turn.TheVariants.{More, Busy, Done}
use Rattle.core_turns.specs.Core.{Core, CoreState}
use Rattle.core_turns.specs.Getting.{HasTooManyOut}

-- the hold of a put on its sectors
abbrev pub hold_on : PutRange → ℕ → Hold
hold_on range actor = record {
  lo = range.layout.start;
  hi = range.layout.start + allocated_of range.layout;
  actor = actor;
  kind = Shared;
}

-- a put of a block's own bytes to its own sectors, which a call that reads it holds, at this front of these widths
abbrev pub mend_at : GetRun → Reflow → ℕ → PutRun
mend_at read reflow done = record {
  hold = read.hold;
  range = record { id = read.entry.id; birth = read.entry.birth; layout = read.read.layout };
  len = read.entry.len;
  reflow = reflow;
  done = done;
  filled = None;
}

-- A put holds its sectors from now on, or memory was exhausted for that.
abbrev pub HoldsRange : List Hold → List Hold → PutRange → ℕ → Option Hold → Type 0
HoldsRange old new range actor (Some hold) = (hold ≡ hold_on range actor) × Gains old new hold
HoldsRange old new range actor None = new ≡ old

-- What was filled in is a block of these bytes, of which no more was written than there is.
pub record IsFilledWith (core : Core) (run : PutRun) (filled : Filled) (content : List ℕ) : Type 0 where
  pub plan : IsPlanOf run.range.layout core.pool.uber.reflow core.pool.done content
      filled.write.rows filled.write.writes
  pub so_far : filled.write.next ≤ length filled.write.writes
  pub len_is : length content ≡ run.len
  pub digest_is : filled.digest ≡ sha256 content

-- Two states of a widening ask for the columns of a block at the same places.
abbrev pub AsksAlike : Layout → Reflow → ℕ → Reflow → ℕ → Type 0
AsksAlike layout one front other front_then = (row column : ℕ) → IsColumn layout row column
    → AsksSame one front other front_then (end_of layout row) (sector_of layout row column)

-- The put is one of this pool, whose sectors it holds. The pool asks for its block at the places at which it asked for
-- it when the put began.
pub record IsPutOf (core : Core) (run : PutRun) : Type 0 where
  pub pool : IsInPool run.range.layout core.pool.uber.reflow
  pub front : IsFrontOf core.pool.uber.reflow core.pool.done
  pub begun_pool : IsInPool run.range.layout run.reflow
  pub begun_front : IsFrontOf run.reflow run.done
  pub places : AsksAlike run.range.layout run.reflow run.done core.pool.uber.reflow core.pool.done
  pub range : IsRangeFor core.pool.blocks run.range.id run.len run.range.birth run.range
  pub born : (1 ≤ run.range.birth) × (run.range.birth ≤ core.begun + 1)
  pub len : (1 ≤ run.len) × (run.len ≤ 65536)
  pub holds : Contains core.holds run.hold
  pub hold_is : run.hold ≡ hold_on run.range run.hold.actor
  pub filled : (filled : Filled) → run.filled ≡ Some filled
      → (content : List ℕ) × IsFilledWith core run filled content

-- The blocks are as they were but for the order in which ids are reserved, no more runs are in use, and all else is
-- as it was.
pub record LeavesBlocks (old new : Core) : Type 0 where
  pub rest : new ≡ record old { pool = record old.pool { blocks = new.pool.blocks } }
  pub parity : new.pool.blocks.parity ≡ old.pool.blocks.parity
  pub births : new.pool.blocks.births ≡ old.pool.blocks.births
  pub entries : new.pool.blocks.table.entries ≡ old.pool.blocks.table.entries
  pub capacity : new.pool.blocks.space.capacity ≡ old.pool.blocks.space.capacity
  pub adds : AddsAtMost old.pool.blocks.space new.pool.blocks.space []
  pub taken : (run : Run) → Contains new.pool.blocks.space.taken run → Contains old.pool.blocks.space.taken run
  pub held : new.pool.blocks.space.held ≡ old.pool.blocks.space.held
  pub under : (ranges : List PutRange) → AreUnderWay old.pool.blocks ranges
      → AreUnderWay new.pool.blocks ranges
  pub kept : (past : ℕ) (kept : List IndexEntry) → NoneFree old.pool.blocks past kept
      → NoneFree new.pool.blocks past kept

-- A put of so many bytes begins: its id is reserved, it has taken the lowest run of free sectors that fits, and
-- holds it. Its block is born in the open group.
pub record BeginsPutSo (old new : Core) (actor id len : ℕ) (run : PutRun) : Type 0 where
  pub few : HasTooManyOut old → ⊥
  pub len_is : run.len ≡ len
  pub unfilled : run.filled ≡ None
  pub range : IsRangeFor new.pool.blocks id len (old.begun + 1) run.range
  pub begins : BeginsPut old.pool.blocks new.pool.blocks old.holds run.range
  pub under_way : IsUnderWay new.pool.blocks run.range
  pub hold_is : run.hold ≡ hold_on run.range actor
  pub rest : new ≡ record old {
    pool = record old.pool { blocks = new.pool.blocks };
    holds = new.holds;
  }
  pub holds : Gains old.holds new.holds run.hold
  pub of : IsPutOf new run
  pub under : (ranges : List PutRange) → AreUnderWay old.pool.blocks ranges
      → AreUnderWay new.pool.blocks (ranges ++ run.range ∷ [])
  pub kept : (past : ℕ) (kept : List IndexEntry) → NoneFree old.pool.blocks past kept
      → NoneFree new.pool.blocks past kept
  pub spares : (past : ℕ) (kept : List IndexEntry) → NoneFree old.pool.blocks past kept
      → SparesAll old.pool.blocks.parity old.pool.blocks.births kept (put_run run.range)

-- the turn of a put that is refused so
abbrev pub refused_turn : PutRefused → Turn PutRun
refused_turn refused.Full = Done answer.Full
refused_turn (refused.NoSpace sectors) = Done (answer.NoSpace sectors)
refused_turn (refused.Busy by) = Busy by
refused_turn refused.NoMemory = Done answer.NoMemory

-- Why a put of so many bytes ends in its first turn.
abbrev pub IsPutRefused : Core → Core → ℕ → ℕ → Answer → Type 0
IsPutRefused old new id len (answer.TooManyFailed out) =
    HasTooManyOut old × (out ≡ old.pool.out) × (new ≡ old)
IsPutRefused old new id len answer.Full =
    (HasTooManyOut old → ⊥) × IsFull old.pool.blocks.table id × LeavesBlocks old new
IsPutRefused old new id len (answer.NoSpace sectors) = (HasTooManyOut old → ⊥)
    × (sectors ≡ sectors_taken old.pool.uber.parity old.pool.uber.births len (old.begun + 1))
    × HasNoFreeRun old.pool.blocks.space old.holds sectors × LeavesBlocks old new
IsPutRefused old new id len answer.NoMemory = (HasTooManyOut old → ⊥) × LeavesBlocks old new
IsPutRefused old new id len other = ⊥

-- what the first turn of a put comes to
abbrev pub BeginsPutTurn : Core → Core → ℕ → ℕ → ℕ → Turn PutRun → Type 0
BeginsPutTurn old new actor id len (More run) = BeginsPutSo old new actor id len run
BeginsPutTurn old new actor id len (Busy by) = (HasTooManyOut old → ⊥) × LeavesBlocks old new
    × IsBusySpace old.pool.blocks.space old.holds
    (sectors_taken old.pool.uber.parity old.pool.uber.births len (old.begun + 1)) by
BeginsPutTurn old new actor id len (Done given) = IsPutRefused old new id len given

-- what a put's block is made up for
abbrev pub to_fill_of : PutRun → ToFill
to_fill_of run = record { layout = run.range.layout; reflow = run.reflow; done = run.done; len = run.len }

-- the same, unless the block was filled in
abbrev pub left_to_fill : PutRun → Option Filled → Option ToFill
left_to_fill run (Some filled) = None
left_to_fill run None = Some (to_fill_of run)

-- A block of these bytes can be made up for it.
pub record IsFillable (block : ToFill) (content : List ℕ) : Type 0 where
  pub pool : IsInPool block.layout block.reflow
  pub front : IsFrontOf block.reflow block.done
  pub sectors : sectors_for block.len ≡ block.layout.sectors
  pub len : length content ≡ block.len

-- A block of these bytes was made up for it: their columns, of which nothing was written yet.
pub record IsMadeUp (block : ToFill) (filled : Filled) (content : List ℕ) : Type 0 where
  pub next : filled.write.next ≡ 0
  pub plan : IsPlanOf block.layout block.reflow block.done content filled.write.rows filled.write.writes
  pub writes : filled.write.writes ≡ writes_of block.layout block.reflow block.done
  pub digest_is : filled.digest ≡ sha256 content

-- A put's block was filled in.
pub record FillsPut (old new : PutRun) (content : List ℕ) : Type 0 where
  pub filled : Filled
  pub rest : new ≡ record old { filled = Some filled }
  pub made : IsMadeUp (to_fill_of old) filled content

-- A put is given up: its hold has ended, its sectors are free, and its id is no longer reserved for it.
pub record GivesUp (old new : Core) (run : PutRun) : Type 0 where
  pub rest : new ≡ record old { pool = record old.pool { blocks = new.pool.blocks }; holds = new.holds }
  pub ends : EndsHold old.holds new.holds run.hold
  pub parity : new.pool.blocks.parity ≡ old.pool.blocks.parity
  pub births : new.pool.blocks.births ≡ old.pool.blocks.births
  pub entries : new.pool.blocks.table.entries ≡ old.pool.blocks.table.entries
  pub reserved : new.pool.blocks.table.reserved ≡ without_one run.range.id old.pool.blocks.table.reserved
  pub dropped : IsDropping old.pool.blocks.space new.pool.blocks.space run.range.layout.start
      (allocated_of run.range.layout)
  pub under : (left ranges : List PutRange) → Gains left ranges run.range
      → AreUnderWay old.pool.blocks ranges → AreUnderWay new.pool.blocks left
  pub kept : (past : ℕ) (kept : List IndexEntry)
      → SparesAll old.pool.blocks.parity old.pool.blocks.births kept (put_run run.range)
      → NoneFree old.pool.blocks past kept → NoneFree new.pool.blocks past kept

-- It was given up because too many devices are out.
pub record IsStoppedPut (old new : Core) (run : PutRun) (given : Answer) : Type 0 where
  pub many : HasTooManyOut old
  pub given_is : given ≡ answer.TooManyFailed old.pool.out
  pub gives_up : GivesUp old new run

-- a put's block of which one write more was made or passed over
abbrev pub written_once : Filled → Filled
written_once filled = record filled { write = record filled.write { next = filled.write.next + 1 } }

-- The next write of a block that was filled in was made, or passed over where its device is out.
pub record WritesNext (old : PutRun) (before : Point) (new : PutRun) (after : Point) : Type 0 where
  pub filled : Filled
  pub filled_is : old.filled ≡ Some filled
  pub write : Write
  pub write_is : slice_get filled.write.writes filled.write.next ≡ Some write
  pub next_is : new ≡ record old { filled = Some (written_once filled) }
  pub made : IsPassedOrMade filled.write.rows write before after

-- a block behind a look at its next place, by whether that reads otherwise than the block has it
abbrev pub looked_at : PutRun → Filled → Bool → PutRun
looked_at run filled true = run
looked_at run filled false = record run { filled = Some (written_once filled) }

-- The next place of a block that was filled in was looked at, and passed over unless it reads otherwise.
pub record ChecksNext (old : PutRun) (before : Point) (otherwise : Bool) (new : PutRun) (after : Point) : Type 0
  where
    pub filled : Filled
    pub filled_is : old.filled ≡ Some filled
    pub write : Write
    pub write_is : slice_get filled.write.writes filled.write.next ≡ Some write
    pub next_is : new ≡ looked_at old filled otherwise
    pub checks : ChecksPlace filled.write.rows write otherwise before after

-- The next write of a put was made, or passed over where its device is out.
pub record WritesOne (before : CoreState) (run : PutRun) (after : CoreState) (next : PutRun) : Type 0 where
  pub few : HasTooManyOut before.core → ⊥
  pub writes : WritesNext run (point_of before.core.pool.out before.disk) next
      (point_of after.core.pool.out after.disk)
  pub rest : after.core ≡ record before.core { pool = record before.core.pool { out = after.core.pool.out } }

-- what a turn that writes comes to
abbrev pub WritesTurn : CoreState → PutRun → CoreState → Turn PutRun → Type 0
WritesTurn before run after (More next) = WritesOne before run after next
WritesTurn before run after (Busy by) = ⊥
WritesTurn before run after (Done given) = IsStoppedPut before.core after.core run given
    × (after.disk ≡ before.disk)

-- A put that goes on is one of this pool still, and under way.
abbrev pub IsMorePut : Core → Turn PutRun → Type 0
IsMorePut core (More run) = IsPutOf core run × IsUnderWay core.pool.blocks run.range
IsMorePut core other = ⊤

-- the entry of a put's block
abbrev pub filled_entry : PutRun → Filled → IndexEntry
filled_entry run filled = record {
  id = run.range.id;
  start = run.range.layout.start;
  len = run.len;
  birth = run.range.birth;
  digest = filled.digest;
}

-- A put ends: its block stands in the table, its hold has ended, and the sectors of the block that it replaces,
-- if there is one, are held back until the open group is answered.
pub record StoresBlock (old new : Core) (run : PutRun) : Type 0 where
  pub few : HasTooManyOut old → ⊥
  pub filled : Filled
  pub filled_is : run.filled ≡ Some filled
  pub rest : new ≡ record old { pool = record old.pool { blocks = new.pool.blocks }; holds = new.holds }
  pub ends : EndsHold old.holds new.holds run.hold
  pub parity : new.pool.blocks.parity ≡ old.pool.blocks.parity
  pub births : new.pool.blocks.births ≡ old.pool.blocks.births
  pub change : ChangesOnly old.pool.blocks.table.entries new.pool.blocks.table.entries run.range.id
      (Some (filled_entry run filled))
  pub reserved : new.pool.blocks.table.reserved ≡ without_one run.range.id old.pool.blocks.table.reserved
  pub held : HoldsBack old.pool.blocks.parity old.pool.blocks.births old.pool.blocks.space
      new.pool.blocks.space (old.begun + 1) (entry_of old.pool.blocks.table.entries run.range.id)
  pub under : (left ranges : List PutRange) → Gains left ranges run.range
      → AreUnderWay old.pool.blocks ranges → AreUnderWay new.pool.blocks left
  pub kept : (past : ℕ) (kept : List IndexEntry) → past < old.begun + 1
      → NoneFree old.pool.blocks past kept → NoneFree new.pool.blocks past kept

-- what the last turn of a put comes to
abbrev pub EndsPut : Core → PutRun → Core → Turn PutRun → Type 0
EndsPut old run new (Done answer.Stored) = StoresBlock old new run
EndsPut old run new (Done (answer.TooManyFailed out)) = IsStoppedPut old new run (answer.TooManyFailed out)
EndsPut old run new other = ⊥

-- what a turn that gives up comes to: memory was exhausted to fill the block in
abbrev pub GivesUpTurn : Core → PutRun → Core → Turn PutRun → Type 0
GivesUpTurn old run new (Done answer.NoMemory) = (HasTooManyOut old → ⊥) × GivesUp old new run
GivesUpTurn old run new (Done (answer.TooManyFailed out)) = IsStoppedPut old new run (answer.TooManyFailed out)
GivesUpTurn old run new other = ⊥

-- A put is one of these bytes, and what it has written of them so far stands on the devices in use.
pub record HoldsPut (content : List ℕ) (state : CoreState) (run : PutRun) : Type 0 where
  pub len_is : length content ≡ run.len
  pub are_bytes : AreBytes content
  pub so_far : (filled : Filled) → run.filled ≡ Some filled
      → (filled.digest ≡ sha256 content)
      × IsWrittenSoFar run.range.layout content state.core.pool.uber.reflow
      state.core.pool.done state.disk.reads state.core.pool.out filled.write
