-- Gets and sums, turn by turn.
use Rattle.std.specs.Prelude.{◌≡◌, ℕ, ◌+◌, ◌^◌, ◌<◌, ◌≤◌, List, length, Some, None, Contains, ⊤, Option, []}
use Rattle.sha2.specs.Sha256.{sha256}
use Rattle.width_map.specs.Births.{width_of_birth}
use Rattle.range_locks.specs.declared.hold.Hold.{Hold}
use Rattle.range_locks.specs.declared.hold.HoldKind.TheVariants.{Shared}
use Rattle.range_locks.specs.Holds.{IsBusyBy, IsClear, EndsHold}
use Rattle.row_layout.specs.Layout.{Layout, allocated_of, columns_of, rows_of}
use Rattle.space_alloc.specs.Space.{Gains}
use Rattle.block_record.specs.declared.entry.IndexEntry.{IndexEntry}
use Rattle.block_record.specs.Page.{IsRightEntry}
use Rattle.block_table.specs.Table.{entry_of}
use Rattle.reconstruct.specs.Lost.{AreBytes}
use Rattle.reconstruct.specs.Rows.{column_at, sectors_for}
use Rattle.reconstruct.specs.Solved.{IsDamaged, IsDecoded, Question}
use Rattle.uberblock_ring.specs.Uberblock.{Uber}
use Rattle.uberblock_ring.specs.Devices.{count_of}
use Rattle.core_state.specs.declared.answer.Answer.{Answer}
use Rattle.core_state.specs.declared.answer.Answer.TheVariants as answer
use Rattle.core_state.specs.declared.answer.Kind.{Kind}
use Rattle.core_state.specs.declared.answer.Kind.TheVariants as kind
use Rattle.core_state.specs.Map.{Map}
use Rattle.core_state.specs.Index.{layout_of}
use Rattle.core_state.specs.Legal.{IsReadOf}
use Rattle.core_state.specs.Committing.{point_of}
use Rattle.core_client.specs.declared.columns_read.ColumnsRead.{ColumnsRead}
use Rattle.core_client.specs.Pool.{IsInPool, IsRightBlock}
use Rattle.core_client.specs.Asked.{question_of}
use Rattle.core_client.specs.Got.{IsShapedAs}
use Rattle.core_client.specs.declared.widths.Widths.{Widths}
use Rattle.core_client.specs.BlockTurns.{IsReadBegun, ReadsColumn, IsReadSoFar}
use Rattle.core_turns.specs.declared.getting.GetRun.{GetRun}
use Rattle.core_turns.specs.declared.solving.Solved.{Solved}
use Rattle.core_turns.specs.declared.solving.Solved.TheVariants.{NotYet, Bytes, Damaged}
use Rattle.core_turns.specs.declared.solving.ToSolve.{ToSolve}
use Rattle.core_turns.specs.declared.turn.Turn.{Turn}
use Rattle.core_turns.specs.declared.turn.Turn.TheVariants.{More, Busy, Done}
use Rattle.core_turns.specs.Core.{Core, CoreState}
use Rattle.core_state.specs.Whole.{Excepted}

-- the calls that read a block
abbrev pub IsReadKind : Kind → Type 0
IsReadKind kind.Get = ⊤
IsReadKind kind.Sum = ⊤
IsReadKind other = ⊥

-- A layout can be made of the entry's block.
pub record HasLayout (uber : Uber) (entry : IndexEntry) : Type 0 where
  pub right : IsRightEntry entry
  pub start : entry.start < 2 ^ 54
  pub wide : uber.parity < width_of_birth uber.births entry.birth
  pub narrow : width_of_birth uber.births entry.birth ≤ 64
  pub some_lost : 1 ≤ uber.parity
  pub few_lost : uber.parity ≤ 3

-- the hold of a call on its block
abbrev pub hold_of : Uber → IndexEntry → ℕ → Hold
hold_of uber entry actor = record {
  lo = entry.start;
  hi = entry.start + allocated_of (layout_of uber.parity uber.births entry);
  actor = actor;
  kind = Shared;
}

-- The read is one of a block of this pool, whose sectors it holds.
pub record IsGetOf (core : Core) (run : GetRun) : Type 0 where
  pub layout_is : run.read.layout ≡ layout_of core.pool.uber.parity core.pool.uber.births run.entry
  pub pool : IsInPool run.read.layout core.pool.uber.reflow
  pub born : run.entry.birth ≤ core.begun + 1
  pub holds : Contains core.holds run.hold
  pub actor : ℕ
  pub hold_is : run.hold ≡ hold_of core.pool.uber run.entry actor

-- More devices are out than there are parities.
abbrev pub HasTooManyOut : Core → Type 0
HasTooManyOut core = core.pool.uber.parity < count_of core.pool.out

-- Why a read of an id ends in its first turn.
abbrev pub IsGetRefused : Core → ℕ → Answer → Type 0
IsGetRefused core id (answer.TooManyFailed out) = HasTooManyOut core × (out ≡ core.pool.out)
IsGetRefused core id answer.Absent =
    (HasTooManyOut core → ⊥) × (entry_of core.pool.blocks.table.entries id ≡ None)
IsGetRefused core id answer.NoMemory = HasTooManyOut core → ⊥
IsGetRefused core id other = ⊥

-- the widths of a pool as they are where a read begins
abbrev pub pool_widths : Uber → Widths
pool_widths uber = record { births = uber.births; to = uber.reflow.to; mark = uber.reflow.mark }

-- what the first turn of a read comes to
abbrev pub BeginsGet : Core → Core → ℕ → Kind → ℕ → Turn GetRun → Type 0
BeginsGet old new actor asked id (More run) = (HasTooManyOut old → ⊥)
    × (entry_of old.pool.blocks.table.entries id ≡ Some run.entry) × (run.kind ≡ asked)
    × (run.solved ≡ NotYet)
    × (run.hold ≡ hold_of old.pool.uber run.entry actor)
    × IsReadBegun (layout_of old.pool.uber.parity old.pool.uber.births run.entry) run.read
    × (new ≡ record old { holds = new.holds }) × IsGetOf new run
    × IsClear old.holds run.hold.lo run.hold.hi Shared
    × Gains old.holds new.holds run.hold × (run.widths ≡ pool_widths old.pool.uber)
BeginsGet old new actor asked id (Busy by) = (HasTooManyOut old → ⊥) × (new ≡ old)
    × ((entry : IndexEntry) × (entry_of old.pool.blocks.table.entries id ≡ Some entry)
    × (let hold : Hold = hold_of old.pool.uber entry actor in IsBusyBy old.holds hold.lo hold.hi Shared by))
BeginsGet old new actor asked id (Done given) = (new ≡ old) × IsGetRefused old id given

-- The call is answered so where too many devices are out: its hold has ended, and nothing else changed.
pub record IsStoppedGet (old new : Core) (hold : Hold) (given : Answer) : Type 0 where
  pub many : HasTooManyOut old
  pub given_is : given ≡ answer.TooManyFailed old.pool.out
  pub rest : new ≡ record old { holds = new.holds }
  pub ends : EndsHold old.holds new.holds hold

-- what a turn that reads a column comes to
abbrev pub ReadsTurn : CoreState → GetRun → CoreState → Turn GetRun → Type 0
ReadsTurn before run after (More next) = (HasTooManyOut before.core → ⊥)
    × (next ≡ record run { read = next.read })
    × (after.core ≡ record before.core { pool = record before.core.pool { out = after.core.pool.out } })
    × ReadsColumn before.core.pool.uber.reflow run.read (point_of before.core.pool.out before.disk)
    next.read (point_of after.core.pool.out after.disk)
ReadsTurn before run after (Busy by) = ⊥
ReadsTurn before run after (Done given) = IsStoppedGet before.core after.core run.hold given
    × (after.disk ≡ before.disk)

-- what a read is to solve
abbrev pub to_solve_of : GetRun → ToSolve
to_solve_of run = record {
  layout = run.read.layout;
  read = run.read.read;
  len = run.entry.len;
  digest = run.entry.digest;
  widths = run.widths;
}

-- It can be solved.
pub record IsSolvable (block : ToSolve) : Type 0 where
  pub shape : IsShapedAs block.layout block.read
  pub len : sectors_for block.len ≡ block.layout.sectors

-- what is asked of its columns
abbrev pub question_for : ToSolve → Question
question_for block = question_of block.layout block.read block.len block.digest block.widths

-- What was solved has the block's length, and is what the first choice of suspects tells of the columns that tells
-- bytes of its digest; it is damaged only where none does.
abbrev pub IsSolved : ToSolve → Solved → Type 0
IsSolved block NotYet = ⊥
IsSolved block (Bytes bytes) = (length bytes ≡ block.len) × IsDecoded (question_for block) bytes
IsSolved block Damaged = IsDamaged (question_for block)

-- Two readings of a block got the same in a row,
abbrev pub HasSameRow : Layout → ColumnsRead → ColumnsRead → ℕ → Type 0
HasSameRow layout one other row = (column : ℕ) → column < columns_of layout
    → column_at one.rows row column ≡ column_at other.rows row column

-- and in all rows, and lost the same.
pub record HasSameColumns (layout : Layout) (one other : ColumnsRead) : Type 0 where
  pub lost : one.lost.items ≡ other.lost.items
  pub rows : (row : ℕ) → row < rows_of layout → HasSameRow layout one other row

-- They are of the same block,
pub record AreOfOneBlock (one other : ToSolve) : Type 0 where
  pub layout : one.layout ≡ other.layout
  pub len : one.len ≡ other.len
  pub digest : one.digest ≡ other.digest

-- in a pool of the same widths, and the same was read of it.
pub record IsAlike (one other : ToSolve) : Type 0 where
  pub block : AreOfOneBlock one other
  pub widths : one.widths ≡ other.widths
  pub columns : HasSameColumns other.layout one.read other.read

-- The block was solved from what was read.
pub record SolvesGet (old new : GetRun) : Type 0 where
  pub rest : new ≡ record old { solved = new.solved }
  pub solved : IsSolved (to_solve_of old) new.solved

-- a get answers the bytes, a sum their length and digest
abbrev pub answer_of : Kind → IndexEntry → List ℕ → Answer
answer_of kind.Sum entry bytes = answer.Digest entry.len entry.digest
answer_of other entry bytes = answer.Read bytes

abbrev pub AnswersSolved : GetRun → Solved → Answer → Type 0
AnswersSolved run NotYet given = given ≡ answer.NoMemory
AnswersSolved run (Bytes bytes) given = given ≡ answer_of run.kind run.entry bytes
AnswersSolved run Damaged given = given ≡ answer.Damaged

-- A read ends: its hold too, and it is answered by what was solved, unless too many devices are out.
pub record EndsGetSo (old new : Core) (run : GetRun) (given : Answer) : Type 0 where
  pub rest : new ≡ record old { holds = new.holds }
  pub ends : EndsHold old.holds new.holds run.hold
  pub too_many : HasTooManyOut old → given ≡ answer.TooManyFailed old.pool.out
  pub solved : (HasTooManyOut old → ⊥) → AnswersSolved run run.solved given

abbrev pub EndsGet : Core → GetRun → Core → Turn GetRun → Type 0
EndsGet old run new (Done given) = EndsGetSo old new run given
EndsGet old run new other = ⊥

-- A read of what an id has is right, or was cut short.
abbrev pub IsReadRight : Option (List ℕ) → Kind → Answer → Type 0
IsReadRight held asked answer.Damaged = ⊥
IsReadRight held asked (answer.TooManyFailed out) = ⊤
IsReadRight held asked answer.NoMemory = ⊤
IsReadRight held asked other = IsReadOf held asked other

-- What was solved is this block.
abbrev pub IsSolvedAs : List ℕ → Solved → Type 0
IsSolvedAs content NotYet = ⊤
IsSolvedAs content (Bytes bytes) = bytes ≡ content
IsSolvedAs content Damaged = ⊥

-- A read is of a block of these bytes, which is right on the devices in use but for what may be wrong; what was read so
-- far are its columns, and what was solved is it where nothing may be wrong.
pub record HoldsGet (wrong : Excepted) (content : List ℕ) (state : CoreState) (run : GetRun) : Type 0 where
  pub right : IsRightBlock run.read.layout content state.core.pool.uber.reflow
      state.core.pool.done state.disk.reads state.core.pool.out wrong
  pub len_is : length content ≡ run.entry.len
  pub are_bytes : AreBytes content
  pub digest_is : sha256 content ≡ run.entry.digest
  pub so_far : IsReadSoFar content state.core.pool.uber.reflow state.core.pool.out wrong run.read
  pub solved : wrong ≡ [] → (HasTooManyOut state.core → ⊥) → IsSolvedAs content run.solved

-- What a read that begins finds in a map: its block, or nothing.
abbrev pub FindsGet : Excepted → Map → CoreState → ℕ → Turn GetRun → Type 0
FindsGet wrong map state id (More run) =
    (content : List ℕ) × (map id ≡ Some content) × HoldsGet wrong content state run
FindsGet wrong map state id (Busy by) = ⊤
FindsGet wrong map state id (Done given) = given ≡ answer.Absent → map id ≡ None

-- A read goes on with its block.
abbrev pub KeepsGet : Excepted → List ℕ → CoreState → Turn GetRun → Type 0
KeepsGet wrong content state (More run) = HoldsGet wrong content state run
KeepsGet wrong content state other = ⊤

-- A read is answered by its block, or was cut short.
abbrev pub TellsGet : List ℕ → GetRun → Turn GetRun → Type 0
TellsGet content run (Done given) = IsReadRight (Some content) run.kind given
TellsGet content run other = ⊤

-- A read that goes on is one of a block of this pool still.
abbrev pub IsMoreOf : Core → Turn GetRun → Type 0
IsMoreOf core (More run) = IsGetOf core run
IsMoreOf core other = ⊤
