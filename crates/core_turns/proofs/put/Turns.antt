-- Puts, turn by turn: how one begins, and is filled in.
use Rattle.core_turns.proofs.Words.{◌≡◌, ℕ, ◌+◌, ◌≤◌, List, ◌∷◌, [], ◌++◌, length, Some, None, Result, Ok, Err}
use Rattle.core_turns.proofs.Words.{append-nil, sym, subst, arith, OnOk, OnErr, slice_get, slice_get_within, Hold}
use Rattle.core_turns.proofs.Words.{allocated_of, Reflow, Write, Gains, IsDropping, Rows, IndexEntry, PutRange}
use Rattle.core_turns.proofs.Words.{PutRefused, Blocks, AreInStep, AreUnderWay, IsUnderWay, put_run, NoneFree}
use Rattle.core_turns.proofs.Words.{SparesAll, BeginsPut, IsAsBefore, IsPutCause, IsRangeFor, sectors_taken, gains_item}
use Rattle.core_turns.proofs.Words.{adds_none, adds_taken_back, IsInPool, IsPlanOf, range_in_pool, OutOfMemory, Filled}
use Rattle.core_turns.proofs.Words.{PutRun, More, Core, IsCore, as_begun, HasTooManyOut, BeginsPutTurn, FillsPut}
use Rattle.core_turns.proofs.Words.{IsFilledWith, IsPutOf, LeavesBlocks, hold_on, refused_turn, written_once}
use Rattle.core_blocks.specs.declared.refused.PutRefused.TheVariants as refused
use Rattle.core_turns.proofs.state.Cores.{core_blocks}
use Rattle.core_turns.proofs.state.Holds.{shared_gained}
use Rattle.core_turns.proofs.put.Moved.{plan_moves}
use Rattle.core_turns.proofs.free.TakenBack.{was_there}

-- What is filled in is one.
pub same_filled : {one two : Filled} → Some one ≡ Some two → one ≡ two
same_filled is = cc

-- ---- the first turn

-- A run of sectors was taken for a put.
module _ {core : Core} {begun : Blocks} {range : PutRange} (begins : BeginsPut core.pool.blocks begun core.holds range)
    (under : (ranges : List PutRange) → AreUnderWay core.pool.blocks ranges → AreUnderWay begun (ranges ++ range ∷ []))
    (kept : (past : ℕ) (kept : List IndexEntry) → NoneFree core.pool.blocks past kept → NoneFree begun past kept)
    (spares : (past : ℕ) (kept : List IndexEntry) → NoneFree core.pool.blocks past kept
    → SparesAll core.pool.blocks.parity core.pool.blocks.births kept (put_run range)) where
  -- The put begins,
  pub put_begins : {actor id len : ℕ} {hold : Hold} {holds : List Hold} {reflow : Reflow} → IsCore core
      → (HasTooManyOut core → ⊥) → 1 ≤ len → len ≤ 65536 → IsRangeFor begun id len (core.begun + 1) range
      → IsUnderWay begun range → hold ≡ hold_on range actor → Gains core.holds holds hold
      → reflow ≡ core.pool.uber.reflow
      → BeginsPutTurn core (record core { pool = record core.pool { blocks = begun }; holds = holds }) actor id len
      (More (record { hold = hold; range = range; len = len; reflow = reflow; done = core.pool.done; filled = None }))
  put_begins {id = id} {len} {hold} {holds} {reflow} is few some short of way hold_is held same = search its_of
    where
      pool : IsInPool range.layout core.pool.uber.reflow
      pool = range_in_pool (as_begun core) begun range id len (core.begun + 1) core.holds is.is begins.parity
          begins.births of begins.first some short

      its_of : IsPutOf (record core { pool = record core.pool { blocks = begun }; holds = holds })
          (record { hold = hold; range = range; len = len; reflow = reflow; done = core.pool.done; filled = None })
      its_of = record {
        pool = pool;
        front = is.is.front;
        begun_pool = rw same pool;
        begun_front = search arith;
        places = search arith;
        range = search arith;
        born = search arith;
        len = (some, short);
        holds = gains_item core.holds holds hold held;
        hold_is = cc;
        filled = λ filled is_filled. cc;
      }

  -- or is given up at once, which leaves the blocks.
  pub put_dropped : {after : Blocks} {holds : List Hold} → holds ≡ core.holds
      → after.parity ≡ begun.parity → after.births ≡ begun.births → after.table.entries ≡ begun.table.entries
      → IsDropping begun.space after.space range.layout.start (allocated_of range.layout)
      → ((left ranges : List PutRange) → Gains left ranges range → AreUnderWay begun ranges → AreUnderWay after left)
      → ((past : ℕ) (kept : List IndexEntry) → SparesAll begun.parity begun.births kept (put_run range)
      → NoneFree begun past kept → NoneFree after past kept)
      → LeavesBlocks core (record core { pool = record core.pool { blocks = after }; holds = holds })
  put_dropped {after} {holds} same parity births entries dropped under_after kept_after =
      search (adds_taken_back, was_there, under_on, kept_on, arith)
    where
      under_on : (ranges : List PutRange) → AreUnderWay core.pool.blocks ranges → AreUnderWay after ranges
      under_on ranges all = under_after ranges (ranges ++ range ∷ []) (search (append-nil, arith)) (under ranges all)

      kept_on : (past : ℕ) (group : List IndexEntry) → NoneFree core.pool.blocks past group → NoneFree after past group
      kept_on past group none =
          kept_after past group (rw (begins.parity, begins.births) (spares past group none)) (kept past group none)

-- The core of a put that begins is one still.
pub put_begins_core : {core : Core} {actor : ℕ} {range : PutRange} {begun : Blocks} {hold : Hold} {holds : List Hold}
    → IsCore core → BeginsPut core.pool.blocks begun core.holds range → AreInStep begun → hold ≡ hold_on range actor
    → Gains core.holds holds hold → IsCore (record core { pool = record core.pool { blocks = begun }; holds = holds })
put_begins_core {core} {hold = hold} {holds} is begins step hold_is gains =
    core_blocks is begins.parity begins.births begins.taken.capacity (search arith) step
    (shared_gained core.holds holds hold (cc) gains)

-- A put is refused: its core keeps its blocks.
pub put_refused : {core : Core} {after : Blocks} (actor id len : ℕ) (why : PutRefused) → IsCore core
    → (HasTooManyOut core → ⊥) → IsAsBefore core.pool.blocks after
    → ((ranges : List PutRange) → AreUnderWay core.pool.blocks ranges → AreUnderWay after ranges)
    → ((past : ℕ) (kept : List IndexEntry) → NoneFree core.pool.blocks past kept → NoneFree after past kept)
    → IsPutCause core.pool.blocks core.holds id
    (sectors_taken core.pool.blocks.parity core.pool.blocks.births len (core.begun + 1)) why
    → BeginsPutTurn core (record core { pool = record core.pool { blocks = after } }) actor id len (refused_turn why)
put_refused {core} {after} actor id len why is few same under kept cause = search (by, arith)
  where
    leaves : LeavesBlocks core (record core { pool = record core.pool { blocks = after } })
    leaves = search (adds_none, arith)

    by : (why : PutRefused) → IsPutCause core.pool.blocks core.holds id
        (sectors_taken core.pool.uber.parity core.pool.uber.births len (core.begun + 1)) why
        → BeginsPutTurn core (record core { pool = record core.pool { blocks = after } }) actor id len
        (refused_turn why)
    by refused.Full cause = (few, cause, leaves)
    by (refused.NoSpace sectors) cause = (few, cause.1, rw cause.1 cause.0, leaves)
    by (refused.Busy by_actor) cause = (few, leaves, cause)
    by refused.NoMemory cause = (few, leaves)

-- ---- filling in

-- A put with these columns is one of its pool still, if they are of some bytes.
filled_of : {core : Core} {run : PutRun} {filled : Filled} {content : List ℕ}
    → IsFilledWith core (record run { filled = Some filled }) filled content → IsPutOf core run
    → IsPutOf core (record run { filled = Some filled })
filled_of {run = run} {filled} {content} with of = search (same_filled, with, content, arith)

-- What is filled in for the widths and the front of the put's begin is the pool's block now.
pub plan_now : {core : Core} {run : PutRun} {content : List ℕ} {rows : Rows} {writes : List Write} → IsPutOf core run
    → IsPlanOf run.range.layout run.reflow run.done content rows writes
    → IsPlanOf run.range.layout core.pool.uber.reflow core.pool.done content rows writes
plan_now of plan = plan_moves of.places of.pool of.front plan

-- So it is where a block of the put's length is filled in,
pub fills_of : (core : Core) (old new : PutRun) (content : List ℕ) → FillsPut old new content → length content ≡ old.len
    → IsPutOf core old → IsPutOf core new
fills_of core old new content fills len of = subst (IsPutOf core) (sym fills.rest)
    (filled_of {content = content} (search (plan_now, arith)) of)

-- whether memory was exhausted for that or not,
pub went_filled : (old new : PutRun) (content : List ℕ) (result : Result (Unit {0}) OutOfMemory)
    → OnOk result (FillsPut old new content) → OnErr result (new ≡ old) → length content ≡ old.len
    → (core : Core) → IsPutOf core old → IsPutOf core new
went_filled old new content (Ok value) fills same len core of = fills_of core old new content fills len of
went_filled old new content (Err why) fills same len core of = rw same of

-- and where one more is written.
pub written_of : (core : Core) (run : PutRun) (filled : Filled) (write : Write) → run.filled ≡ Some filled
    → slice_get filled.write.writes filled.write.next ≡ Some write → IsPutOf core run
    → IsPutOf core (record run { filled = Some (written_once filled) })
written_of core run filled write is there of = search (filled_of, slice_get_within, arith)
