-- Puts, turn by turn: the last turn, in which the block comes into the table.
use Rattle.core_turns.proofs.Words.{◌≡◌, ℕ, ◌+◌, ◌<◌, List, Option, Some, refl, arith, Hold, EndsHold, Gains, IsDigest}
use Rattle.core_turns.proofs.Words.{IndexEntry, ChangesOnly, entry_of, without_one, sha256_is_digest, PutRange, Blocks}
use Rattle.core_turns.proofs.Words.{AreInStep, AreUnderWay, range_of, NoneFree, HoldsBack, put_cases, adds_held_back}
use Rattle.core_turns.proofs.Words.{entry_range, Filled, PutRun, Core, IsCore, HasTooManyOut, IsPutOf, StoresBlock}
use Rattle.core_turns.proofs.Words.{filled_entry}
use Rattle.core_turns.proofs.state.Cores.{core_blocks}
use Rattle.core_turns.proofs.state.Holds.{shared_ended}

-- The digest of a put's block is one.
pub put_digest : {core : Core} {run : PutRun} {filled : Filled} → IsPutOf core run → run.filled ≡ Some filled
    → IsDigest filled.digest
put_digest of is = search (sha256_is_digest, arith)

-- The block of a put that ends stands in the table.
pub put_stores : {core : Core} {run : PutRun} {filled : Filled} {entry : IndexEntry} {after : Blocks}
    {holds : List Hold} → IsPutOf core run → (HasTooManyOut core → ⊥) → run.filled ≡ Some filled
    → entry ≡ filled_entry run filled → EndsHold core.holds holds run.hold
    → ChangesOnly core.pool.blocks.table.entries after.table.entries entry.id (Some entry)
    → after.table.reserved ≡ without_one entry.id core.pool.blocks.table.reserved
    → HoldsBack core.pool.blocks.parity core.pool.blocks.births core.pool.blocks.space after.space (core.begun + 1)
    (entry_of core.pool.blocks.table.entries entry.id)
    → after.parity ≡ core.pool.blocks.parity → after.births ≡ core.pool.blocks.births → ((left ranges : List PutRange)
    → Gains left ranges (range_of core.pool.blocks.parity core.pool.blocks.births entry)
    → AreUnderWay core.pool.blocks ranges → AreUnderWay after left)
    → ((past : ℕ) (kept : List IndexEntry) → past < core.begun + 1 → NoneFree core.pool.blocks past kept
    → NoneFree after past kept)
    → StoresBlock core (record core { pool = record core.pool { blocks = after }; holds = holds }) run
put_stores {filled = filled} of few is entry_is ends change reserved held parity births under kept = record {
  few = few;
  filled = filled;
  filled_is = is;
  rest = refl;
  ends = ends;
  parity = parity;
  births = births;
  change = search arith;
  reserved = cc;
  held = search arith;
  under = λ left ranges gains all. under left ranges (search (entry_range, arith)) all;
  kept = kept;
}

-- The core is one still.
pub put_end_core : {core : Core} {run : PutRun} {entry : IndexEntry} {after : Blocks} {holds : List Hold}
    (gone : Option IndexEntry) → IsCore core → IsPutOf core run → entry.birth ≡ run.range.birth
    → ChangesOnly core.pool.blocks.table.entries after.table.entries entry.id (Some entry)
    → HoldsBack core.pool.blocks.parity core.pool.blocks.births core.pool.blocks.space after.space (core.begun + 1) gone
    → after.parity ≡ core.pool.blocks.parity → after.births ≡ core.pool.blocks.births → AreInStep after
    → EndsHold core.holds holds run.hold
    → IsCore (record core { pool = record core.pool { blocks = after }; holds = holds })
put_end_core {core} {run} {after = after} {holds} gone is of birth change held parity births step ends =
    let adds = adds_held_back core.pool.blocks.parity core.pool.blocks.births core.pool.blocks.space after.space
    (core.begun + 1) gone held in
    core_blocks is parity births adds.capacity (search (put_cases, arith)) step
    (shared_ended core.holds holds run.hold (cc) ends)
