-- One write of a block: where it goes, what it leaves of other blocks, and what stands of the block then. And where the
-- blocks of the groups that stand lie.
use Rattle.core_turns.proofs.Words.{blocks_of, ◌≡◌, ℕ, List, Option, Some, arith, Contains, TouchesOnly, Reflow, Layout}
use Rattle.core_turns.proofs.Words.{stop_asks_no_more, writes_of, are_required, IndexEntry, Map, layout_of, Kept}
use Rattle.core_turns.proofs.Words.{Setting, IsSound, point_of, layout_run, AreClear, OnlyFailedGoOut, IsInPool}
use Rattle.core_turns.proofs.Words.{listed_at, written_more, CommitRun, entry_in_pool, tells_at, PutRun, CoreState}
use Rattle.core_turns.proofs.Words.{IsCore, IsPutOf, HoldsPut, HoldingCall, Putting, Reading, Copying, CommitStands}
use Rattle.core_turns.proofs.Words.{IsCallOfCore, Damage, Stands}
use Rattle.core_turns.proofs.put.Places.{IsWrittenTo, AreInPool}
use Rattle.core_turns.proofs.sync.Ends.{layout_same}
use Rattle.core_turns.proofs.state.Cores.{bank_within}
use Rattle.core_turns.proofs.sync.Begins.{core_follows}
use Rattle.core_turns.proofs.state.Frames.{IsCallOff, IsOff, off_written}
use Rattle.core_turns.proofs.state.Calls.{blocks_clear}
use Rattle.core_turns.proofs.copy.Beside.{job_off_written}
use Rattle.core_turns.proofs.put.Goes.{outs_by_write, touches_by_write}
use Rattle.core_turns.proofs.put.Turns.{same_filled}
use Rattle.core_turns.proofs.state.Writes.{written_by}
use Rattle.core_turns.proofs.Words.{Core, Filled, HasBankOf, Scrubbing, Write, slice_get, ShareNoSector, Tells}
use Rattle.core_turns.proofs.Words.{WritesNext, hold_of_call}

-- ---- a write

-- A write of what was filled in is one of its block's.
pub write_is_listed : {core : Core} {run : PutRun} {filled : Filled} {write : Write} → IsPutOf core run
    → run.filled ≡ Some filled → slice_get filled.write.writes filled.write.next ≡ Some write
    → Contains (writes_of run.range.layout core.pool.uber.reflow core.pool.done) write
write_is_listed {core} {run} {filled} {write} of some there =
    let is = (of.filled filled some).1.plan.required.only write (search listed_at) in
    (are_required run.range.layout core.pool.uber.reflow core.pool.done).all write.row write.column write.device
    write.device_sector is.0 is.1

module _ {before : CoreState} (after : CoreState) {run next : PutRun} (is : IsCore before.core)
    (of : IsPutOf before.core run)
    (writes : WritesNext run (point_of before.core.pool.out before.disk) next
    (point_of after.core.pool.out after.disk)) where
  abbrev reflow : Reflow
  reflow = before.core.pool.uber.reflow

  abbrev done : ℕ
  done = before.core.pool.done

  abbrev layout : Layout
  layout = run.range.layout

  abbrev places : ℕ → ℕ → Type 0
  places = IsWrittenTo layout reflow done before.core.pool.out

  -- At most the write's device goes out.
  pub write_outs : OnlyFailedGoOut (point_of before.core.pool.out before.disk)
      (point_of after.core.pool.out after.disk)
  write_outs = outs_by_write writes.made

  -- The write is one of the block's,
  write_listed : Contains (writes_of layout reflow done) writes.write
  write_listed = write_is_listed of writes.filled_is writes.write_is

  -- so nothing is touched but the block's places.
  pub write_touches : TouchesOnly places before.disk after.disk
  write_touches = touches_by_write places (search (write_listed, arith)) writes.made

  -- Blocks that have no sector of it are off these places,
  pub layout_clear : (other : Layout) → IsInPool other reflow → AreClear (layout_run layout) (layout_run other)
      → IsOff places reflow done other
  layout_clear other = off_written reflow done layout other before.core.pool.out is.is.front of.pool

  -- and so is what calls rely on that hold none of its sectors.
  pub call_clear : (call : HoldingCall) → ShareNoSector run.hold (hold_of_call call) → IsCallOfCore before.core call
      → IsCallOff places reflow done call
  call_clear (Putting other) clear its = layout_clear other.range.layout its.pool (blocks_clear run.hold other.hold
      layout other.range.layout (cc) (cc) (cc) (cc) clear)
  call_clear (Reading other) clear (kind, its) = layout_clear other.read.layout its.pool (blocks_clear run.hold
      other.hold layout other.read.layout (cc) (cc) (cc) (cc) clear)
  call_clear (Scrubbing other) clear its =
      let mend = its.mend in
      let same : ShareNoSector run.hold other.mend.hold = rw its.hold clear in
      let off = layout_clear other.mend.range.layout mend.pool (blocks_clear run.hold other.mend.hold layout
      other.mend.range.layout (cc) (cc) (cc) (cc) same) in
      (rw its.layout at off, off)
  call_clear (Copying other) clear its = job_off_written before.core.pool.out of its clear

  -- One write more of the block stands there.
  pub write_holds : {content : List ℕ} → Tells before.disk → HasBankOf before.core before.disk
      → HoldsPut content before run → HoldsPut content (written_by before after) next
  write_holds {content} tells bank was =
      let so_far = was.so_far writes.filled writes.filled_is in
      rw writes.next_is (record {
        len_is = was.len_is;
        are_bytes = was.are_bytes;
        so_far = λ filled same. rw (← same_filled same) (
          so_far.0,
          written_more layout content reflow done writes.filled.write writes.write
              (point_of before.core.pool.out before.disk) (point_of after.core.pool.out after.disk)
              writes.write_is so_far.1 writes.made (search (tells_at, bank_within, write_listed)),
        );
      })

-- ---- the groups

-- The blocks of the last group lie in the pool,
pub last_inside : {setting : Setting} {last : Kept} {begun : List Kept} {map : Map} {damage : Damage}
    {contents : ℕ → List ℕ} {calls : List HoldingCall} {commit : Option CommitRun} {before : CoreState}
    → IsCore before.core → Stands setting last begun map damage contents calls commit before → IsSound setting last
    → AreInPool last before.core.pool.uber.reflow before.core.pool.done
last_inside {before = before} is stands sound = record {
  asked = λ row_end sector device device_sector inside place. search (stop_asks_no_more, arith);
  each = search (entry_in_pool, arith);
}

-- and those of one that a commit makes,
pub next_layout : {setting : Setting} {last : Kept} {begun : List Kept} {calls : List HoldingCall} {commit : CommitRun}
    {before : CoreState} → IsCore before.core → (groups : CommitStands setting last begun calls commit before)
    → (entry : IndexEntry) → Contains (blocks_of groups.next) entry
    → layout_of groups.next.uber.parity groups.next.uber.births entry
    ≡ layout_of before.core.pool.uber.parity before.core.pool.uber.births entry
next_layout is groups entry listed = search (layout_same, arith)

pub next_inside : {setting : Setting} {last : Kept} {begun : List Kept} {calls : List HoldingCall} {commit : CommitRun}
    {before : CoreState} → IsCore before.core → (groups : CommitStands setting last begun calls commit before)
    → AreInPool groups.next before.core.pool.uber.reflow before.core.pool.done
next_inside {commit = commit} {before} is groups = record {
  asked = λ row_end sector device device_sector inside place.
      (core_follows before.core commit.uber.reflow is groups.of.next.choice).stop row_end sector device
      device_sector inside (search arith);
  each = λ entry listed. rw (next_layout is groups entry listed) (groups.lies.inside entry listed);
}
