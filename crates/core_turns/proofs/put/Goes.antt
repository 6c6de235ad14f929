-- Puts, turn by turn: a turn that writes, and what it does to the bank and the devices.
use Rattle.core_turns.proofs.Words.{◌≡◌, ◌≢◌, ⊎_elim, ℕ, ◌+◌, ◌<◌, List, length, false, true, Some, ap, subst, arith}
use Rattle.core_turns.proofs.Words.{Contains, slice_get, slice_index_or, slice_get-get_or, Disk, TouchesOnly}
use Rattle.core_turns.proofs.Words.{later_refl, touches_none, wrote_touches, Rows, Write, has_device, Point, point_of}
use Rattle.core_turns.proofs.Words.{IsUnderWay, OnlyFailedGoOut, BlockWrite, IsOnBank, IsMade, IsPassedOrMade}
use Rattle.core_turns.proofs.Words.{listed_at, below_by_write, outs_none, outs_called, plan_below, plan_inside}
use Rattle.core_turns.proofs.Words.{IsOnInUse, Filled, PutRun, Turn, More, Busy, Done, Core, CoreState, IsCore}
use Rattle.core_turns.proofs.Words.{HasBankOf, IsMorePut, IsPutOf, WritesTurn, TurnGoesOn}
use Rattle.std.specs.Prelude.{All}
use Rattle.core_client.specs.Writing.{ChecksPlace, spot_written}
use Rattle.core_state.proofs.Below.{below_by_read}
use Rattle.core_state.proofs.SpotReads.{outs_by_step}
use Rattle.core_turns.proofs.Words.{Bool, ChecksNext, Option, WritesNext, looked_at, refl, sym}
use Rattle.core_turns.proofs.state.Cores.{bank_within, bank_has, core_out}
use Rattle.core_turns.proofs.state.Frames.{put_of_stays, widths_out}
use Rattle.core_turns.proofs.put.Turns.{same_filled, written_of}

-- ---- what was filled in

module _ {core : Core} {run : PutRun} {filled : Filled} (of : IsPutOf core run) (is : run.filled ≡ Some filled) where
  -- The writes of a put can be made,
  pub put_inside : {disk : Disk} → IsCore core → HasBankOf core disk
      → All (IsOnBank filled.write.rows core.pool.out disk) filled.write.writes
  put_inside {disk} is_core bank =
      let plan = (of.filled filled is).1.plan in
      plan_inside run.range.layout core.pool.uber.reflow core.pool.done filled.write.rows filled.write.writes
      core.pool.out disk of.pool (search (bank_has, bank_within, arith)) plan.encoded.shape plan.required

  -- and go to devices of the pool.
  write_below : {write : Write} → Contains filled.write.writes write → write.device < core.pool.uber.reflow.to
  write_below (number, low, there) =
      let plan = (of.filled filled is).1.plan in
      subst (λ (w : Write). w.device < core.pool.uber.reflow.to) there (search plan_below)

  -- A put that isn't written has writes left.
  pub put_left : (filled.write.next ≢ length filled.write.writes) → filled.write.next < length filled.write.writes
  put_left left = search arith

-- A write is left of what was filled in.
pub has_left : (run : PutRun) {filled : Filled} → run.filled ≡ Some filled
    → (other : Filled) × (run.filled ≡ Some other) × (other.write.next < length other.write.writes)
    → filled.write.next < length filled.write.writes
has_left run is (other, also, left) = search (same_filled, arith)

-- The write that comes next.
next_write : (writes : List Write) (next : ℕ) → next < length writes
    → (write : Write) × (slice_get writes next ≡ Some write)
next_write writes next low = (slice_index_or writes next first, slice_get-get_or writes next first low)
  where
    first : Write
    first = search

-- ---- one write

-- One write puts out no device but its own, where it failed.
pub outs_by_write : {before after : Point} {rows : Rows} {write : Write} → IsPassedOrMade rows write before after
    → OnlyFailedGoOut before after
outs_by_write step = search (outs_none, outs_called, arith)

-- It touches no more than its place, on a device in use.
pub touches_by_write : {before after : Point} {rows : Rows} {write : Write} (P : ℕ → ℕ → Type 0)
    → (has_device before.out write.device ≡ false → P write.device write.device_sector)
    → IsPassedOrMade rows write before after → TouchesOnly P before.disk after.disk
touches_by_write {before} {after} {rows} {write} P place step = ⊎_elim
    (λ (passed : (has_device before.out write.device ≡ true) × (after ≡ before)).
    rw passed.1 (touches_none P before.disk))
    (λ (made : IsMade rows write before after). search wrote_touches) step

-- The next place of what was filled in is looked at.
pub put_checks : {run : PutRun} {filled : Filled} {write : BlockWrite} {otherwise : Bool} (before after : Point)
    → run.filled ≡ Some filled → filled.write.next < length filled.write.writes
    → ((next : Write) → slice_get filled.write.writes filled.write.next ≡ Some next
    → ChecksPlace filled.write.rows next otherwise before after)
    → (otherwise ≡ true → write ≡ filled.write)
    → (otherwise ≡ false → write ≡ record filled.write { next = filled.write.next + 1 })
    → ChecksNext run before otherwise (record run { filled = Some (record filled { write = write }) }) after
put_checks {run} {filled} {write} {otherwise} before after some low checks stays on =
    let next = next_write filled.write.writes filled.write.next low in
    record {
      filled = filled;
      filled_is = some;
      write = next.0;
      write_is = next.1;
      next_is = by otherwise stays on;
      checks = checks next.0 next.1;
    }
  where
    by : (otherwise : Bool) → (otherwise ≡ true → write ≡ filled.write)
        → (otherwise ≡ false → write ≡ record filled.write { next = filled.write.next + 1 })
        → record run { filled = Some (record filled { write = write }) } ≡ looked_at run filled otherwise
    by true stays on = rw (stays refl) (ap (λ (f : Option Filled). record run { filled = f }) (sym some))
    by false stays on = rw (on refl) refl

-- It is written, or passed over.
pub put_writes_next : {run : PutRun} {filled : Filled} {write : BlockWrite} (before after : Point)
    → run.filled ≡ Some filled → filled.write.next < length filled.write.writes
    → ((next : Write) → slice_get filled.write.writes filled.write.next ≡ Some next
    → IsPassedOrMade filled.write.rows next before after)
    → write ≡ record filled.write { next = filled.write.next + 1 }
    → WritesNext run before (record run { filled = Some (record filled { write = write }) }) after
put_writes_next {filled = filled} before after some low step on =
    let next = next_write filled.write.writes filled.write.next low in
    record {
      filled = filled;
      filled_is = some;
      write = next.0;
      write_is = next.1;
      next_is = rw on refl;
      made = step next.0 next.1;
    }

-- Whatever went out, the core is one still.
pub put_writes_core : {core : Core} {out : ℕ} {old new : Disk} {run next : PutRun} → IsCore core → IsPutOf core run
    → WritesNext run (point_of core.pool.out old) next (point_of out new)
    → IsCore (record core { pool = record core.pool { out = out } })
put_writes_core {core} {out} {old} {new} is of writes =
    let inside : writes.write.device < core.pool.uber.reflow.to =
    write_below of writes.filled_is (listed_at writes.filled.write.writes writes.filled.write.next writes.write
    writes.write_is) in
    core_out core out is (below_by_write writes.filled.write.rows writes.write (point_of core.pool.out old)
    (point_of out new) core.reach writes.made (omega (arith, inside, is.reach)) is.below)
    (outs_by_write writes.made).still

pub put_checks_core : {core : Core} {out : ℕ} {old new : Disk} {run next : PutRun} {otherwise : Bool} → IsCore core
    → IsPutOf core run → ChecksNext run (point_of core.pool.out old) otherwise next (point_of out new)
    → IsCore (record core { pool = record core.pool { out = out } })
put_checks_core {core} {out} {old} {new} is of checks =
    let inside : checks.write.device < core.pool.uber.reflow.to =
    write_below of checks.filled_is (listed_at checks.filled.write.writes checks.filled.write.next checks.write
    checks.write_is) in
    let read = checks.checks.read in
    let spot = spot_written checks.write in
    core_out core out is (below_by_read spot checks.checks.given (point_of core.pool.out old) (point_of out new)
    core.reach read (omega (arith, inside, is.reach)) is.below)
    (outs_by_step spot checks.checks.given (point_of core.pool.out old) (point_of out new) read).still

-- ---- the turn

-- A turn that writes goes on.
pub put_goes_on : {before after : CoreState} {run : PutRun} (result : Turn PutRun) → IsCore before.core
    → IsPutOf before.core run → WritesTurn before run after result → TurnGoesOn before after
put_goes_on {before} {after} (More next) is of writes =
    let uber : after.core.pool.uber ≡ before.core.pool.uber = ap (λ (c : Core). c.pool.uber) writes.rest in
    let its = writes.writes in
    let listed = listed_at its.filled.write.writes its.filled.write.next its.write its.write_is in
    let below : its.write.device < before.core.reach = omega (arith, write_below of its.filled_is listed, is.reach) in
    let only = touches_by_write (IsOnInUse before.core.reach before.core.pool.out)
    (λ used. (below, used)) its.made in
    search outs_by_write
put_goes_on (Busy by) is of writes = absurd writes
put_goes_on {before} {after} (Done given) is of writes =
    rw (writes.1, writes.0.gives_up.rest) (search (later_refl, outs_none, touches_none))

-- A put with one write more is one of this pool still.
pub put_more : (before after : CoreState) {run : PutRun} (result : Turn PutRun) → IsPutOf before.core run
    → IsUnderWay before.core.pool.blocks run.range → WritesTurn before run after result → IsMorePut after.core result
put_more before after (More next) of under_way writes =
    rw (writes.rest, writes.writes.next_is) (search (put_of_stays, widths_out, written_of), under_way)
put_more before after other of under_way writes = tt
