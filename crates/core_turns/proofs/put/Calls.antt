-- Which calls are under way over each turn of a put.
use Rattle.core_turns.proofs.Words.{◌≡◌, ◌≢◌, inr, ℕ, ◌+◌, ◌<◌, ◌≤◌, List, length, Option, Some, sym, ◌∙◌, ap, arith}
use Rattle.core_turns.proofs.Words.{Contains, Shared, Hold, Overlaps, AreBeside, hold_of_call}
use Rattle.space_alloc.specs.Space.{IsIn}
use Rattle.core_turns.proofs.Words.{Gains, put_run, gains_item, gains_old, free_of_taken, Filled, PutRun, Core}
use Rattle.core_turns.proofs.Words.{CoreState, BeginsPutSo, FillsPut, GivesUp, IsPutOf, LeavesBlocks, StoresBlock}
use Rattle.core_turns.proofs.Words.{WritesOne, HoldingCall, Putting, Reading, Scrubbing, Copying, AreCallsOf}
use Rattle.core_turns.proofs.Words.{HaveNoneInCommon, IsCallOfCore, actor_of, ranges_of}
use Rattle.core_turns.proofs.state.Calls.{calls_gain, calls_lose, calls_swap, range_listed}
use Rattle.core_turns.proofs.state.Frames.{KeepsCalls, calls_keep, calls_stay}
use Rattle.core_turns.proofs.put.Ranges.{at_end, ranges_gain, under_moved}
use Rattle.core_turns.proofs.Words.{written_once}
use Rattle.core_turns.proofs.put.Turns.{fills_of, written_of}
use Rattle.core_turns.proofs.put.Goes.{outs_by_write}

-- A turn that calls no device: blocks and holds are others, but not the widths, and all else is as it was.
pub record Rearranges (old new : Core) : Type 0 where
  pub rest : new ≡ record old { pool = record old.pool { blocks = new.pool.blocks }; holds = new.holds }
  pub parity : new.pool.blocks.parity ≡ old.pool.blocks.parity
  pub births : new.pool.blocks.births ≡ old.pool.blocks.births

-- So all widths stay.
pub rearranged_keeps : (old new : Core) → Rearranges old new → KeepsCalls old new
rearranged_keeps old new change = search arith

-- ---- a put begins

-- A put that begins calls no device.
pub begins_rearranges : (old new : Core) (actor id len : ℕ) (run : PutRun) → BeginsPutSo old new actor id len run
    → Rearranges old new
begins_rearranges old new actor id len run begins = search

-- It is under way beside the others: it takes sectors that none of them has.
pub put_begins_calls : {old new : Core} {actor id len : ℕ} {run : PutRun} {left calls : List HoldingCall}
    → BeginsPutSo old new actor id len run
    → ((call : HoldingCall) → Contains left call → actor_of call ≢ actor) → Gains left calls (Putting run)
    → AreCallsOf old left → AreCallsOf new calls
put_begins_calls {old} {new} {run = run} {left} begins differs gains are =
    calls_gain gains (search (rearranged_keeps, begins_rearranges)) (search gains_old)
    (search (under_moved, at_end, ranges_gain, begins.under, arith)) begins.of beside are
  where
    -- No other call holds a sector of the new put.
    clear : (other : HoldingCall) → Contains left other → IsCallOfCore old other → (sector : ℕ)
        → IsIn (put_run run.range).start (put_run run.range).len sector
        → ((hold_of_call other).lo ≤ sector) × (sector < (hold_of_call other).hi) → ⊥
    clear (Putting other) listed of sector here there = free_of_taken old.pool.blocks.space old.holds
        (put_run run.range) begins.begins.first.free (put_run other.range)
        (are.under.each other.range (range_listed left other listed)).taken sector here (rw of.hold_is at there)
    clear (Reading other) listed of sector here there =
        let shared : (other.hold.kind ≡ Shared) × Overlaps other.hold sector (sector + 1) = search arith in
        (begins.begins.first.free sector here).not_shared (other.hold, of.1.holds, shared.0, shared.1)
    clear (Scrubbing other) listed of sector here there =
        let read = of.read in
        let shared : (other.read.hold.kind ≡ Shared) × Overlaps other.read.hold sector (sector + 1) = search arith in
        (begins.begins.first.free sector here).not_shared (other.read.hold, read.holds, shared.0, shared.1)
    clear (Copying other) listed of sector here there = begins.begins.first.clear other.hold of.holds (search arith)

    beside : (other : HoldingCall) → Contains left other → AreBeside (Putting run) other
    beside other listed = record {
      actors = λ same. differs other listed (sym same ∙ ap (λ (h : Hold). h.actor) begins.hold_is);
      apart = inr (λ sector here. clear other listed (are.each other listed) sector (rw begins.hold_is at here));
    }

-- One that is refused calls no device,
pub leaves_rearranges : (old new : Core) → LeavesBlocks old new → Rearranges old new
leaves_rearranges old new leaves = search arith

-- and leaves all calls.
pub put_refused_calls : (calls : List HoldingCall) (old new : Core) → LeavesBlocks old new → AreCallsOf old calls
    → AreCallsOf new calls
put_refused_calls calls old new leaves are = calls_keep old new calls
    (rearranged_keeps old new (leaves_rearranges old new leaves)) (search arith)
    (leaves.under (ranges_of calls) are.under) are

-- ---- a put ends

-- A put that ends calls no device,
pub ends_rearranges : (old new : Core) (run : PutRun) → StoresBlock old new run → Rearranges old new
ends_rearranges old new run ends = search

-- and leaves the others under way;
pub put_ends_calls : {old new : Core} {run : PutRun} {left calls : List HoldingCall} → StoresBlock old new run
    → Gains left calls (Putting run) → AreCallsOf old calls → AreCallsOf new left
put_ends_calls ends gains are = calls_lose gains (search (rearranged_keeps, ends_rearranges)) ends.ends
    (ends.under _ _ (ranges_gain gains) are.under) are

-- so does one that is given up.
pub gives_up_rearranges : (old new : Core) (run : PutRun) → GivesUp old new run → Rearranges old new
gives_up_rearranges old new run gives_up = search

pub put_gives_up_calls : {old new : Core} {run : PutRun} {left calls : List HoldingCall} → GivesUp old new run
    → Gains left calls (Putting run) → AreCallsOf old calls → AreCallsOf new left
put_gives_up_calls gives_up gains are = calls_lose gains (search (rearranged_keeps, gives_up_rearranges)) gives_up.ends
    (gives_up.under _ _ (ranges_gain gains) are.under) are

-- ---- a put goes on

-- A put of which more is filled in or written has the sectors and the hold that it had.
next_calls : {core : Core} {run : PutRun} {left calls nexts : List HoldingCall} (filled : Option Filled)
    → IsPutOf core (record run { filled = filled }) → Gains left calls (Putting run)
    → Gains left nexts (Putting (record run { filled = filled })) → AreCallsOf core calls → AreCallsOf core nexts
next_calls {core} {run} {left} {calls} {nexts} filled of gains again are =
    search (calls_swap, same_apart, under_moved, ranges_gain)
  where
    same_apart : (other : HoldingCall) → HaveNoneInCommon (Putting run) other
        → HaveNoneInCommon (Putting (record run { filled = filled })) other
    same_apart other apart = apart

-- Bytes are filled in.
pub put_fills_calls : {core : Core} {run next : PutRun} {bytes : List ℕ} {left calls nexts : List HoldingCall}
    → FillsPut run next bytes → length bytes ≡ run.len → Gains left calls (Putting run)
    → Gains left nexts (Putting next) → AreCallsOf core calls → AreCallsOf core nexts
put_fills_calls {core} {run} {next} {bytes} {left} {calls} fills len_is gains again are =
    next_calls (Some fills.filled) (rw fills.rest at (fills_of core run next bytes fills len_is
    (search (gains_item, are.each, arith)))) gains (search arith) are

-- One write more is made or passed over.
pub put_writes_calls : {before after : CoreState} {run next : PutRun} {left calls nexts : List HoldingCall}
    → WritesOne before run after next → Gains left calls (Putting run) → Gains left nexts (Putting next)
    → AreCallsOf before.core calls → AreCallsOf after.core nexts
put_writes_calls {before} {after} {run} {left = left} {calls} {nexts} writes gains again are =
    calls_stay before.core after.core nexts writes.rest (outs_by_write writes.writes.made).still
    (next_calls (Some (written_once writes.writes.filled)) (search (written_of, gains_item, are.each, arith)) gains
    (search arith) are)
