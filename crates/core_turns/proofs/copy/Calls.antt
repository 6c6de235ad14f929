-- Which calls are under way over each turn of a job.
use Rattle.core_turns.proofs.Words.{◌≡◌, ◌≢◌, inl, inr, ⊎_elim, ℕ, ◌<◌, ◌≤◌, List, Some, sym, ◌∙◌, ap, arith, Contains}
use Rattle.core_turns.proofs.Words.{cases_lt, filter_map-append, Hold, Gains, gains_item, job_begin, job_end, IsWithin}
use Rattle.core_turns.proofs.Words.{IsOutside, gains_old, pairs_beside, pairs_gain, pairs_lose, CopyRun, Core}
use Rattle.core_turns.proofs.Words.{CoreState, BeginsJobSo, DropsJob, IsJobOf, StepsJob, HoldingCall, Putting, Reading}
use Rattle.core_turns.proofs.Words.{Scrubbing, Copying, AreBeside, AreCallsOf, HaveNoneInCommon, IsCallOfCore}
use Rattle.core_turns.proofs.Words.{ShareNoSector, actor_of, hold_of_call, ranges_of}
use Rattle.core_turns.proofs.state.Calls.{beside_turn, calls_swap}
use Rattle.core_turns.proofs.free.TakenBack.{each_gained}
use Rattle.core_turns.proofs.state.Frames.{KeepsWidths, calls_stay, ends_other, get_of_stays, hold_listed, put_of_stays}

-- A job has no range of a put.
pub ranges_copied : {left calls : List HoldingCall} {run : CopyRun} → Gains left calls (Copying run)
    → ranges_of calls ≡ ranges_of left
ranges_copied gains = search (filter_map-append, arith)

-- One job is under way at a time.
pub one_job : {core : Core} {run other : CopyRun} → IsJobOf core run → IsJobOf core other
    → run.hold.actor ≡ other.hold.actor
one_job of its = some_same (sym of.under_way ∙ its.under_way)
  where
    some_same : {one other : ℕ} → Some one ≡ Some other → one ≡ other
    some_same same = cc

-- ---- a job begins

-- the widths of the core that it leaves
begun_widths : (old new : Core) (actor : ℕ) (run : CopyRun) → BeginsJobSo old new actor run → KeepsWidths old new
begun_widths old new actor run begins = search arith

-- It holds sectors that no other call has.
pub job_begins_calls : {old new : Core} {run : CopyRun} {left calls : List HoldingCall} (actor : ℕ)
    → BeginsJobSo old new actor run → ((call : HoldingCall) → Contains left call → actor_of call ≢ actor)
    → Gains left calls (Copying run) → AreCallsOf old left → AreCallsOf new calls
job_begins_calls {old} {new} {run} {left} {calls} actor begins differs gains are = record {
  each = each_gained gains begins.of (search (of_call, arith));
  under = rw (ranges_copied gains) (search arith);
  beside = pairs_gain AreBeside beside_turn left calls (Copying run) gains (search (none_in_common, arith)) are.beside;
}
  where
    of_call : (call : HoldingCall) → IsCallOfCore old call → IsCallOfCore new call
    of_call (Putting put) of = search (put_of_stays, begun_widths, gains_old)
    of_call (Reading get) of = search (get_of_stays, begun_widths, gains_old)
    of_call (Scrubbing scrub) of = record {
      read = let read = of.read in search (get_of_stays, begun_widths, gains_old);
      mend = let mend = of.mend in search (put_of_stays, begun_widths, gains_old);
      under_way = ap (λ (c : Core). c.scrubbing) begins.rest ∙ of.under_way;
      kind = of.kind;
      hold = of.hold;
      layout = of.layout;
      len = of.len;
    }
    of_call (Copying other) of = cc

    clear_of : (hold : Hold) → Contains old.holds hold → ShareNoSector run.hold hold
    clear_of hold listed sector here there = begins.clear hold listed (search arith)

    none_in_common : (other : HoldingCall) → IsCallOfCore old other → HaveNoneInCommon (Copying run) other
    none_in_common other of = inr (clear_of (hold_of_call other) (hold_listed old other of))

-- ---- a job goes on

pub job_steps_calls : {before after : CoreState} {run next : CopyRun} {left calls nexts : List HoldingCall}
    → StepsJob before run after next → IsJobOf after.core next → IsWithin before.core.pool.out after.core.pool.out
    → Gains left calls (Copying run) → Gains left nexts (Copying next) → AreCallsOf before.core calls
    → AreCallsOf after.core nexts
job_steps_calls {before} {after} {run} {next} {left} {calls} steps of within gains again are =
    let now = calls_stay before.core after.core calls steps.rest within are in
    calls_swap gains again steps.hold same_apart of (rw (ranges_copied again, ← ranges_copied gains) now.under) now
  where
    same_apart : (other : HoldingCall) → HaveNoneInCommon (Copying run) other → HaveNoneInCommon (Copying next) other
    same_apart other apart = rw steps.hold apart

-- ---- a job ends

-- One that is given up leaves the others, of which none is a job.
pub job_drops_calls : {old new : Core} {run : CopyRun} {left calls : List HoldingCall} → DropsJob old new run
    → Gains left calls (Copying run) → AreCallsOf old calls → AreCallsOf new left
job_drops_calls {old} {new} {run} {left} {calls} drops gains are = record {
  each = search (of_call, gains_old, are.each, arith);
  under = rw (drops.rest, ← ranges_copied gains) are.under;
  beside = search (pairs_lose, beside_turn);
}
  where
    widths : KeepsWidths old new
    widths = search arith

    beside : (call : HoldingCall) → Contains left call → AreBeside (Copying run) call
    beside call listed = pairs_beside AreBeside beside_turn calls left (Copying run) call gains are.beside listed

    still_held : (call : HoldingCall) → Contains left call → IsCallOfCore old call
        → Contains new.holds (hold_of_call call)
    still_held call listed of = ends_other old.holds new.holds run.hold (hold_of_call call) drops.ends
        (hold_listed old call of) (λ same. (beside call listed).actors (cc))

    of_call : (call : HoldingCall) → Contains left call → IsCallOfCore old call → IsCallOfCore new call
    of_call (Putting put) listed of = put_of_stays old new put widths (still_held (Putting put) listed of) of
    of_call (Reading get) listed of = (of.0, get_of_stays old new get widths (still_held (Reading get) listed of) of.1)
    of_call (Scrubbing scrub) listed of =
        let held = still_held (Scrubbing scrub) listed of in
        record {
          read = get_of_stays old new scrub.read widths held of.read;
          mend = put_of_stays old new scrub.mend widths (rw of.hold held) of.mend;
          under_way = ap (λ (c : Core). c.scrubbing) drops.rest ∙ of.under_way;
          kind = of.kind;
          hold = of.hold;
          layout = of.layout;
          len = of.len;
        }
    of_call (Copying other) listed of = absurd ((beside (Copying other) listed).actors
        (one_job (are.each (Copying run) (gains_item left calls (Copying run) gains)) of))

-- A block that shares no sector with a job is outside of the job's.
pub apart_outside : (core : Core) (run : CopyRun) → IsJobOf core run → (hold : Hold) → hold.lo < hold.hi
    → ShareNoSector run.hold hold
    → IsOutside (job_begin run.job.job) (job_end core.pool.uber.reflow run.job.job) hold.lo hold.hi
apart_outside core run of hold some apart = ⊎_elim
    (λ (filled : run.hold.lo < run.hold.hi). ⊎_elim
    (λ (near : run.hold.lo < hold.hi). ⊎_elim
    (λ (low : hold.lo < run.hold.hi). absurd (meet filled near low))
    (λ (behind : run.hold.hi ≤ hold.lo). inr (inr (search arith)))
    (cases_lt hold.lo run.hold.hi))
    (λ (before : hold.hi ≤ run.hold.lo). inr (inl (search arith))) (cases_lt run.hold.lo hold.hi))
    (λ (empty : run.hold.hi ≤ run.hold.lo). inl (search arith)) (cases_lt run.hold.lo run.hold.hi)
  where
    -- The later of the two first sectors is in both.
    meet : run.hold.lo < run.hold.hi → run.hold.lo < hold.hi → hold.lo < run.hold.hi → ⊥
    meet filled near low = ⊎_elim
        (λ (below : run.hold.lo < hold.lo). apart hold.lo (omega (arith, below), low) (omega arith, some))
        (λ (from : hold.lo ≤ run.hold.lo). apart run.hold.lo (omega arith, filled) (from, near))
        (cases_lt run.hold.lo hold.lo)
