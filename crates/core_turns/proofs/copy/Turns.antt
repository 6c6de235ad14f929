-- Copy jobs, turn by turn: that a pool stays one, and what each turn comes to.
use Rattle.core_turns.proofs.Words.{pow-le-pow_right, ◌≡◌, inl, inr, ℕ, ◌^◌, ◌<◌, ◌≤◌, List, Some, None, ap, arith}
use Rattle.core_turns.proofs.Words.{Disk, TouchesOnly, touches_widen, wrote_touches, Hold, Exclusive, EndsHold, IsClear}
use Rattle.core_turns.proofs.Words.{exclusive_count, Job, job_end, IsWithin, Point, point_of, MayRun, gains_item}
use Rattle.core_turns.proofs.Words.{IsOnInUse, read_touches, IsOnPool, call_count, due_may_run, job_at_front, job_front}
use Rattle.core_turns.proofs.Words.{job_some, target_inside, HoldsRead, JobRun, JobSteps, begun_run, target_spot}
use Rattle.core_turns.proofs.Words.{begun_goes_on, present_in, right_begins, step_goes_on, target_at, CopyRun, Core}
use Rattle.core_turns.proofs.Words.{CoreState, IsCore, alone_below, as_begun, jobs_begun, BeginsJobSo, IsDue, IsJobOf}
use Rattle.core_turns.proofs.Words.{StepsJob, hold_for_job, TurnGoesOn}
use Rattle.range_locks.specs.Gaining.{Gains}
use Rattle.core_copy.proofs.Steps.{outs_by_step}
use Rattle.core_turns.proofs.state.Holds.{front_passes, job_ended}
use Rattle.core_turns.proofs.copy.Laws.{all_used}

-- ---- a job begins

-- The job that is due may run, where an expansion does.
pub due_runs : (core : Core) (job : Job) → IsDue core job → MayRun core.pool.uber.reflow core.pool.done job
due_runs core job due = rw due.due at (due_may_run core.pool.uber.reflow core.pool.done)

-- It holds its sectors alone from now on, and is the core's.
pub job_begins : {core : Core} {job : Job} {actor : ℕ} {hold : Hold} {holds : List Hold} → IsCore core → IsDue core job
    → hold ≡ hold_for_job core.pool.uber.reflow job actor → Gains core.holds holds hold
    → IsClear core.holds hold.lo hold.hi Exclusive
    → BeginsJobSo core (record core { holds = holds; copying = Some actor }) actor
    (record { hold = hold; job = begun_run core.pool.uber.reflow job })
job_begins {core} {job} {actor} {hold} {holds} is due hold_is gains clear =
    let may = due_runs core job due in
    let begins = right_begins (as_begun core).uber core.pool.done job is.is.right may in
    let of : IsJobOf (record core { holds = holds; copying = Some actor })
    (record { hold = hold; job = begun_run core.pool.uber.reflow job }) = record {
      under_way = cc;
      goes = search begun_goes_on;
      holds = gains_item core.holds holds hold gains;
      hold_is = cc;
      read = λ whole odd. cc;
    } in
    search

-- ---- a job goes on

-- A device that goes out in a step is one that the pool reaches to.
pub job_below : {core : Core} {run : CopyRun} {out : ℕ} → IsCore core → IsJobOf core run → out < 2 ^ run.job.reflow.to
    → out < 2 ^ core.reach
job_below {core} {run} is of below =
    let same : core.pool.uber.reflow.to ≡ run.job.reflow.to = cc in
    let power : 2 ^ run.job.reflow.to ≤ 2 ^ core.reach = search (pow-le-pow_right, arith) in
    omega arith

-- The job is the core's after a step,
pub job_steps_of : {core : Core} {run : CopyRun} {next : JobRun} {out : ℕ} {old new : Disk} → IsJobOf core run
    → run.job.made < call_count run.job.reflow run.job.job → IsWithin core.pool.out out
    → JobSteps run.job (point_of core.pool.out old) next (point_of out new) → core.pool.out ≡ 0
    → (out ≡ 0 → HoldsRead next)
    → IsJobOf (record core { pool = record core.pool { out = out } }) (record run { job = next })
job_steps_of {run = run} {next} of left within steps whole read =
    let same : next.job ≡ run.job.job = search arith in
    search step_goes_on

-- where a job writes its present sector
abbrev pub IsWrittenBy : JobRun → ℕ → ℕ → Type 0
IsWrittenBy run device device_sector =
    (device ≡ (target_spot run).device) × (device_sector ≡ (target_spot run).device_sector)

-- which touches nothing else.
pub step_touches_target : (run next : JobRun) (before after : Point) → JobSteps run before next after
    → TouchesOnly (IsWrittenBy run) before.disk after.disk
step_touches_target run next before after (inl reads) = search read_touches
step_touches_target run next before after (inr writes) = search wrote_touches

-- That is on a device of the pool.
pub target_on : (core : Core) (run : CopyRun) → IsJobOf core run → run.job.made < call_count run.job.reflow run.job.job
    → IsOnPool core.pool.uber.reflow (target_spot run.job).device (target_spot run.job).device_sector
target_on core run of left = search (target_inside, present_in, target_at)

-- So the turn goes on in the pool.
pub job_turn : {before after : CoreState} {run next : CopyRun} → IsCore before.core → IsJobOf before.core run
    → run.job.made < call_count run.job.reflow run.job.job → StepsJob before run after next → TurnGoesOn before after
job_turn {before} {after} {run} is of left steps =
    let touched : TouchesOnly (IsWrittenBy run.job) before.disk after.disk = search step_touches_target in
    record {
      parity = search arith;
      reach = cc;
      rows = search arith;
      later = touched.later;
      out = search outs_by_step;
      only = touches_widen (IsWrittenBy run.job) (IsOnInUse before.core.reach before.core.pool.out)
          (search (target_on, all_used, arith)) touched;
    }

-- ---- a job ends

-- A job's hold begins at the front.
pub hold_at_front : {core : Core} {run : CopyRun} → IsJobOf core run → run.hold.lo ≡ core.pool.done
hold_at_front of = search (job_at_front, arith)

-- Its hold has ended.
module _ {core : Core} {run : CopyRun} {holds : List Hold} (is : IsCore core) (of : IsJobOf core run)
    (ends : EndsHold core.holds holds run.hold) where
  abbrev behind : ℕ
  behind = job_end core.pool.uber.reflow run.job.job

  -- Nobody holds sectors alone from the front on.
  pub none_left : (exclusive_count holds ≡ alone_below core.pool.done holds)
      × (alone_below core.pool.done holds ≡ alone_below core.pool.done core.holds)
  none_left =
      let less = job_ended core.pool.done core.holds holds run.hold (cc) (omega (arith, hold_at_front of)) ends in
      let one : jobs_begun core.copying ≡ 1 = ap jobs_begun of.under_way in
      (omega arith, cc)

  -- A core whose job is given up is one.
  pub job_dropped_core : IsCore (record core { holds = holds; copying = None })
  job_dropped_core = let left = none_left in search arith

  -- As many hold sectors below the new front alone as did below the old.
  pub below_behind : (exclusive_count holds ≡ alone_below behind holds)
      × (alone_below behind holds ≡ alone_below core.pool.done core.holds)
  below_behind =
      let left = none_left in
      let begins = job_at_front core.pool.uber.reflow core.pool.done run.job.job of.goes.may_run in
      let some = job_some core.pool.uber.reflow core.pool.done run.job.job of.goes.widening of.goes.may_run in
      let passes = front_passes core.pool.done behind holds (omega arith) left.0 in
      (cc, cc)

  -- A core whose front is behind the job is one too.
  pub job_ended_core : IsCore (record core { pool = record core.pool { done = behind }; holds = holds; copying = None })
  job_ended_core = search (below_behind, job_front, arith)
