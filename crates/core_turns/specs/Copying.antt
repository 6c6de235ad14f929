-- Copy jobs, turn by turn.
use Rattle.std.specs.Prelude.{◌≡◌, ◌≢◌, ◌⊎◌, ℕ, ◌<◌, Option, Some, None, Contains, true, false}
use Rattle.range_locks.specs.declared.hold.Hold.{Hold}
use Rattle.range_locks.specs.declared.hold.HoldKind.TheVariants.{Exclusive}
use Rattle.range_locks.specs.Gaining.{Gains}
use Rattle.range_locks.specs.Holds.{EndsHold, IsBusyBy, IsClear}
use Rattle.reflow_mark.specs.declared.reflow.Reflow.{Reflow}
use Rattle.reflow_mark.specs.Reflow.{Expands}
use Rattle.reflow_copier.specs.declared.job.Job.{Job}
use Rattle.reflow_copier.specs.Jobs.{job_begin, job_end, next_job_of}
use Rattle.uberblock_ring.specs.Devices.{has_device}
use Rattle.core_state.specs.declared.answer.Answer.{Answer}
use Rattle.core_state.specs.declared.answer.Answer.TheVariants as answer
use Rattle.core_state.specs.Committing.{Point, point_of}
use Rattle.core_state.specs.Whole.{Cell, Excepted, RightAt}
use Rattle.core_copy.specs.Around.{IsClose}
use Rattle.core_copy.specs.Closed.{IsClosed}
use Rattle.core_copy.specs.JobRun.{HoldsRead, JobRun, JobSteps, begun_run}
use Rattle.core_copy.specs.Holding.{GoesOnIn, HoldsJob}
use Rattle.core_turns.specs.declared.copying.CopyRun.{CopyRun}
use Rattle.core_turns.specs.declared.copying.JobBegin.{JobBegin}
use Rattle.core_turns.specs.declared.copying.JobBegin.TheVariants.{More, Busy, CommitDue, Done}
use Rattle.core_turns.specs.Core.{Core, CoreState}
use Rattle.core_turns.specs.Getting.{HasTooManyOut}

-- the hold of a job on the sectors that it copies
abbrev pub hold_for_job : Reflow → Job → ℕ → Hold
hold_for_job reflow job actor = record {
  lo = job_begin job;
  hi = job_end reflow job;
  actor = actor;
  kind = Exclusive;
}

-- The job is the one under way in this core: it goes on in its pool and holds its sectors alone. While no device is out
-- it has, between the read and the write of a sector, what it has read.
pub record IsJobOf (core : Core) (run : CopyRun) : Type 0 where
  pub under_way : core.copying ≡ Some run.hold.actor
  pub goes : GoesOnIn core.pool.uber.reflow core.pool.done run.job
  pub holds : Contains core.holds run.hold
  pub hold_is : run.hold ≡ hold_for_job core.pool.uber.reflow run.job.job run.hold.actor
  pub read : core.pool.out ≡ 0 → HoldsRead run.job

-- The job goes on in a pool of this reflow and front. While no device is out, it has come to its present sector with
-- each cell that is right at the front: one whose sector is behind that stands at its target. So it is whatever may be
-- wrong, as far as a copy keeps to what is listed.
pub record CopiesCells (reflow : Reflow) (done : ℕ) (run : JobRun) (point : Point) : Type 0 where
  pub goes : GoesOnIn reflow done run
  pub each : point.out ≡ 0 → (wrong : Excepted) → IsClosed wrong → (cell : Cell) → IsClose reflow cell
      → cell.sector < cell.row_end → RightAt point.disk.reads reflow done point.out wrong cell
      → HoldsJob reflow done run point wrong cell

-- Why there is nothing to copy in a first turn.
abbrev pub IsJobRefused : Core → Answer → Type 0
IsJobRefused core (answer.TooManyFailed out) = HasTooManyOut core × (out ≡ core.pool.out)
IsJobRefused core (answer.Completed width) = (HasTooManyOut core → ⊥)
    × (core.pool.uber.reflow.from ≡ core.pool.uber.reflow.to) × (width ≡ core.pool.uber.reflow.to)
IsJobRefused core (answer.Paused device) = (HasTooManyOut core → ⊥) × Expands core.pool.uber.reflow
    × (has_device core.pool.out device ≡ true)
    × ((other : ℕ) → other < device → has_device core.pool.out other ≡ false)
IsJobRefused core answer.NoMemory = Expands core.pool.uber.reflow × (core.pool.out ≡ 0)
IsJobRefused core other = ⊥

-- A job of these sectors is due in an expansion of which no device is out.
pub record IsDue (core : Core) (job : Job) : Type 0 where
  pub expands : Expands core.pool.uber.reflow
  pub whole : core.pool.out ≡ 0
  pub none : core.copying ≡ None
  pub due : next_job_of core.pool.uber.reflow core.pool.done ≡ Some job

-- The job that is due begins, and holds its sectors alone.
pub record BeginsJobSo (old new : Core) (actor : ℕ) (run : CopyRun) : Type 0 where
  pub due : IsDue old run.job.job
  pub run_is : run ≡ record {
    hold = hold_for_job old.pool.uber.reflow run.job.job actor;
    job = begun_run old.pool.uber.reflow run.job.job;
  }
  pub clear : IsClear old.holds run.hold.lo run.hold.hi Exclusive
  pub holds : Gains old.holds new.holds run.hold
  pub rest : new ≡ record old { holds = new.holds; copying = Some actor }
  pub of : IsJobOf new run

-- Another job is under way, or another's hold is in the way of the one that is due.
abbrev pub IsJobBusy : Core → ℕ → Type 0
IsJobBusy core by = (core.copying ≡ Some by)
    ⊎ ((job : Job) × IsDue core job
    × IsBusyBy core.holds (job_begin job) (job_end core.pool.uber.reflow job) Exclusive by)

-- what the first turn of a job comes to
abbrev pub BeginsJob : Core → Core → ℕ → JobBegin → Type 0
BeginsJob old new actor (More run) = BeginsJobSo old new actor run
BeginsJob old new actor (Busy by) =
    Expands old.pool.uber.reflow × (old.pool.out ≡ 0) × IsJobBusy old by × (new ≡ old)
BeginsJob old new actor CommitDue = Expands old.pool.uber.reflow × (old.pool.out ≡ 0) × (old.copying ≡ None)
    × (next_job_of old.pool.uber.reflow old.pool.done ≡ None) × (new ≡ old)
BeginsJob old new actor (Done given) = IsJobRefused old given × (new ≡ old)

-- A job has read its present sector, or written it, and holds what it held.
pub record StepsJob (before : CoreState) (run : CopyRun) (after : CoreState) (next : CopyRun) : Type 0 where
  pub whole : before.core.pool.out ≡ 0
  pub steps : JobSteps run.job (point_of before.core.pool.out before.disk) next.job
      (point_of after.core.pool.out after.disk)
  pub hold : next.hold ≡ run.hold
  pub rest : after.core ≡ record before.core { pool = record before.core.pool { out = after.core.pool.out } }

-- A job has copied all its sectors: the front is behind them, and they are no longer held.
pub record EndsJob (old new : Core) (run : CopyRun) : Type 0 where
  pub ends : EndsHold old.holds new.holds run.hold
  pub rest : new ≡ record old {
    pool = record old.pool { done = job_end old.pool.uber.reflow run.job.job };
    holds = new.holds;
    copying = None;
  }

-- A job is given up, since a device is out: its sectors are no longer held, and the front is where it was.
pub record DropsJob (old new : Core) (run : CopyRun) : Type 0 where
  pub lost : old.pool.out ≢ 0
  pub ends : EndsHold old.holds new.holds run.hold
  pub rest : new ≡ record old { holds = new.holds; copying = None }

-- what is answered where a job is given up: nothing, unless too many devices are out
abbrev pub IsGivenUpFor : Core → Option Answer → Type 0
IsGivenUpFor core None = HasTooManyOut core → ⊥
IsGivenUpFor core (Some given) = HasTooManyOut core × (given ≡ answer.TooManyFailed core.pool.out)
