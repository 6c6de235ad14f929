-- A copy job that makes one device call a step, and what a step does.
use Rattle.std.specs.Prelude.{◌≡◌, ◌≢◌, ◌⊎◌, ℕ, ◌+◌, ◌/◌, ◌%◌, ◌<◌, ◌≤◌, List, Option, Some, None, Result, false}
use Rattle.bank_trait.specs.declared.Failed.{Failed}
use Rattle.bank_trait.specs.Disk.{Disk, Wrote}
use Rattle.reflow_mark.specs.declared.reflow.Reflow.{Reflow}
use Rattle.reflow_mark.specs.Reflow.{scratch_end, sectors_of}
use Rattle.reflow_copier.specs.declared.job.Job.{Job}
use Rattle.reflow_copier.specs.declared.job.JobCall.{JobCall}
use Rattle.reflow_copier.specs.declared.job.CallKind.TheVariants.{Read}
use Rattle.reflow_copier.specs.Jobs.{job_begin, source_of, target_of}
use Rattle.shadow_write.specs.Band.{IsWidening}
use Rattle.uberblock_ring.specs.Devices.{has_device}
use Rattle.core_state.specs.Committing.{Point, Called}
use Rattle.core_state.specs.JobTurns.{MayRun}
use Rattle.core_state.specs.declared.spot.Spot.{Spot}
use Rattle.core_state.specs.SpotReads.{IsRead, spot_at}
use Rattle.core_copy.specs.Progress.{call_count}

-- a job under way: the reflow at its begin, the device calls that it has made, and what was read of its present sector
pub record JobRun : Type 0 where
  pub reflow : Reflow
  pub job : Job
  pub made : ℕ
  pub read : Option (List ℕ)

-- a job that has made no call
abbrev pub begun_run : Reflow → Job → JobRun
begun_run reflow job = record { reflow = reflow; job = job; made = 0; read = None }

-- The job may begin in a pool of this reflow, which is being widened and has room for the scratch area.
pub record JobMayBegin (reflow : Reflow) (job : Job) : Type 0 where
  pub widening : IsWidening reflow
  pub rows : reflow.rows ≤ 65536
  pub room : scratch_end reflow < sectors_of reflow
  pub may_run : MayRun reflow (job_begin job) job

-- The job could begin, and no more calls were made than it has.
pub record IsJobRun (run : JobRun) : Type 0 where
  pub begun : JobMayBegin run.reflow run.job
  pub made : run.made ≤ call_count run.reflow run.job

-- the sector that the next call is about
abbrev pub present_sector : JobRun → ℕ
present_sector run = job_begin run.job + run.made / 2

-- where the job reads the present sector
abbrev pub source_spot : JobRun → Spot
source_spot run = spot_at (source_of run.reflow run.job (present_sector run)).0
    (source_of run.reflow run.job (present_sector run)).1

-- where it writes it
abbrev pub target_spot : JobRun → Spot
target_spot run = spot_at (target_of run.reflow run.job (present_sector run)).0
    (target_of run.reflow run.job (present_sector run)).1

-- the spot that a call is made at
abbrev pub spot_called : JobCall → Spot
spot_called call = record { device = call.device; device_sector = call.device_sector }

-- Nothing is in the way of a call at this spot: its device is one of the bank's and in use.
pub record IsCallable (spot : Spot) (out : ℕ) (disk : Disk) : Type 0 where
  pub in_use : has_device out spot.device ≡ false
  pub device : spot.device < disk.devices
  pub few : spot.device < 64
  pub device_sector : spot.device_sector < disk.sectors

-- Between its read and its write the job has the bytes of the present sector.
abbrev pub HoldsRead : JobRun → Type 0
HoldsRead run = run.made % 2 ≡ 1 → (bytes : List ℕ) × (run.read ≡ Some bytes)

-- The bytes were written at a spot, and its device is out from then on where that failed.
pub record IsSpotWritten (spot : Spot) (bytes : List ℕ) (before after : Point) : Type 0 where
  pub result : Result (Unit {0}) Failed
  pub wrote : Wrote before.disk after.disk spot.device spot.device_sector bytes result
  pub called : Called spot.device result before after

-- A call was made: a read gave what it gave, or what was read before was written and is done with.
abbrev pub MakesCall : JobCall → Option (List ℕ) → Option (List ℕ) → Point → Point → Type 0
MakesCall call read given before after =
    ((call.kind ≡ Read) × IsRead (spot_called call) given before after)
    ⊎ ((call.kind ≢ Read) × (given ≡ None)
    × ((bytes : List ℕ) × (read ≡ Some bytes) × IsSpotWritten (spot_called call) bytes before after))

-- The present sector was read where the job reads it.
pub record ReadsSector (run : JobRun) (before : Point) (stepped : JobRun) (after : Point) : Type 0 where
  pub turn : run.made % 2 ≡ 0
  pub given : Option (List ℕ)
  pub read : IsRead (source_spot run) given before after
  pub next : stepped ≡ record run { made = run.made + 1; read = given }

-- What was read of the present sector was written where the job writes it.
pub record WritesSector (run : JobRun) (before : Point) (stepped : JobRun) (after : Point) : Type 0 where
  pub turn : run.made % 2 ≡ 1
  pub bytes : List ℕ
  pub held : run.read ≡ Some bytes
  pub written : IsSpotWritten (target_spot run) bytes before after
  pub next : stepped ≡ record run { made = run.made + 1; read = None }

-- what a step does to the run and to the devices
abbrev pub JobSteps : JobRun → Point → JobRun → Point → Type 0
JobSteps run before stepped after =
    ReadsSector run before stepped after ⊎ WritesSector run before stepped after
