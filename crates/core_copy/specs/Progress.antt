-- Where a job reads and writes a sector, and how far it has come with a cell.
use Rattle.std.specs.Prelude.{◌≡◌, ◌⊎◌, ℕ, ◌+◌, ◌*◌, ◌-◌, ◌<◌, ◌≤◌, Option, Some, None, nat_lt, if◌then◌else◌}
use Rattle.bank_trait.specs.Disk.{Disk}
use Rattle.width_map.specs.Place.{first_data_sector}
use Rattle.reflow_mark.specs.declared.reflow.State.TheVariants.{Moved}
use Rattle.reflow_mark.specs.declared.reflow.Reflow.{Reflow}
use Rattle.shadow_write.specs.Required.{IsAt, IsRequiredPlace}
use Rattle.reflow_copier.specs.declared.job.Job.{Job}
use Rattle.reflow_copier.specs.declared.job.JobCall.{JobCall}
use Rattle.reflow_copier.specs.Jobs.{job_begin, job_end, job_call_of, source_of, target_of}
use Rattle.core_state.specs.Whole.{Excepted, Cell, RightAt}
use Rattle.core_state.specs.JobTurns.{IsCopied}

-- The sector is one that the job copies.
abbrev pub CopiesSector : Reflow → Job → ℕ → Type 0
CopiesSector reflow job sector = (job_begin job ≤ sector) × (sector < job_end reflow job)

-- The job reads the sector at this sector of this device.
abbrev pub IsSource : Reflow → Job → ℕ → ℕ → ℕ → Type 0
IsSource reflow job sector device device_sector =
    IsAt (source_of reflow job sector).1 (source_of reflow job sector).0 device device_sector

-- The job writes the sector at this sector of this device.
abbrev pub IsTarget : Reflow → Job → ℕ → ℕ → ℕ → Type 0
IsTarget reflow job sector device device_sector =
    IsAt (target_of reflow job sector).1 (target_of reflow job sector).0 device device_sector

-- The sector is on a device of the pool, and not behind its data rows.
abbrev pub IsOnPool : Reflow → ℕ → ℕ → Type 0
IsOnPool reflow device device_sector = (device < reflow.to) × (device_sector < first_data_sector + reflow.rows)

-- A job that has come to the sector `next` keeps a cell right at the front at which it began, and has copied it where
-- it has come past it.
pub record HasComeTo (reflow : Reflow) (done : ℕ) (job : Job) (next : ℕ) (disk : Disk) (out : ℕ)
    (excepted : Excepted) (cell : Cell) : Type 0 where
  pub right : RightAt disk.reads reflow done out excepted cell
  pub copied : job_begin job ≤ cell.sector → cell.sector < next
      → IsCopied excepted disk out (target_of reflow job cell.sector) cell

-- The cell is required at this sector of this device at the front, or the job has copied it there.
abbrev pub IsPlaceSoFar : Reflow → ℕ → Job → ℕ → Cell → ℕ → ℕ → Type 0
IsPlaceSoFar reflow done job next cell device device_sector =
    IsRequiredPlace reflow done cell.row_end cell.sector device device_sector
    ⊎ ((job_begin job ≤ cell.sector) × (cell.sector < next)
    × IsTarget reflow job cell.sector device device_sector)

-- The chosen reflow is this one, with a mark that may have gone on in Moved, and no further than the front.
pub record MovesMark (reflow : Reflow) (done : ℕ) (chosen : Reflow) : Type 0 where
  pub mark : ℕ
  pub on : reflow.mark ≤ mark
  pub within : (mark ≡ reflow.mark) ⊎ ((reflow.state ≡ Moved) × (mark ≤ done))
  pub is : chosen ≡ record reflow { mark = mark }

-- the device calls of a job: a read and a write for each sector
abbrev pub call_count : Reflow → Job → ℕ
call_count reflow job = 2 * (job_end reflow job - job_begin job)

-- the job's call behind so many that were made, if it has one left
abbrev pub call_behind : Reflow → Job → ℕ → Option JobCall
call_behind reflow job made =
    if nat_lt made (call_count reflow job) then Some (job_call_of reflow job made) else None
