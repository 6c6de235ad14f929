-- Which job is due, and the calls that it makes.
use Rattle.std.specs.Prelude.{ℕ, ◌+◌, ◌/◌, ◌%◌, min, Option, Some, None, ◌&&◌, ◌==◌, if◌then◌else◌, nat_lt}
use Rattle.width_map.specs.declared.position.Place.{Place}
use Rattle.width_map.specs.Place.{first_data_sector, limit_of}
use Rattle.reflow_mark.specs.declared.reflow.State.{State}
use Rattle.reflow_mark.specs.declared.reflow.State.TheVariants.{None as Unmoved, Valid, Moved}
use Rattle.reflow_mark.specs.declared.reflow.Reflow.{Reflow}
use Rattle.reflow_mark.specs.Reflow.{scratch_end, sectors_of}
use Rattle.scratch_area.specs.Scratch.{old_place, new_place, scratch_place, first_scratch_sector}
use Rattle.reflow_copier.specs.declared.job.Job.{Job}
use Rattle.reflow_copier.specs.declared.job.Job.TheVariants.{Fill, Drain, Chunk}
use Rattle.reflow_copier.specs.declared.job.CallKind.TheVariants.{Read, Write}
use Rattle.reflow_copier.specs.declared.job.JobCall.{JobCall}

-- sectors of a chunk at most
abbrev pub chunk_sectors : ℕ
chunk_sectors = 64

-- where a chunk that begins at the front ends
abbrev pub chunk_end : Reflow → ℕ → ℕ
chunk_end reflow done =
    min (min (limit_of reflow.from reflow.mark) (sectors_of reflow)) (done + chunk_sectors)

-- the chunk that is due, if any
abbrev pub next_chunk_of : Reflow → ℕ → Option Job
next_chunk_of reflow done =
    if nat_lt done (chunk_end reflow done) then Some (Chunk done (chunk_end reflow done)) else None

-- the job that is due in a state
abbrev pub job_in : State → Reflow → ℕ → Option Job
job_in Unmoved reflow done =
    if (reflow.to == reflow.from + 1) && (done == 0) then Some Fill else None
job_in Valid reflow done = if done == 0 then Some Drain else None
job_in Moved reflow done = next_chunk_of reflow done

-- the job that is due
abbrev pub next_job_of : Reflow → ℕ → Option Job
next_job_of reflow done = job_in reflow.state reflow done

-- the first sector that a job copies, and the one after its last
abbrev pub job_begin : Job → ℕ
job_begin Fill = 0
job_begin Drain = 0
job_begin (Chunk lo hi) = lo

abbrev pub job_end : Reflow → Job → ℕ
job_end reflow Fill = scratch_end reflow
job_end reflow Drain = scratch_end reflow
job_end reflow (Chunk lo hi) = hi

-- a place with the first sector of its rows
abbrev pub Spot : Type 0
Spot = ℕ × Place

-- where a job reads a sector
abbrev pub source_of : Reflow → Job → ℕ → Spot
source_of reflow Fill sector = (first_data_sector, old_place reflow sector)
source_of reflow Drain sector = (first_scratch_sector, scratch_place reflow.to sector)
source_of reflow (Chunk lo hi) sector = (first_data_sector, old_place reflow sector)

-- where it writes it
abbrev pub target_of : Reflow → Job → ℕ → Spot
target_of reflow Fill sector = (first_scratch_sector, scratch_place reflow.to sector)
target_of reflow Drain sector = (first_data_sector, new_place reflow sector)
target_of reflow (Chunk lo hi) sector = (first_data_sector, new_place reflow sector)

abbrev pub read_call : Spot → JobCall
read_call spot = record { kind = Read; device = spot.1.device; device_sector = spot.0 + spot.1.row }

abbrev pub write_call : Spot → JobCall
write_call spot = record {
  kind = Write;
  device = spot.1.device;
  device_sector = spot.0 + spot.1.row;
}

-- the job's call of this number: by turns a read and a write, sector by sector
abbrev pub job_call_of : Reflow → Job → ℕ → JobCall
job_call_of reflow job number = let sector : ℕ = job_begin job + number / 2 in
    if number % 2 == 0 then read_call (source_of reflow job sector) else write_call
    (target_of reflow job sector)
