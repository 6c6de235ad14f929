-- A job's calls are to devices of the pool, within its rows.
use Rattle.std.proofs.Common.{ℕ, ◌*◌, ◌/◌, ◌<◌, ◌≤◌, arith}
use Rattle.std.proofs.Math.Nat.{div-lt_iff_lt-mul, mul-le-mul_left, mul-le-mul_right}
use Rattle.width_map.specs.Place.{place_of, first_data_sector}
use Rattle.reflow_mark.specs.declared.reflow.Reflow.{Reflow}
use Rattle.reflow_mark.specs.Reflow.{Expands, scratch_end, sectors_of}
use Rattle.scratch_area.specs.Scratch.{first_scratch_sector}
use Rattle.shadow_write.specs.Required.{IsAt}
use Rattle.reflow_copier.specs.declared.job.Job.{Job}
use Rattle.reflow_copier.specs.declared.job.Job.TheVariants.{Fill, Drain, Chunk}
use Rattle.uberblock_ring.specs.Uberblock.{Uber}
use Rattle.uberblock_ring.specs.Valid.{IsRightUber}
use Rattle.core_state.specs.JobTurns.{MayRun}
use Rattle.shadow_write.specs.Band.{IsWidening}
use Rattle.shadow_write.proofs.Apart.{scratch_low}
use Rattle.core_copy.specs.Progress.{CopiesSector, IsOnPool, IsSource, IsTarget}

-- Law: A pool that is being widened has more sectors than go through the scratch area.
pub right_room : (uber : Uber) → IsRightUber uber → Expands uber.reflow → scratch_end uber.reflow < sectors_of uber.reflow
right_room uber right expands =
    let high : 64 * uber.reflow.from ≤ uber.reflow.rows * uber.reflow.from = mul-le-mul_right uber.reflow.from right.rows.0 in
    omega (arith, high, expands, right.widths.0, right.parity.0)

-- Law: A job copies sectors of the pool.
pub job_inside : (reflow : Reflow) (done : ℕ) (job : Job) (sector : ℕ) → scratch_end reflow < sectors_of reflow
    → MayRun reflow done job → CopiesSector reflow job sector → sector < sectors_of reflow
job_inside reflow done Fill sector room may inside = omega (arith, inside.1, room)
job_inside reflow done Drain sector room may inside = omega (arith, inside.1, room)
job_inside reflow done (Chunk lo hi) sector room may inside = omega (arith, inside.1, may.4)

-- A place at a width of the pool is in the rows.
place_inside : (reflow : Reflow) (width sector device device_sector : ℕ) → 0 < width → reflow.from ≤ width → width ≤ reflow.to
    → sector < sectors_of reflow → IsAt (place_of width sector) first_data_sector device device_sector
    → IsOnPool reflow device device_sector
place_inside reflow width sector device device_sector some wide few below at =
    let rows : reflow.rows * reflow.from ≤ reflow.rows * width = mul-le-mul_left reflow.rows wide in
    let row : sector / width < reflow.rows = (div-lt_iff_lt-mul {k = width} {x = sector} {y = reflow.rows} some).1 (omega (arith, below, rows)) in
    (omega (arith, at.device_is, few, some), omega (arith, at.sector_is, row))

-- A scratch place is above the data rows.
scratch_inside : (reflow : Reflow) (sector device device_sector : ℕ) → 0 < reflow.to → sector < scratch_end reflow
    → IsAt (place_of reflow.to sector) first_scratch_sector device device_sector
    → IsOnPool reflow device device_sector
scratch_inside reflow sector device device_sector some below at =
    let row : sector / reflow.to < 32 = scratch_low reflow.to sector some below in
    (omega (arith, at.device_is, some), omega (arith, at.sector_is, row))

-- Law: A job reads devices of the pool, none behind the data rows.
pub source_inside : (reflow : Reflow) (done : ℕ) (job : Job) (sector device device_sector : ℕ) → IsWidening reflow
    → scratch_end reflow < sectors_of reflow → MayRun reflow done job → CopiesSector reflow job sector
    → IsSource reflow job sector device device_sector → IsOnPool reflow device device_sector
source_inside reflow done Fill sector device device_sector widening room may inside at =
    place_inside reflow reflow.from sector device device_sector widening.some (omega arith) (omega (arith, widening.expands))
    (job_inside reflow done Fill sector room may inside) at
source_inside reflow done Drain sector device device_sector widening room may inside at =
    scratch_inside reflow sector device device_sector (omega (arith, widening.expands)) inside.1 at
source_inside reflow done (Chunk lo hi) sector device device_sector widening room may inside at =
    place_inside reflow reflow.from sector device device_sector widening.some (omega arith) (omega (arith, widening.expands))
    (job_inside reflow done (Chunk lo hi) sector room may inside) at

-- Law: A job writes devices of the pool, none behind the data rows.
pub target_inside : (reflow : Reflow) (done : ℕ) (job : Job) (sector device device_sector : ℕ) → IsWidening reflow
    → scratch_end reflow < sectors_of reflow → MayRun reflow done job → CopiesSector reflow job sector
    → IsTarget reflow job sector device device_sector → IsOnPool reflow device device_sector
target_inside reflow done Fill sector device device_sector widening room may inside at =
    scratch_inside reflow sector device device_sector (omega (arith, widening.expands)) inside.1 at
target_inside reflow done Drain sector device device_sector widening room may inside at =
    place_inside reflow reflow.to sector device device_sector (omega (arith, widening.expands)) (omega (arith, widening.expands)) (omega arith)
    (job_inside reflow done Drain sector room may inside) at
target_inside reflow done (Chunk lo hi) sector device device_sector widening room may inside at =
    place_inside reflow reflow.to sector device device_sector (omega (arith, widening.expands)) (omega (arith, widening.expands)) (omega arith)
    (job_inside reflow done (Chunk lo hi) sector room may inside) at
