-- What a job that is under way has copied, over what others do.
use Rattle.core_turns.proofs.Words.{◌≡◌, inr, ⊎_elim, ℕ, ◌<◌, true, false, sym, ◌∙◌, arith, cases_lt, Reflow, Job}
use Rattle.core_turns.proofs.Words.{Fill, job_end, has_device, IsWithin, none_in, Point, MayRun, Cell, RightAt}
use Rattle.core_turns.proofs.Words.{IsDataSector, IsClose, CopiesSector, IsPlaceSoFar, IsTarget, JobRun, HoldsJob}
use Rattle.core_turns.proofs.Words.{Excepted, IsClosed, run_beside, run_stays, none_empty, CopiesCells}
use Rattle.core_turns.proofs.put.Places.{required_data, row_below}

-- ---- devices

none_has : (device : ℕ) → has_device 0 device ≡ true → ⊥
none_has device has = cc (none_in device)

-- Where no device is out now, none was before.
pub none_before : (old new : ℕ) → IsWithin old new → new ≡ 0 → old ≡ 0
none_before old new within whole = none_empty old (search (none_has, arith))

-- Each is in use.
pub all_used : (out device : ℕ) → out ≡ 0 → has_device out device ≡ false
all_used out device whole = search (none_in, arith)

-- ---- places

-- Where a job writes is in the scratch area or in the data rows.
pub target_data : (reflow : Reflow) (done : ℕ) (job : Job) (sector device device_sector : ℕ) → MayRun reflow done job
    → CopiesSector reflow job sector → IsTarget reflow job sector device device_sector → IsDataSector device_sector
target_data reflow done Fill sector device device_sector may inside at = search (row_below, arith)
target_data reflow done other sector device device_sector may inside at = inr (omega (arith, at.sector_is))

-- No place at which a sector that the job copies is required, nor where the job copies it to, is one of these.
pub record IsJobOff (P : ℕ → ℕ → Type 0) (reflow : Reflow) (done : ℕ) (run : JobRun) : Type 0 where
  pub places : (cell : Cell) (device device_sector : ℕ) → IsClose reflow cell → CopiesSector reflow run.job cell.sector
      → IsPlaceSoFar reflow done run.job (job_end reflow run.job) cell device device_sector
      → P device device_sector → ⊥

-- ---- what stays

module _ (P : ℕ → ℕ → Type 0) (reflow : Reflow) (done : ℕ) (run : JobRun) (before after : Point)
    (within : IsWithin before.out after.out)
    (reads : (device device_sector : ℕ) → has_device after.out device ≡ false → IsDataSector device_sector
    → (P device device_sector → ⊥) → after.disk.reads device device_sector ≡ before.disk.reads device device_sector)
    (off : IsJobOff P reflow done run) (holds : CopiesCells reflow done run before) where
  module _ (whole : after.out ≡ 0) (wrong : Excepted) (closed : IsClosed wrong) (cell : Cell) (close : IsClose reflow cell)
      (below : cell.sector < cell.row_end) (right : RightAt after.disk.reads reflow done after.out wrong cell) where
    -- A sector that the job copies was right before,
    was_right : CopiesSector reflow run.job cell.sector → RightAt before.disk.reads reflow done before.out wrong cell
    was_right inside = record {
      at = λ device device_sector place used kept.
          sym (reads device device_sector (all_used after.out device whole) (search required_data) (search arith))
          ∙ right.at device device_sector place (all_used after.out device whole) kept;
    }

    -- so it is copied still;
    inside_stays : CopiesSector reflow run.job cell.sector → HoldsJob reflow done run after wrong cell
    inside_stays inside = run_stays reflow done run before after wrong cell within
        (λ device device_sector place used. reads device device_sector used (⊎_elim (search required_data)
        (search (target_data, arith)) place) (search arith)) (search (none_before, was_right, arith))

    -- of another no more is asked.
    cell_stays : HoldsJob reflow done run after wrong cell
    cell_stays = search (run_beside, holds.goes, inside_stays, cases_lt, arith)

  -- A job has come as far as before where nothing was touched that it relies on.
  pub job_leaves : CopiesCells reflow done run after
  job_leaves = record { goes = holds.goes; each = cell_stays }
