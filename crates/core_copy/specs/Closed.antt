-- What may be wrong, and stays so where it is copied.
use Rattle.std.specs.Prelude.{ℕ, ◌+◌, Contains}
use Rattle.reflow_mark.specs.declared.reflow.Reflow.{Reflow}
use Rattle.reflow_copier.specs.declared.job.Job.{Job}
use Rattle.reflow_copier.specs.Jobs.{Spot, source_of, target_of}
use Rattle.shadow_write.specs.Band.{IsWidening}
use Rattle.core_state.specs.Whole.{Excepted}
use Rattle.core_copy.specs.Progress.{CopiesSector}

-- The sector may be wrong at this place.
abbrev pub IsExceptedAt : Excepted → ℕ → Spot → Type 0
IsExceptedAt excepted sector spot = Contains excepted (sector, (spot.1.device, spot.0 + spot.1.row))

-- What may be wrong where a job reads it may be wrong where the job writes it: so a copy makes nothing wrong
-- that is not listed.
pub record IsClosed (excepted : Excepted) : Type 0 where
  pub copied : (reflow : Reflow) (job : Job) (sector : ℕ) → IsWidening reflow → CopiesSector reflow job sector
      → IsExceptedAt excepted sector (source_of reflow job sector)
      → IsExceptedAt excepted sector (target_of reflow job sector)
