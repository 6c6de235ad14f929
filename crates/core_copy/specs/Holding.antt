-- What a job under way keeps of a cell.
use Rattle.std.specs.Prelude.{◌≡◌, ℕ, ◌%◌, ◌<◌, ◌≤◌, List, Some}
use Rattle.reflow_mark.specs.declared.reflow.Reflow.{Reflow}
use Rattle.reflow_mark.specs.Reflow.{scratch_end, sectors_of}
use Rattle.shadow_write.specs.Band.{IsFrontOf, IsWidening}
use Rattle.reflow_copier.specs.Jobs.{source_of}
use Rattle.core_state.specs.Committing.{Point}
use Rattle.core_state.specs.JobTurns.{MayRun}
use Rattle.core_state.specs.Whole.{Cell, Excepted}
use Rattle.core_copy.specs.Progress.{HasComeTo, MovesMark, call_count}
use Rattle.core_copy.specs.Closed.{IsExceptedAt}
use Rattle.core_copy.specs.JobRun.{JobRun, present_sector}

-- The run goes on in a pool of this reflow and front: since the job began its mark may have gone on, and nothing else.
pub record GoesOnIn (reflow : Reflow) (done : ℕ) (run : JobRun) : Type 0 where
  pub widening : IsWidening reflow
  pub front : IsFrontOf reflow done
  pub room : scratch_end reflow < sectors_of reflow
  pub may_run : MayRun reflow done run.job
  pub moves : MovesMark run.reflow done reflow
  pub made : run.made ≤ call_count run.reflow run.job

-- The present sector may be wrong at the place at which the job reads it.
abbrev pub IsReadExcepted : JobRun → Excepted → Type 0
IsReadExcepted run excepted =
    IsExceptedAt excepted (present_sector run) (source_of run.reflow run.job (present_sector run))

-- The job has come to its present sector with the cell, and what it has read of the cell's sector is the cell, unless
-- that may be wrong there.
pub record HoldsJob (reflow : Reflow) (done : ℕ) (run : JobRun) (point : Point) (excepted : Excepted)
    (cell : Cell) : Type 0 where
  pub come : HasComeTo reflow done run.job (present_sector run) point.disk point.out excepted cell
  pub held : run.made % 2 ≡ 1 → cell.sector ≡ present_sector run → (IsReadExcepted run excepted → ⊥) → (bytes : List ℕ)
      → run.read ≡ Some bytes → bytes ≡ cell.bytes
