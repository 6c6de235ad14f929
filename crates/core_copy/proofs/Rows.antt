-- Rows of blocks that a job does not touch.
use Rattle.std.proofs.Common.{inl, inr, ℕ, ◌+◌, ◌-◌, ◌<◌, List, arith}
use Rattle.reflow_mark.specs.declared.reflow.Reflow.{Reflow}
use Rattle.row_layout.specs.Layout.{Layout, IsLayout, IsColumn, columns_in, end_of, sector_of, total_of}
use Rattle.row_layout.proofs.Laws.{inside}
use Rattle.shadow_write.specs.declared.write.Write.{Write}
use Rattle.shadow_write.specs.Writes.{AreRequired}
use Rattle.reflow_copier.specs.declared.job.Job.{Job}
use Rattle.reflow_copier.specs.Jobs.{job_begin, job_end}
use Rattle.core_state.specs.JobTurns.{MayRun}
use Rattle.core_copy.specs.Behind.{IsOutside}
use Rattle.shadow_write.specs.Band.{AsksSame}
use Rattle.core_copy.proofs.Places.{rows_same}

-- A row of a block is outside a range that the block is outside of.
row_outside : (layout : Layout) (lo hi row column : ℕ) → IsLayout layout → IsColumn layout row column
    → IsOutside lo hi layout.start (layout.start + total_of layout)
    → IsOutside lo hi (sector_of layout row column) (end_of layout row)
row_outside layout lo hi row column is there (inl none) = inl none
row_outside layout lo hi row column is there (inr (inl before)) =
    let some : column < columns_in layout row = there.column_in in
    let last : IsColumn layout row (columns_in layout row - 1) = record { row_in = there.row_in; column_in = omega (arith, some) } in
    let below = inside layout row (columns_in layout row - 1) is last in
    inr (inl (omega (arith, some, below, before)))
row_outside layout lo hi row column is there (inr (inr behind)) = inr (inr (omega (arith, behind)))

-- Law: A put whose block is outside a job's sectors has the same list of writes before and behind the job.
pub plan_same : (layout : Layout) (reflow : Reflow) (done : ℕ) (job : Job) (writes : List Write) → IsLayout layout
    → MayRun reflow done job → IsOutside (job_begin job) (job_end reflow job) layout.start (layout.start + total_of layout)
    → AreRequired layout reflow done writes → AreRequired layout reflow (job_end reflow job) writes
plan_same layout reflow done job writes is may away required = record {
  only = λ write listed. let its = required.only write listed in
      (its.0, (same write.row write.column its.0 write.device write.device_sector).0 its.1);
  all = λ row column device device_sector there needed.
      required.all row column device device_sector there ((same row column there device device_sector).1 needed);
}
  where
    same : (row column : ℕ) → IsColumn layout row column
        → AsksSame reflow done reflow (job_end reflow job) (end_of layout row) (sector_of layout row column)
    same row column there = rows_same reflow done job (sector_of layout row column) (end_of layout row) (sector_of layout row column)
        may (omega arith) (let some = there.column_in in omega (arith, some))
        (row_outside layout (job_begin job) (job_end reflow job) row column is there away)
