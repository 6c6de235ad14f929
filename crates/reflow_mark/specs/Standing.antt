-- Which copy of a row is read.
use Rattle.std.specs.Prelude.{ℕ, ◌+◌, ◌<◌, ⊤, if◌then◌else◌, nat_le}
use Rattle.reflow_mark.specs.declared.reflow.State.{State}
use Rattle.reflow_mark.specs.declared.reflow.State.TheVariants.{None, Valid, Moved}
use Rattle.reflow_mark.specs.declared.reflow.Reflow.{Reflow}
use Rattle.reflow_mark.specs.declared.stand.Stand.{Stand}
use Rattle.reflow_mark.specs.declared.stand.Stand.TheVariants.{Old, Scratch, New}

-- A row is judged by its end: while one of its sectors lies above the mark, all of it is read at
-- the old place.
abbrev pub stand_of : State → ℕ → ℕ → Stand
stand_of None mark row_end = Old
stand_of Valid mark row_end = if nat_le row_end mark then Scratch else Old
stand_of Moved mark row_end = if nat_le row_end mark then New else Old

-- where a row of so many columns stands that begins at `first`
abbrev pub standing : Reflow → ℕ → ℕ → Stand
standing reflow first columns = stand_of reflow.state reflow.mark (first + columns)

-- The old place of a row that ends at `row_end` is needed: unless all of the row is below the mark
-- and moved.
abbrev pub NeedsOld : State → ℕ → ℕ → Type 0
NeedsOld None mark row_end = ⊤
NeedsOld Valid mark row_end = mark < row_end
NeedsOld Moved mark row_end = mark < row_end
