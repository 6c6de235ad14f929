-- How much of a space is in use: how many runs, and how many sectors they have.
use Rattle.std.specs.Prelude.{◌≡◌, ℕ, ◌+◌, ◌-◌, ◌*◌, ◌≤◌, List, ◌++◌, length, map, sum, sum_by}
use Rattle.row_layout.specs.Layout.{allocated_of}
use Rattle.space_alloc.specs.Space.{Run, Space}
use Rattle.reconstruct.specs.Rows.{sectors_for}
use Rattle.core_blocks.specs.Runs.{held_sectors}

-- the runs that are taken, and those that are held back
abbrev pub runs_in_use : Space → List Run
runs_in_use space = space.taken ++ map held_sectors space.held

-- how many sectors runs have
abbrev pub sectors_in : List Run → ℕ
sectors_in runs = sum_by (λ run. run.len) runs

-- The runs in use are no more than these sizes are, and have no more sectors than these make.
pub record UsesAtMost (space : Space) (sizes : List ℕ) : Type 0 where
  pub runs : length (runs_in_use space) ≤ length sizes
  pub sectors : sectors_in (runs_in_use space) ≤ sum sizes

-- The pool is as large as it was, and what is in use grew at most by runs of these sizes.
pub record AddsAtMost (old new : Space) (sizes : List ℕ) : Type 0 where
  pub capacity : new.capacity ≡ old.capacity
  pub runs : length (runs_in_use new) ≤ length (runs_in_use old) + length sizes
  pub sectors : sectors_in (runs_in_use new) ≤ sectors_in (runs_in_use old) + sum sizes

-- Runs of these sizes could leave no run of so many free sectors: before, between and behind them there
-- may be one sector less each.
pub record IsTight (capacity : ℕ) (sizes : List ℕ) (len : ℕ) : Type 0 where
  pub tight : capacity ≤ sum sizes + (length sizes + 1) * (len - 1)

-- how many sectors so many bytes take at a width
abbrev pub size_at : ℕ → ℕ → ℕ → ℕ
size_at parity width len =
    allocated_of (record { start = 0; sectors = sectors_for len; parity = parity; width = width })
