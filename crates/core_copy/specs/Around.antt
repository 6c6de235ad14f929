-- Groups that images may show beside each other around one mark.
use Rattle.std.specs.Prelude.{ℕ, ◌+◌, ◌<◌, ◌≤◌, List, Contains}
use Rattle.reflow_mark.specs.declared.reflow.Reflow.{Reflow}
use Rattle.reflow_mark.specs.Reflow.{sectors_of}
use Rattle.shadow_write.specs.Required.{front_after_stop}
use Rattle.core_state.specs.Whole.{Cell, IsCellOf}
use Rattle.core_state.specs.Keeps.{Kept}
use Rattle.shadow_write.specs.Band.{StaysIn}

-- The cell is in the pool, in a row that ends at most a width behind it.
pub record IsClose (reflow : Reflow) (cell : Cell) : Type 0 where
  pub near : cell.row_end ≤ cell.sector + reflow.from
  pub inside : cell.sector < sectors_of reflow

-- a cell of a group's map
abbrev pub IsCellIn : Kept → Cell → Type 0
IsCellIn kept cell = IsCellOf kept.uber.parity kept.uber.births kept.entries kept.others kept.map cell

-- All that these groups ask for stays in the band of this reflow, with new places of sectors below
-- `copied` alone.
pub record StandAround (reflow : Reflow) (copied : ℕ) (groups : List Kept) : Type 0 where
  pub stays : (kept : Kept) → Contains groups kept
      → StaysIn reflow copied kept.uber.reflow (front_after_stop kept.uber.reflow)
  pub close : (kept : Kept) (cell : Cell) → Contains groups kept → IsCellIn kept cell → IsClose reflow cell
