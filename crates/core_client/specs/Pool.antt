-- A block in its pool, and when it is right there.
use Rattle.std.specs.Prelude.{ℕ, ◌+◌, ◌≤◌, List}
use Rattle.bank_trait.specs.Disk.{Known}
use Rattle.reflow_mark.specs.declared.reflow.Reflow.{Reflow}
use Rattle.reflow_mark.specs.Reflow.{sectors_of, IsRightReflow}
use Rattle.row_layout.specs.Layout.{Layout, total_of}
use Rattle.row_layout.specs.Standing.{IsWithinLimits}
use Rattle.core_state.specs.Whole.{Cell, Excepted, IsCell, RightAt}

-- The block lies in a pool of this reflow, and is no wider than it.
pub record IsInPool (layout : Layout) (reflow : Reflow) : Type 0 where
  pub within : IsWithinLimits layout
  pub right : IsRightReflow reflow
  pub width : layout.width ≤ reflow.from
  pub few : reflow.to ≤ 16
  pub rows : reflow.rows ≤ 65536
  pub end : layout.start + total_of layout ≤ sectors_of reflow

-- Each sector of a block of these bytes is right wherever it may be read, but for devices that are out, and for what
-- may be wrong.
pub record IsRightBlock (layout : Layout) (bytes : List ℕ) (reflow : Reflow) (done : ℕ)
    (known : Known) (out : ℕ) (wrong : Excepted) : Type 0 where
  pub each : (cell : Cell) → IsCell layout bytes cell → RightAt known reflow done out wrong cell
