-- Where a pool stands behind the answer of a commit, in the middle of an expansion or at its end.
use Rattle.std.specs.Prelude.{◌≡◌, ◌⊎◌, ℕ, ◌+◌, ◌<◌, ◌≤◌}
use Rattle.reflow_mark.specs.declared.reflow.State.{State}
use Rattle.reflow_mark.specs.declared.reflow.State.TheVariants.{None, Valid, Moved}
use Rattle.reflow_mark.specs.declared.reflow.Reflow.{Reflow}
use Rattle.reflow_mark.specs.Reflow.{IsRightReflow, sectors_of}
use Rattle.shadow_write.specs.Required.{IsRequiredPlace}
use Rattle.shadow_write.specs.Band.{AsksSame, IsWidening, IsFrontOf}
use Rattle.mark_choice.specs.Advance.{AsksNoMore}
use Rattle.mark_choice.specs.CommitChoice.{IsStepOfWidths, range_of_commit}

-- the reflow of an expansion that has just begun, from this width to one more
abbrev pub begun : ℕ → ℕ → Reflow
begun from rows = record { from = from; to = from + 1; rows = rows; mark = 0; state = None }

-- the front behind a commit that turned one state into another
abbrev pub front_in : State → State → ℕ → ℕ → ℕ
front_in None None done mark = done
front_in Valid Valid done mark = done
front_in Moved Moved done mark = done
front_in Valid Moved done mark = mark
front_in state other done mark = 0

abbrev pub front_behind : Reflow → ℕ → Reflow → ℕ
front_behind reflow done chosen = front_in reflow.state chosen.state done chosen.mark

-- What a reflow asks for at a front is asked for already at another reflow and front.
abbrev pub AsksNoMoreAt : Reflow → ℕ → Reflow → ℕ → Type 0
AsksNoMoreAt reflow done chosen front = (row_end sector device device_sector : ℕ) → sector < sectors_of reflow
    → IsRequiredPlace chosen front row_end sector device device_sector
    → IsRequiredPlace reflow done row_end sector device device_sector

-- The row from `first` to `row_end` is outside a range of sectors.
abbrev pub IsOutside : ℕ → ℕ → ℕ → ℕ → Type 0
IsOutside lo hi first row_end = (hi ≤ lo) ⊎ ((row_end ≤ lo) ⊎ (hi ≤ first))

-- What a choice comes to: the expansion goes on, with its front where it may be, or it has ended.
pub data GoesOnOrEnds (reflow : Reflow) (done : ℕ) (chosen : Reflow) : Type 0 where
  GoesOn : (widening : IsWidening chosen) (front : IsFrontOf chosen (front_behind reflow done chosen))
      → GoesOnOrEnds reflow done chosen
  HasEnded : (all : sectors_of reflow ≤ done)
      (is : chosen ≡ record { from = reflow.to; to = reflow.to; rows = reflow.rows; mark = 0; state = None })
      → GoesOnOrEnds reflow done chosen

-- Rows outside the range that a commit holds are asked for at the same places behind its answer.
abbrev pub RowsStand : Reflow → ℕ → Reflow → Type 0
RowsStand reflow done chosen = (first row_end sector : ℕ) → first ≤ sector → sector < row_end
    → row_end ≤ sectors_of reflow
    → IsOutside (range_of_commit reflow chosen).0 (range_of_commit reflow chosen).1 first row_end
    → AsksSame reflow done chosen (front_behind reflow done chosen) row_end sector

-- A reflow that a commit records is right, and its front behind the answer is where it may be. What it asks for, after
-- a stop and behind the answer, is asked for already.
pub record FollowsOn (reflow : Reflow) (done : ℕ) (chosen : Reflow) : Type 0 where
  pub right : IsRightReflow chosen
  pub widths : IsStepOfWidths reflow chosen
  pub front : IsFrontOf chosen (front_behind reflow done chosen)
  pub stop : AsksNoMore reflow done chosen
  pub behind : AsksNoMoreAt reflow done chosen (front_behind reflow done chosen)
  pub rows : RowsStand reflow done chosen
