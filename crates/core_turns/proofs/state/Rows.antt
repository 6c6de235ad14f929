-- The rows of a block outside the sectors that a commit holds: they are asked for, and read, at the same places behind
-- its answer.
use Rattle.core_turns.proofs.Words.{◌≡◌, inl, inr, ℕ, ◌+◌, ◌-◌, ◌*◌, ◌<◌, ◌≤◌, Bool, true, false, List, arith}
use Rattle.core_turns.proofs.Words.{if◌then◌else◌, nat_le, nat_tests, Hold, State, Valid, Moved, Reflow, Stand}
use Rattle.core_turns.proofs.Words.{IsRightReflow, stand_of, Layout, IsLayout, IsColumn, allocated_of, columns_in}
use Rattle.core_turns.proofs.Words.{end_of, sector_of, total_of, inside, IsChoiceIn, MayRecord, Chooses, Widens}
use Rattle.core_turns.proofs.Words.{range_of_commit, next_mark_between, IsOutside, RowsStand, front_behind, IsFrontOf}
use Rattle.core_turns.proofs.Words.{IsInPool, Spot, spot_in, spot_of, AsksAlike}
use Rattle.reflow_mark.specs.declared.reflow.State.TheVariants.{None}

-- A row ends in the sectors of its block.
row_ends : {layout : Layout} {row column : ℕ} → IsLayout layout → IsColumn layout row column
    → end_of layout row ≤ layout.start + total_of layout
row_ends {layout} {row} is there =
    let last = inside layout row (columns_in layout row - 1) is (search arith) in
    omega arith

-- The block is outside a range.
abbrev pub IsBlockOutside : ℕ → ℕ → Layout → Type 0
IsBlockOutside lo hi layout = IsOutside lo hi layout.start (layout.start + allocated_of layout)

-- So is each of its rows.
pub row_outside : (lo hi : ℕ) (layout : Layout) (row column : ℕ) → IsLayout layout → IsColumn layout row column
    → IsBlockOutside lo hi layout → IsOutside lo hi layout.start (end_of layout row)
row_outside lo hi layout row column is there (inl empty) = inl empty
row_outside lo hi layout row column is there (inr (inl before)) =
    let ends = row_ends is there in search arith
row_outside lo hi layout row column is there (inr (inr behind)) = inr (inr behind)

-- Such a block is asked for at the same places behind the answer.
pub block_alike : (reflow : Reflow) (done : ℕ) (chosen : Reflow) (layout : Layout) → RowsStand reflow done chosen
    → IsInPool layout reflow → IsBlockOutside (range_of_commit reflow chosen).0 (range_of_commit reflow chosen).1 layout
    → AsksAlike layout reflow done chosen (front_behind reflow done chosen)
block_alike reflow done chosen layout stand pool outside row column there =
    stand layout.start (end_of layout row) (sector_of layout row column) (omega arith) (search arith)
    (omega (arith, row_ends pool.within.is there, pool.end)) (search row_outside)

-- ---- where a row is read

at_once : {b : Bool} → b ≡ true → (one other : Stand) → (if b then one else other) ≡ one
at_once is one other = cc

not_so : {b : Bool} → b ≡ false → (one other : Stand) → (if b then one else other) ≡ other
not_so is one other = cc

-- A row that ends above the mark is read at its old place, one that ends by it where it was moved.
above : (mark row_end : ℕ) → mark < row_end → nat_le row_end mark ≡ false
above mark row_end low = grind (arith, nat_tests, low)

by_then : (mark row_end : ℕ) → row_end ≤ mark → nat_le row_end mark ≡ true
by_then mark row_end low = grind (arith, nat_tests, low)

module _ (from to rows mark done : ℕ) (holds : List Hold) (first row_end sector : ℕ) (some : first < row_end)
    (within : row_end ≤ rows * from) where
  abbrev at : State → Reflow
  at state = record { from = from; to = to; rows = rows; mark = mark; state = state }

  -- where the row's sector is read at a reflow
  abbrev read_at : Reflow → Spot
  read_at reflow = spot_in (stand_of reflow.state reflow.mark row_end) reflow sector

  abbrev Stays : State → Reflow → Type 0
  Stays state chosen = IsOutside (range_of_commit (at state) chosen).0
      (range_of_commit (at state) chosen).1 first row_end → read_at chosen ≡ read_at (at state)

  -- A row outside the sectors from 0 on to a mark ends above it.
  beyond : (hi : ℕ) → IsOutside 0 hi first row_end → hi < row_end
  beyond hi outside = grind arith

  same_stays : (state : State) (chosen : Reflow) → chosen ≡ at state → Stays state chosen
  same_stays state chosen same outside = cc

  valid_stays : Stays None (record (at None) { state = Valid; mark = 32 * to })
  valid_stays outside = search (above, beyond)

  drained_stays : mark ≡ 32 * to → Stays Valid (record (at Valid) { state = Moved; mark = 32 * to })
  drained_stays full outside = search (not_so, above, beyond, arith)

  -- a mark that goes on
  moved_stays : (next : ℕ) → mark ≤ next → Stays Moved (record (at Moved) { state = Moved; mark = next })
  moved_stays next low (inl empty) = search arith
  moved_stays next low (inr (inl before)) = search (at_once, by_then, arith)
  moved_stays next low (inr (inr behind)) = search (not_so, above, arith)

  -- and one that comes to the end of the pool
  ended_stays : mark < rows * from → Stays Moved (record { from = to; to = to; rows = rows; mark = 0; state = None })
  ended_stays low (inl empty) = absurd (omega arith)
  ended_stays low (inr (inl before)) = search by_then
  ended_stays low (inr (inr behind)) = absurd (omega arith)

  moved_to_stays : (next : ℕ) (ends : Bool) → mark < rows * from → mark ≤ next
      → Stays Moved (if ends then record { from = to; to = to; rows = rows; mark = 0; state = None }
      else record (at Moved) { state = Moved; mark = next })
  moved_to_stays next true low high = ended_stays low
  moved_to_stays next false low high = moved_stays next high

  in_state : (state : State) (chosen : Reflow) → IsRightReflow (at state) → IsFrontOf (at state) done
      → IsChoiceIn state (at state) done holds chosen → Stays state chosen
  in_state None chosen right front choice = search (valid_stays, same_stays, arith)
  in_state Valid chosen right front choice = search (drained_stays, same_stays, arith)
  in_state Moved chosen right front choice = search (moved_to_stays, next_mark_between, arith)

-- A column of such a block is read where it was read.
pub spot_stays : (reflow : Reflow) (done : ℕ) (chosen : Reflow) (layout : Layout) (row column : ℕ)
    → IsInPool layout reflow → IsFrontOf reflow done → MayRecord reflow done chosen
    → IsBlockOutside (range_of_commit reflow chosen).0 (range_of_commit reflow chosen).1 layout
    → IsColumn layout row column → spot_of layout chosen row column ≡ spot_of layout reflow row column
spot_stays reflow done chosen layout row column pool front (Chooses holds choice) outside there =
    rw ends_there at (in_state reflow.from reflow.to reflow.rows reflow.mark done holds layout.start (end_of layout row)
    (sector_of layout row column) (omega (arith, there.column_in))
    (omega (arith, row_ends pool.within.is there, pool.end)) reflow.state chosen pool.right front choice
    (search row_outside))
  where
    ends_there : end_of layout row ≡ sector_of layout row 0 + columns_in layout row
    ends_there = omega arith
spot_stays reflow done chosen layout row column pool front (Widens wider) outside there =
    let unmoved : reflow.state ≡ None = search arith in search arith
