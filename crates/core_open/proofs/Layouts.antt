-- The blocks of an index that fits lie in their pool, and no place is required by two of them.
use Rattle.std.proofs.Common.{◌≡◌, inl, ⊎_elim, ℕ, ◌+◌, ◌*◌, ◌<◌, ◌≤◌, refl, sym, subst, arith}
use Rattle.std.proofs.Math.Nat.{div-add-mod, mul-le-mul_left}
use Rattle.width_map.specs.Births.{width_of_birth}
use Rattle.reflow_mark.specs.declared.reflow.State.{State}
use Rattle.reflow_mark.specs.declared.reflow.State.TheVariants.{None, Valid, Moved}
use Rattle.reflow_mark.specs.declared.reflow.Reflow.{Reflow}
use Rattle.reflow_mark.specs.Reflow.{sectors_of, IsRightReflow}
use Rattle.row_layout.specs.Layout.{Layout, IsColumn, total_of, allocated_of, sector_of, end_of}
use Rattle.row_layout.proofs.Laws.{inside}
use Rattle.shadow_write.specs.Required.{IsRequiredPlace, front_after_stop}
use Rattle.block_record.specs.declared.entry.IndexEntry.{IndexEntry}
use Rattle.block_record.specs.Page.{IsRightEntry}
use Rattle.uberblock_ring.specs.Uberblock.{Uber}
use Rattle.uberblock_ring.specs.Valid.{IsRightUber}
use Rattle.core_state.specs.Index.{layout_of, block_end}
use Rattle.reconstruct.specs.Rows.{sectors_for}
use Rattle.core_state.proofs.Births.{births_between}
use Rattle.core_state.proofs.Places.{right_widths}
use Rattle.core_blocks.specs.Blocks.{layout_run}
use Rattle.core_blocks.specs.Runs.{AreClear}
use Rattle.core_client.specs.Pool.{IsInPool}
use Rattle.shadow_write.specs.Band.{IsFrontOf}
use Rattle.core_client.proofs.Places.{one_sector, widths_of, close_to_end}

-- A block takes at least the sectors that it fills.
pub total_few : (layout : Layout) → total_of layout ≤ allocated_of layout
total_few layout = omega (arith, div-add-mod (total_of layout + layout.parity) (layout.parity + 1))

-- A pool is not that large.
sectors_few : (uber : Uber) → IsRightUber uber → sectors_of uber.reflow ≤ 65536 * 16
sectors_few uber right =
    let widths = right_widths uber right in
    let narrow : uber.reflow.from ≤ 16 = omega (arith, widths.1, right.widths.1) in
    let rows : uber.reflow.rows * uber.reflow.from ≤ uber.reflow.rows * 16 =
    mul-le-mul_left uber.reflow.rows narrow in
    omega (arith, rows, right.rows.1)

-- A layout of these numbers in a pool.
pub layout_in_pool : (uber : Uber) (start len birth : ℕ) → IsRightUber uber → 1 ≤ len → len ≤ 65536
    → (let layout : Layout = record { start = start; sectors = sectors_for len; parity = uber.parity; width = width_of_birth uber.births birth } in
    start + allocated_of layout ≤ sectors_of uber.reflow → IsInPool layout uber.reflow)
layout_in_pool uber start len birth right some few end =
    let layout : Layout = record { start = start; sectors = sectors_for len; parity = uber.parity; width = width_of_birth uber.births birth } in
    let between = births_between uber.births uber.parity uber.reflow.from uber.group birth right.births in
    let widths = right_widths uber right in
    let size = sectors_few uber right in
    let total = total_few layout in
    record {
      within = record {
        is = record {
          content = omega (arith, some);
          parity = right.parity.0;
          width = omega (arith, between.0);
        };
        start = omega (arith, end, size);
        sectors = omega (arith, few);
        parity = right.parity.1;
        width = omega (arith, between.1, widths.1, right.widths.1);
      };
      right = right.reflow;
      width = between.1;
      few = right.widths.1;
      rows = right.rows.1;
      end = omega (arith, end, total);
    }

-- A block that ends in the pool lies in it.
pub entry_in_pool : (uber : Uber) (entry : IndexEntry) → IsRightUber uber → IsRightEntry entry
    → block_end uber.parity uber.births entry ≤ sectors_of uber.reflow
    → IsInPool (layout_of uber.parity uber.births entry) uber.reflow
entry_in_pool uber entry right is end =
    layout_in_pool uber entry.start entry.len entry.birth right is.len.0 is.len.1 end

front_in : (state : State) (from to rows mark : ℕ)
    → (let reflow : Reflow = record { from = from; to = to; rows = rows; mark = mark; state = state } in
    IsRightReflow reflow → IsFrontOf reflow (front_after_stop reflow))
front_in None from to rows mark right = record { front = inl refl; limit = λ same. absurd (cc) }
front_in Valid from to rows mark right = record { front = inl refl; limit = λ same. absurd (cc) }
front_in Moved from to rows mark right = record {
  front = (omega arith, ⊎_elim (λ rests. absurd (moved_rests rests.2)) (λ expands. omega (arith, expands.1.1)) right);
  limit = λ same. omega arith;
}
  where
    moved_rests : Moved ≡ None → ⊥
    moved_rests same = cc

-- After a stop the front stands where it may.
pub front_is_right : (reflow : Reflow) → IsRightReflow reflow
    → IsFrontOf reflow (front_after_stop reflow)
front_is_right reflow right =
    front_in reflow.state reflow.from reflow.to reflow.rows reflow.mark right

-- A column's sector is one of those that its block takes.
pub sector_inside : (layout : Layout) (reflow : Reflow) (row column : ℕ) → IsInPool layout reflow
    → IsColumn layout row column
    → (layout.start ≤ sector_of layout row column)
    × (sector_of layout row column < layout.start + allocated_of layout)
sector_inside layout reflow row column pool there =
    let below = inside layout row column pool.within.is there in
    let total = total_few layout in
    (omega arith, omega (arith, below, total))

-- Blocks of which none has a sector of the other's require no place in common, at whatever fronts.
pub blocks_apart : (reflow : Reflow) (done front : ℕ) (one other : Layout) (row column other_row other_column device device_sector : ℕ)
    → IsInPool one reflow → IsInPool other reflow → IsFrontOf reflow done → IsFrontOf reflow front
    → AreClear (layout_run one) (layout_run other) → IsColumn one row column → IsColumn other other_row other_column
    → IsRequiredPlace reflow done (end_of one row) (sector_of one row column) device device_sector
    → IsRequiredPlace reflow front (end_of other other_row) (sector_of other other_row other_column) device device_sector
    → ⊥
blocks_apart reflow done front one other row column other_row other_column device device_sector pool other_pool its_front other_front clear there other_there place other_place =
    let widths = widths_of one reflow pool in
    let same : sector_of one row column ≡ sector_of other other_row other_column =
    one_sector reflow done front (sector_of one row column) (sector_of other other_row other_column)
    (end_of one row) (end_of other other_row) device device_sector widths.from_some widths.to_some widths.from_few
    pool.right its_front other_front (close_to_end one reflow row column pool there)
    (close_to_end other reflow other_row other_column other_pool other_there) place other_place in
    clear (sector_of one row column) (sector_inside one reflow row column pool there)
    (subst (λ (s : ℕ). (other.start ≤ s) × (s < other.start + allocated_of other)) (sym same)
    (sector_inside other reflow other_row other_column other_pool other_there))
