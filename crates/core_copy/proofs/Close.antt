-- Blocks of a right group stand in rows that are no wider than the pool.
use Rattle.std.proofs.Common.{⊎_elim, ℕ, ◌+◌, ◌<◌, ◌≤◌, List, subst, arith}
use Rattle.width_map.specs.Births.{width_of_birth}
use Rattle.reflow_mark.specs.declared.reflow.Reflow.{Reflow}
use Rattle.reflow_mark.specs.Reflow.{Expands, sectors_of}
use Rattle.row_layout.specs.Layout.{Layout, IsLayout, total_of, allocated_of}
use Rattle.row_layout.proofs.Parts.{columns_few, row_few}
use Rattle.row_layout.proofs.Laws.{inside}
use Rattle.block_record.specs.declared.entry.IndexEntry.{IndexEntry}
use Rattle.block_record.specs.Page.{IsRightEntry}
use Rattle.uberblock_ring.specs.Uberblock.{Uber}
use Rattle.uberblock_ring.specs.Valid.{IsRightUber}
use Rattle.core_state.specs.Index.{layout_of, block_end}
use Rattle.core_state.specs.Whole.{Cell, IsCell}
use Rattle.core_state.specs.Keeps.{Kept, Setting}
use Rattle.core_state.specs.Certain.{IsSound}
use Rattle.core_state.proofs.Births.{births_between}
use Rattle.core_state.proofs.Keeping.{fits_alone, kept_listed}
use Rattle.shadow_write.specs.Band.{IsWidening}
use Rattle.core_copy.specs.Around.{IsClose, IsCellIn}

-- Law: A cell is within its row.
pub cell_below : (layout : Layout) (content : List ℕ) (cell : Cell) → IsCell layout content cell → cell.sector < cell.row_end
cell_below layout content cell it = let there = it.there.column_in in omega (arith, it.sector, it.row_end, there)

-- Law: A cell is close where its block is no wider than the pool and ends in it.
pub cell_close : (layout : Layout) (content : List ℕ) (reflow : Reflow) (cell : Cell) → IsLayout layout → layout.width ≤ reflow.from
    → layout.start + total_of layout ≤ sectors_of reflow → IsCell layout content cell
    → IsClose reflow cell
cell_close layout content reflow cell is narrow ends it =
    let columns = row_few layout it.row is in
    let few = columns_few layout is in
    let there = it.there.column_in in
    let below = inside layout it.row it.column is it.there in
    record {
      near = omega (arith, it.sector, it.row_end, columns, few, narrow, there);
      inside = omega (arith, it.sector, below, ends);
    }

-- Law: Each cell of a sound group is close.
pub sound_close : (setting : Setting) (kept : Kept) (cell : Cell) → IsSound setting kept → IsCellIn kept cell
    → IsClose kept.uber.reflow cell
sound_close setting kept cell sound of =
    let layout : Layout = layout_of kept.uber.parity kept.uber.births of.entry in
    let listed = (kept_listed kept of.entry of.content sound.none_else of.keeps).0 in
    let right : IsRightEntry of.entry = subst IsRightEntry listed.2 (sound.index.each listed.0 of.entry listed.1) in
    let below : block_end kept.uber.parity kept.uber.births of.entry ≤ sectors_of kept.uber.reflow =
    subst (λ (e : IndexEntry). block_end kept.uber.parity kept.uber.births e ≤ sectors_of kept.uber.reflow) listed.2
    ((fits_alone kept sound.none_else sound.fitting).below listed.0 of.entry listed.1) in
    let wide = subst (λ (u : Uber). HasWidthFor u of.entry.birth) sound.alike (right_wide sound.uber of.entry.birth sound.right) in
    let len = right.len in
    let is : IsLayout layout = record { content = omega (arith, len); parity = wide.0; width = omega (arith, wide.1) } in
    let all : total_of layout ≤ allocated_of layout = omega (arith, wide.0) in
    cell_close layout of.content kept.uber.reflow cell is wide.2 (omega (arith, all, below)) of.cell_is
  where
    HasWidthFor : Uber → ℕ → Type 0
    HasWidthFor u birth = (1 ≤ u.parity) × (u.parity + 1 ≤ width_of_birth u.births birth)
        × (width_of_birth u.births birth ≤ u.reflow.from)

    right_wide : (u : Uber) (birth : ℕ) → IsRightUber u → HasWidthFor u birth
    right_wide u birth right = let between = births_between u.births u.parity u.reflow.from u.group birth right.births in
        (right.parity.0, between.0, between.1)

-- Law: Where the reflow of a right uberblock expands, it is a widening by one device.
pub right_widening : (uber : Uber) → IsRightUber uber → Expands uber.reflow → IsWidening uber.reflow
right_widening uber right expands = record {
  expands = expands;
  some = omega (arith, right.widths.0);
  narrow = omega (arith, right.widths.1, expands);
  mark = ⊎_elim (λ rest. absurd (let same = rest.0 in omega (arith, same, expands))) (λ runs. runs.1) right.reflow;
}
