-- Where a put writes: to no place that another block requires, nor one that a commit's groups ask for.
use Rattle.core_turns.proofs.Words.{blocks_of, among_blocks}
use Rattle.core_turns.proofs.Words.{ℕ, ◌*◌, ◌/◌, ◌<◌, List, arith, Contains, mul-le-mul_left, cases_lt, Reflow}
use Rattle.core_turns.proofs.Words.{sectors_of, Layout, sector_of, end_of, IsRequiredPlace, front_after_stop, writes_of}
use Rattle.core_turns.proofs.Words.{Write, are_required, column_bytes, IndexEntry, layout_of, Kept, Setting, Asks, Cell}
use Rattle.core_turns.proofs.Words.{IsCell, IsDataSector, layout_run, SparesAll, AreClear, IsFrontOf, scratch_within}
use Rattle.core_turns.proofs.Words.{IsInPool, IsPlaceOf, IsPlanOf, BlockWrite, IsBeside, in_pool, blocks_apart}

-- the places that the writes of a block go to at a front
abbrev pub IsWrittenTo : Layout → Reflow → ℕ → ℕ → ℕ → ℕ → Type 0
IsWrittenTo layout reflow done out = IsPlaceOf (writes_of layout reflow done) out

-- A sector that goes through the scratch area has its place in one of the scratch rows.
pub row_below : (to sector : ℕ) → sector < 32 * to → sector / to < 32
row_below to sector below = search (mul-le-mul_left, cases_lt, arith)

-- A required place is in the scratch area or in the data rows.
pub required_data : (reflow : Reflow) (done row_end sector device device_sector : ℕ) → IsFrontOf reflow done
    → IsRequiredPlace reflow done row_end sector device device_sector → IsDataSector device_sector
required_data reflow done row_end sector device device_sector front required = search (row_below, scratch_within, arith)

-- No place of a block is required, at whatever front, by one that has no sector in common with it.
pub never_both : (reflow : Reflow) (done front : ℕ) (layout other : Layout) (out device device_sector : ℕ) (cell : Cell)
    (given : List ℕ) → IsFrontOf reflow done → IsFrontOf reflow front → IsInPool layout reflow → IsInPool other reflow
    → AreClear (layout_run layout) (layout_run other) → IsCell other given cell
    → IsRequiredPlace reflow front cell.row_end cell.sector device device_sector
    → IsWrittenTo layout reflow done out device device_sector → ⊥
never_both reflow done front layout other out device device_sector cell given its_front other_front pool other_pool
    clear cell_is place (write, has, used, device_is, sector_is) =
    let required = (are_required layout reflow done).only write has in
    blocks_apart reflow done front layout other write.row write.column cell_is.row cell_is.column device device_sector
    pool other_pool its_front other_front clear required.0 cell_is.there (search arith) (search arith)

-- The blocks of a group lie in the pool, which asks at its front for all that the group asks for after a stop.
pub record AreInPool (kept : Kept) (reflow : Reflow) (done : ℕ) : Type 0 where
  pub asked : (row_end sector device device_sector : ℕ) → sector < sectors_of reflow
      → IsRequiredPlace kept.uber.reflow (front_after_stop kept.uber.reflow) row_end sector device device_sector
      → IsRequiredPlace reflow done row_end sector device device_sector
  pub each : (entry : IndexEntry) → Contains (blocks_of kept) entry
      → IsInPool (layout_of kept.uber.parity kept.uber.births entry) reflow

-- No block of a group asks for a place that the writes of another block go to.
pub never_asked : (kept : Kept) (reflow : Reflow) (done : ℕ) (layout : Layout) (out device device_sector : ℕ)
    (bytes : List ℕ) → IsFrontOf reflow done → AreInPool kept reflow done → IsInPool layout reflow
    → SparesAll kept.uber.parity kept.uber.births (blocks_of kept) (layout_run layout)
    → IsWrittenTo layout reflow done out device device_sector → Asks kept device device_sector bytes → ⊥
never_asked kept reflow done layout out device device_sector bytes front inside pool spares written asks =
    let of = asks.cell_is in
    let listed = among_blocks kept of.entry of.content of.keeps in
    let lies = inside.each of.entry listed in
    let below : asks.cell.sector < sectors_of reflow = rw of.cell_is.sector (search in_pool) in
    let place = inside.asked asks.cell.row_end asks.cell.sector device device_sector below asks.place in
    search (never_both, spares of.entry listed, arith)

-- A put's writes go on beside a commit, of whose group and the one before none has a sector of the put.
pub put_beside_commit : (setting : Setting) (first next : Kept) (reflow : Reflow) (done : ℕ) (layout : Layout) (out : ℕ)
    → IsFrontOf reflow done → AreInPool first reflow done → AreInPool next reflow done → IsInPool layout reflow
    → SparesAll first.uber.parity first.uber.births (blocks_of first) (layout_run layout)
    → SparesAll next.uber.parity next.uber.births (blocks_of next) (layout_run layout)
    → IsBeside setting first next (IsWrittenTo layout reflow done out)
put_beside_commit setting first next reflow done layout out front inside_first inside_next pool spares_first spares_next
    = record {
      region = search data_sector;
      not_first = λ device device_sector bytes written asks. search never_asked;
      not_next = λ device device_sector bytes written asks. search never_asked;
    }
  where
    data_sector : {device : ℕ} (device_sector : ℕ) → IsWrittenTo layout reflow done out device device_sector
        → IsDataSector device_sector
    data_sector device_sector (write, has, used, device_is, sector_is) =
        let required = (are_required layout reflow done).only write has in rw sector_is (search required_data)

-- A place that a write of a plan goes to is required by a cell of its block.
pub written_cell : (layout : Layout) (bytes : List ℕ) (reflow : Reflow) (done : ℕ) (run : BlockWrite) (write : Write)
    → IsPlanOf layout reflow done bytes run.rows run.writes → Contains run.writes write
    → (cell : Cell) × IsCell layout bytes cell
    × IsRequiredPlace reflow done cell.row_end cell.sector write.device write.device_sector
written_cell layout bytes reflow done run write plan has =
    let required = plan.required.only write has in
    let cell : Cell = record {
      sector = sector_of layout write.row write.column;
      row_end = end_of layout write.row;
      bytes = column_bytes layout bytes write.row write.column;
    } in
    (cell, search, required.1)
