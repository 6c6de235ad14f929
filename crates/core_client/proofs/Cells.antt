-- The cells of a block and their required places, for those who place many blocks side by side.
use Rattle.std.proofs.Common.{◌⊎◌, inl, inr, ⊎_elim, ℕ, ◌+◌, ◌/◌, ◌<◌, ◌≤◌, List, refl, subst, arith}
use Rattle.std.specs.Prelude.{Contains}
use Rattle.std.proofs.Math.Nat.{div-lt_iff_lt-mul}
use Rattle.width_map.specs.Place.{first_data_sector}
use Rattle.reflow_mark.specs.declared.reflow.Reflow.{Reflow}
use Rattle.reflow_mark.specs.Standing.{NeedsOld}
use Rattle.scratch_area.specs.Scratch.{old_place, new_place, scratch_place, first_scratch_sector}
use Rattle.row_layout.specs.Layout.{Layout, sector_of, end_of}
use Rattle.shadow_write.specs.declared.write.Write.{Write}
use Rattle.shadow_write.specs.Required.{IsAt, NeedsScratch, NeedsNew, IsRequiredPlace, IsFrontIn}
use Rattle.shadow_write.specs.Writes.{writes_of}
use Rattle.shadow_write.proofs.Whole.{are_required}
use Rattle.reconstruct.specs.Columns.{column_bytes}
use Rattle.core_state.specs.Whole.{Cell, IsCell}
use Rattle.core_client.specs.Pool.{IsInPool}
use Rattle.shadow_write.proofs.Within.{scratch_within}
use Rattle.core_client.proofs.Places.{widths_of, in_pool}
use Rattle.core_client.proofs.Stored.{place_on_pool}
use Rattle.core_client.proofs.Spots.{IsOnPool, on_pool}

-- The place of a cell, by the row and the column that the cell is of.
pub by_column : (layout : Layout) (reflow : Reflow) (done : ℕ) (bytes : List ℕ) (cell : Cell) (device device_sector : ℕ)
    → (is : IsCell layout bytes cell) → IsRequiredPlace reflow done cell.row_end cell.sector device device_sector
    → IsRequiredPlace reflow done (end_of layout is.row) (sector_of layout is.row is.column) device device_sector
by_column layout reflow done bytes cell device device_sector is required =
    subst (λ (s : ℕ). IsRequiredPlace reflow done (end_of layout is.row) s device device_sector) is.sector
    (subst (λ (e : ℕ). IsRequiredPlace reflow done e cell.sector device device_sector) is.row_end required)

-- ---- where the places are

-- A place is on one of the pool's devices, in the scratch rows or in the data rows.
pub record IsPlaceInside (reflow : Reflow) (device device_sector : ℕ) : Type 0 where
  pub device_in : device < reflow.to
  pub sector_in : ((32 ≤ device_sector) × (device_sector < 64))
      ⊎ ((192 ≤ device_sector) × (device_sector < 192 + reflow.rows))

pub places_inside : (layout : Layout) (reflow : Reflow) (done : ℕ) (bytes : List ℕ) (cell : Cell) (device device_sector : ℕ)
    → IsInPool layout reflow → IsFrontIn reflow.state reflow done → IsCell layout bytes cell
    → IsRequiredPlace reflow done cell.row_end cell.sector device device_sector → IsPlaceInside reflow device device_sector
places_inside layout reflow done bytes cell device device_sector pool front is required = record {
  device_in = on.device;
  sector_in = ⊎_elim
      (λ (old : NeedsOld reflow.state reflow.mark (end_of layout is.row) × IsAt (old_place reflow sector) first_data_sector device device_sector).
      inr (omega (arith, old.1.sector_is), on.inside))
      (λ others. ⊎_elim
      (λ (scratch : NeedsScratch reflow.state reflow done sector × IsAt (scratch_place reflow.to sector) first_scratch_sector device device_sector).
      inl (in_scratch scratch.0 scratch.1))
      (λ (new : NeedsNew reflow.state done sector × IsAt (new_place reflow sector) first_data_sector device device_sector).
      inr (omega (arith, new.1.sector_is), on.inside))
      others) needed;
}
  where
    sector : ℕ
    sector = sector_of layout is.row is.column

    needed : IsRequiredPlace reflow done (end_of layout is.row) sector device device_sector
    needed = by_column layout reflow done bytes cell device device_sector is required

    on : IsOnPool reflow (record { device = device; device_sector = device_sector })
    on = place_on_pool reflow done (end_of layout is.row) sector device device_sector
        (λ stand. on_pool stand reflow sector (widths_of layout reflow pool).from_some (widths_of layout reflow pool).grows
        (in_pool layout reflow is.row is.column pool is.there)) needed

    in_scratch : NeedsScratch reflow.state reflow done sector
        → IsAt (scratch_place reflow.to sector) first_scratch_sector device device_sector
        → (32 ≤ device_sector) × (device_sector < 64)
    in_scratch needs there =
        let low : sector / reflow.to < 32 =
        (div-lt_iff_lt-mul {k = reflow.to} {x = sector} {y = 32} (widths_of layout reflow pool).to_some).1
        (scratch_within reflow.state reflow done sector front needs) in
        (omega (arith, there.sector_is), omega (arith, there.sector_is, low))

-- ---- what the writes of a block go to

-- The place is required of a cell of a block of these bytes.
pub record IsRequiredOf (layout : Layout) (reflow : Reflow) (done : ℕ) (bytes : List ℕ) (device device_sector : ℕ) : Type 0 where
  pub cell : Cell
  pub is : IsCell layout bytes cell
  pub required : IsRequiredPlace reflow done cell.row_end cell.sector device device_sector

-- Each write goes to such a place, whatever the bytes are.
pub writes_required : (layout : Layout) (reflow : Reflow) (done : ℕ) (bytes : List ℕ) (write : Write)
    → Contains (writes_of layout reflow done) write → IsRequiredOf layout reflow done bytes write.device write.device_sector
writes_required layout reflow done bytes write listed =
    let at = (are_required layout reflow done).only write listed in
    record {
      cell = record {
        sector = sector_of layout write.row write.column;
        row_end = end_of layout write.row;
        bytes = column_bytes layout bytes write.row write.column;
      };
      is = record { row = write.row; column = write.column; there = at.0; sector = refl; row_end = refl; bytes = refl };
      required = at.1;
    }
