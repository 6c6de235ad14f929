-- Where a column is read.
use Rattle.std.specs.Prelude.{ℕ}
use Rattle.width_map.specs.Place.{first_data_sector}
use Rattle.reflow_mark.specs.declared.reflow.Reflow.{Reflow}
use Rattle.reflow_mark.specs.declared.stand.Stand.{Stand}
use Rattle.reflow_mark.specs.declared.stand.Stand.TheVariants.{Old, Scratch, New}
use Rattle.reflow_mark.specs.Standing.{standing}
use Rattle.scratch_area.specs.Scratch.{old_place, new_place, scratch_place, first_scratch_sector}
use Rattle.row_layout.specs.Layout.{Layout, columns_in, sector_of}
use Rattle.core_state.specs.declared.spot.Spot.{Spot}
use Rattle.core_state.specs.SpotReads.{spot_at}

-- where a sector is read that stands so
abbrev pub spot_in : Stand → Reflow → ℕ → Spot
spot_in Old reflow sector = spot_at first_data_sector (old_place reflow sector)
spot_in Scratch reflow sector = spot_at first_scratch_sector (scratch_place reflow.to sector)
spot_in New reflow sector = spot_at first_data_sector (new_place reflow sector)

-- where a column of a block is read
abbrev pub spot_of : Layout → Reflow → ℕ → ℕ → Spot
spot_of layout reflow row column =
    spot_in (standing reflow (sector_of layout row 0) (columns_in layout row)) reflow
    (sector_of layout row column)
