-- The writes of a block, in their order.
use Rattle.std.specs.Prelude.{◌≡◌, ℕ, zero, suc, ◌+◌, List, [], ◌∷◌, ◌++◌, Bool, true, false, ◌&&◌, ◌==◌, if◌then◌else◌}
use Rattle.std.specs.Prelude.{nat_lt, Contains}
use Rattle.width_map.specs.declared.position.Place.{Place}
use Rattle.width_map.specs.Place.{first_data_sector}
use Rattle.reflow_mark.specs.declared.reflow.State.{State}
use Rattle.reflow_mark.specs.declared.reflow.State.TheVariants.{None, Valid, Moved}
use Rattle.reflow_mark.specs.declared.reflow.Reflow.{Reflow}
use Rattle.reflow_mark.specs.Reflow.{scratch_end}
use Rattle.scratch_area.specs.Scratch.{old_place, new_place, scratch_place, first_scratch_sector}
use Rattle.row_layout.specs.Layout.{Layout, rows_of, columns_in, sector_of, end_of, IsColumn}
use Rattle.shadow_write.specs.declared.write.Write.{Write}
use Rattle.shadow_write.specs.Required.{IsRequiredPlace}

-- The tests of `NeedsOld`, `NeedsScratch` and `NeedsNew`.
abbrev pub needs_old : State → ℕ → ℕ → Bool
needs_old None mark row_end = true
needs_old Valid mark row_end = nat_lt mark row_end
needs_old Moved mark row_end = nat_lt mark row_end

abbrev pub needs_scratch : State → Reflow → ℕ → ℕ → Bool
needs_scratch None reflow done sector = (reflow.to == reflow.from + 1) && nat_lt sector done
needs_scratch Valid reflow done sector = nat_lt sector (scratch_end reflow)
needs_scratch Moved reflow done sector = false

abbrev pub needs_new : State → ℕ → ℕ → Bool
needs_new None done sector = false
needs_new Valid done sector = nat_lt sector done
needs_new Moved done sector = nat_lt sector done

-- a list of one where the test holds, else of none
abbrev pub only_if : {T : Type 0} → Bool → T → List T
only_if test value = if test then value ∷ [] else []

-- The write of a column to a place.
abbrev pub write_at : ℕ → Place → ℕ → ℕ → Write
write_at first place row column =
    record { device = place.device; device_sector = first + place.row; row = row; column = column }

-- a column's writes: old, scratch and new place, as far as each is required
unfoldable pub column_writes : Layout → Reflow → ℕ → ℕ → ℕ → List Write
column_writes layout reflow done row column =
    let sector : ℕ = sector_of layout row column in
    only_if (needs_old reflow.state reflow.mark (end_of layout row))
    (write_at first_data_sector (old_place reflow sector) row column)
    ++ only_if (needs_scratch reflow.state reflow done sector)
    (write_at first_scratch_sector (scratch_place reflow.to sector) row column)
    ++ only_if (needs_new reflow.state done sector)
    (write_at first_data_sector (new_place reflow sector) row column)

-- a row's writes, its first columns alone
abbrev pub row_writes : Layout → Reflow → ℕ → ℕ → ℕ → List Write
row_writes layout reflow done row zero = []
row_writes layout reflow done row (suc column) =
    row_writes layout reflow done row column ++ column_writes layout reflow done row column

-- the writes of the first rows
abbrev pub writes_of_rows : Layout → Reflow → ℕ → ℕ → List Write
writes_of_rows layout reflow done zero = []
writes_of_rows layout reflow done (suc row) =
    writes_of_rows layout reflow done row
    ++ row_writes layout reflow done row (columns_in layout row)

-- all writes of a block, by row, then column, then place
abbrev pub writes_of : Layout → Reflow → ℕ → List Write
writes_of layout reflow done = writes_of_rows layout reflow done (rows_of layout)

-- The writes are those of this block's columns to the places at which they have to be right: there
-- is no other write, and none is missing.
pub record AreRequired (layout : Layout) (reflow : Reflow) (done : ℕ) (writes : List Write) : Type 0 where
  pub only : (write : Write) → Contains writes write → IsColumn layout write.row write.column
      × IsRequiredPlace reflow done (end_of layout write.row)
      (sector_of layout write.row write.column) write.device write.device_sector
  pub all : (row column device device_sector : ℕ) → IsColumn layout row column
      → IsRequiredPlace reflow done (end_of layout row) (sector_of layout row column) device device_sector
      → Contains writes (record { device = device; device_sector = device_sector; row = row; column = column })

-- Each column that isn't missing is written somewhere.
pub record LeaveNoneOut (layout : Layout) (writes : List Write) : Type 0 where
  pub each : (row column : ℕ) → IsColumn layout row column
      → (write : Write) × Contains writes write × (write.row ≡ row) × (write.column ≡ column)
