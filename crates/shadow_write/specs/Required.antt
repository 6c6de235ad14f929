-- The places at which a sector has to be right while the pool is being widened.
use Rattle.std.specs.Prelude.{◌≡◌, ◌⊎◌, ℕ, ◌+◌, ◌*◌, ◌<◌, ◌≤◌}
use Rattle.width_map.specs.declared.position.Place.{Place}
use Rattle.width_map.specs.Place.{first_data_sector}
use Rattle.reflow_mark.specs.declared.reflow.State.{State}
use Rattle.reflow_mark.specs.declared.reflow.State.TheVariants.{None, Valid, Moved}
use Rattle.reflow_mark.specs.declared.reflow.Reflow.{Reflow}
use Rattle.reflow_mark.specs.Reflow.{Expands, scratch_end}
use Rattle.reflow_mark.specs.Standing.{NeedsOld}
use Rattle.scratch_area.specs.Scratch.{old_place, new_place, scratch_place, first_scratch_sector}

-- The place is this sector of this device, where rows begin at `first`.
pub record IsAt (place : Place) (first device device_sector : ℕ) : Type 0 where
  pub device_is : device ≡ place.device
  pub sector_is : device_sector ≡ first + place.row

-- the scratch place: what was filled, and in Valid all that goes through the scratch area
abbrev pub NeedsScratch : State → Reflow → ℕ → ℕ → Type 0
NeedsScratch None reflow done sector = Expands reflow × (sector < done)
NeedsScratch Valid reflow done sector = sector < scratch_end reflow
NeedsScratch Moved reflow done sector = ⊥

-- the new place: what was drained or copied
abbrev pub NeedsNew : State → ℕ → ℕ → Type 0
NeedsNew None done sector = ⊥
NeedsNew Valid done sector = sector < done
NeedsNew Moved done sector = sector < done

-- A sector of a row that ends at `row_end` has to be right at this sector of this device.
abbrev pub IsRequiredPlace : Reflow → ℕ → ℕ → ℕ → ℕ → ℕ → Type 0
IsRequiredPlace reflow done row_end sector device device_sector =
    (NeedsOld reflow.state reflow.mark row_end
    × IsAt (old_place reflow sector) first_data_sector device device_sector)
    ⊎ ((NeedsScratch reflow.state reflow done sector
    × IsAt (scratch_place reflow.to sector) first_scratch_sector device device_sector)
    ⊎ (NeedsNew reflow.state done sector
    × IsAt (new_place reflow sector) first_data_sector device device_sector))

-- how far a job may have copied in each state
abbrev pub IsFrontIn : State → Reflow → ℕ → Type 0
IsFrontIn None reflow done = (done ≡ 0) ⊎ (Expands reflow × (done ≡ scratch_end reflow))
IsFrontIn Valid reflow done = (done ≡ 0) ⊎ (done ≡ scratch_end reflow)
IsFrontIn Moved reflow done = (reflow.mark ≤ done) × (done ≤ reflow.rows * reflow.from)

-- where the front stands after a stop: all below the mark has been copied
abbrev pub front_after_stop : Reflow → ℕ
front_after_stop reflow = front_in reflow.state reflow.mark
  where
    front_in : State → ℕ → ℕ
    front_in None mark = 0
    front_in Valid mark = 0
    front_in Moved mark = mark
