-- The places in which sectors may stand around one mark, whatever group or front asks for them.
use Rattle.std.specs.Prelude.{◌≡◌, ◌↔◌, ◌⊎◌, ℕ, ◌+◌, ◌<◌, ◌≤◌, max}
use Rattle.width_map.specs.Place.{first_data_sector, limit_of}
use Rattle.reflow_mark.specs.declared.reflow.State.{State}
use Rattle.reflow_mark.specs.declared.reflow.State.TheVariants.{None, Valid, Moved}
use Rattle.reflow_mark.specs.declared.reflow.Reflow.{Reflow}
use Rattle.reflow_mark.specs.Reflow.{Expands, IsMark, sectors_of, scratch_end}
use Rattle.scratch_area.specs.Scratch.{old_place, new_place, scratch_place, first_scratch_sector}
use Rattle.shadow_write.specs.Required.{IsAt, IsRequiredPlace, IsFrontIn, NeedsNew}

-- A widening by one device, of a pool of at most 15.
pub record IsWidening (reflow : Reflow) : Type 0 where
  pub expands : Expands reflow
  pub some : 0 < reflow.from
  pub narrow : reflow.from ≤ 15
  pub mark : IsMark reflow.state reflow

-- New places of sectors below this may be in use while a stop may reopen the pool at this mark.
abbrev pub reach_in : State → Reflow → ℕ
reach_in None reflow = 0
reach_in Valid reflow = scratch_end reflow
reach_in Moved reflow = max reflow.mark (limit_of reflow.from reflow.mark)

abbrev pub reach_of : Reflow → ℕ
reach_of reflow = reach_in reflow.state reflow

-- New places of sectors below this are in use at a front.
abbrev pub copied_in : State → ℕ → ℕ
copied_in None done = 0
copied_in Valid done = done
copied_in Moved done = done

abbrev pub copied_of : Reflow → ℕ → ℕ
copied_of reflow done = copied_in reflow.state done

-- A sector may stand at this sector of this device: at its old place where a row with it may end above the mark, in
-- the scratch area, or at its new place where that is of a sector below `copied`.
abbrev pub IsInBand : Reflow → ℕ → ℕ → ℕ → ℕ → Type 0
IsInBand reflow copied sector device device_sector =
    ((reflow.mark < sector + reflow.from)
    × IsAt (old_place reflow sector) first_data_sector device device_sector)
    ⊎ (((sector < scratch_end reflow)
    × IsAt (scratch_place reflow.to sector) first_scratch_sector device device_sector)
    ⊎ ((sector < copied)
    × IsAt (new_place reflow sector) first_data_sector device device_sector))

-- The front is where it may be: no job has copied over what may still be read.
pub record IsFrontOf (reflow : Reflow) (done : ℕ) : Type 0 where
  pub front : IsFrontIn reflow.state reflow done
  pub limit : reflow.state ≡ Moved → done ≤ max reflow.mark (limit_of reflow.from reflow.mark)

-- Another reflow of the same expansion, no further back, whose front is within reach.
pub record IsNear (reflow : Reflow) (copied : ℕ) (other : Reflow) (done : ℕ) : Type 0 where
  pub from_is : other.from ≡ reflow.from
  pub to_is : other.to ≡ reflow.to
  pub mark : reflow.mark ≤ other.mark
  pub still : other.state ≡ None → reflow.mark ≡ 0
  pub front : IsFrontIn other.state other done
  pub reach : (sector : ℕ) → NeedsNew other.state done sector → sector < copied

-- A reflow at a front asks for no place outside the band of another, for sectors of the pool in rows that end at most a
-- width behind them.
abbrev pub StaysIn : Reflow → ℕ → Reflow → ℕ → Type 0
StaysIn reflow copied other done = (row_end sector device device_sector : ℕ) → row_end ≤ sector + reflow.from
    → sector < sectors_of reflow → IsRequiredPlace other done row_end sector device device_sector
    → IsInBand reflow copied sector device device_sector

-- A place is in the way of one sector at most.
abbrev pub ServesOne : Reflow → ℕ → Type 0
ServesOne reflow copied = (one other device device_sector : ℕ)
    → IsInBand reflow copied one device device_sector → IsInBand reflow copied other device device_sector
    → one ≡ other

-- A sector's new place is none that the band has.
abbrev pub MissesBand : Reflow → ℕ → ℕ → Type 0
MissesBand reflow copied sector = (other device device_sector : ℕ)
    → IsAt (new_place reflow sector) first_data_sector device device_sector
    → IsInBand reflow copied other device device_sector → ⊥

-- The pool at rest with the widths that an expansion begins with, or ends with.
pub record HasWidthAtRest (other : Reflow) (width : ℕ) : Type 0 where
  pub from_is : other.from ≡ width
  pub to_is : other.to ≡ other.from
  pub state_is : other.state ≡ None

-- Two states of a widening ask for a sector of a row that ends here at the same places.
abbrev pub AsksSame : Reflow → ℕ → Reflow → ℕ → ℕ → ℕ → Type 0
AsksSame one front other front_then row_end sector = (device device_sector : ℕ)
    → IsRequiredPlace one front row_end sector device device_sector
    ↔ IsRequiredPlace other front_then row_end sector device device_sector
