-- Writes of jobs and of puts are to sectors that no group asks for.
use Rattle.std.proofs.Common.{◌≡◌, ◌≢◌, inl, inr, ⊎_elim, ℕ, ◌+◌, ◌<◌, ◌≤◌, List, ◌∷◌, Result, refl, sym, subst, arith}
use Rattle.std.specs.Prelude.{Contains}
use Rattle.bank_trait.specs.declared.Failed.{Failed}
use Rattle.bank_trait.specs.Disk.{Disk, Wrote, Lawful}
use Rattle.width_map.specs.Place.{first_data_sector}
use Rattle.reflow_mark.specs.declared.reflow.State.{State}
use Rattle.reflow_mark.specs.declared.reflow.State.TheVariants.{None, Valid, Moved}
use Rattle.reflow_mark.specs.declared.reflow.Reflow.{Reflow}
use Rattle.reflow_mark.specs.Reflow.{scratch_end, sectors_of}
use Rattle.scratch_area.specs.Scratch.{new_place, scratch_place, first_scratch_sector}
use Rattle.shadow_write.specs.Required.{IsAt, IsRequiredPlace, front_after_stop}
use Rattle.core_state.specs.Whole.{Excepted, Cell, RightAt}
use Rattle.core_state.specs.Keeps.{Kept, Setting}
use Rattle.core_state.specs.Certain.{Asks, Knows}
use Rattle.core_state.specs.Free.{IsSpare}
use Rattle.core_state.proofs.Places.{IsDataSector, data_is_no_page, page_place}
use Rattle.core_state.proofs.Laying.{IsPaged}
use Rattle.core_state.proofs.Frames.{IsPlace, none_lost, wrote_frames}
use Rattle.core_state.proofs.Knowing.{knows_frame}
use Rattle.shadow_write.specs.Band.{reach_of, copied_of, IsInBand, IsWidening, IsFrontOf}
use Rattle.core_copy.specs.Around.{IsClose, IsCellIn, StandAround}
use Rattle.shadow_write.proofs.Apart.{scratch_low, in_band_once, copy_misses}
use Rattle.shadow_write.proofs.Within.{near_within, now_near, copied_within}

-- What a group asks for is in the band.
pub asked_in_band : (reflow : Reflow) (copied : ℕ) (groups : List Kept) (kept : Kept) (device device_sector : ℕ) (bytes : List ℕ)
    → StandAround reflow copied groups → Contains groups kept → (asks : Asks kept device device_sector bytes)
    → IsInBand reflow copied asks.cell.sector device device_sector
asked_in_band reflow copied groups kept device device_sector bytes around listed asks =
    let close = around.close kept asks.cell listed asks.cell_is in
    around.stays kept listed asks.cell.row_end asks.cell.sector device device_sector close.near close.inside asks.place

-- Places of the band are data sectors.
band_sector : (reflow : Reflow) (copied sector device device_sector : ℕ) → IsWidening reflow
    → IsInBand reflow copied sector device device_sector → IsDataSector device_sector
band_sector reflow copied sector device device_sector widening band = ⊎_elim
    (λ old. let is = old.1.sector_is in inr (omega (arith, is)))
    (λ rest. ⊎_elim
    (λ scratch. let is = scratch.1.sector_is in
    let row = scratch_low reflow.to sector (let more = widening.expands in omega (arith, more)) scratch.0 in
    inl (omega (arith, is), omega (arith, is, row)))
    (λ new. let is = new.1.sector_is in inr (omega (arith, is))) rest)
    band

-- A data sector that no group asks for is spare.
unasked_is_spare : (setting : Setting) (first : Kept) (later : List Kept) (device device_sector : ℕ) → IsPaged first
    → IsDataSector device_sector
    → ((kept : Kept) (bytes : List ℕ) → Contains (first ∷ later) kept → Asks kept device device_sector bytes → ⊥)
    → IsSpare setting first later device device_sector
unasked_is_spare setting first later device device_sector paged here unasked = record {
  ring = ⊎_elim (λ scratch. scratch.0) (λ rows. omega (arith, rows)) here;
  page = λ below works part low same.
      let there = page_place first.uber part paged.area paged.count low in
      data_is_no_page device_sector here (omega (arith, there.0, same)) (omega (arith, there.2, same));
  cells = λ kept bytes listed asks. absurd (unasked kept bytes listed asks);
}

-- Law: The new place of a sector at or behind the front, but within reach, is spare for each group around the mark.
pub copy_is_spare : (setting : Setting) (first : Kept) (later : List Kept) (reflow : Reflow) (copied sector device device_sector : ℕ)
    → IsPaged first → IsWidening reflow → StandAround reflow copied (first ∷ later)
    → copied ≤ sector → sector < reach_of reflow
    → IsAt (new_place reflow sector) first_data_sector device device_sector
    → IsSpare setting first later device device_sector
copy_is_spare setting first later reflow copied sector device device_sector paged widening around low high at =
    unasked_is_spare setting first later device device_sector paged
    (let is = at.sector_is in inr (omega (arith, is)))
    (λ kept bytes listed asks. copy_misses reflow copied sector widening low high asks.cell.sector device device_sector at
    (asked_in_band reflow copied (first ∷ later) kept device device_sector bytes around listed asks))

-- Law: Each place that a put writes, of a sector in no block of these groups, is spare.
pub put_is_spare : (setting : Setting) (first : Kept) (later : List Kept) (reflow : Reflow) (done row_end sector device device_sector : ℕ)
    → IsPaged first → IsWidening reflow → IsFrontOf reflow done
    → StandAround reflow (copied_of reflow done) (first ∷ later)
    → row_end ≤ sector + reflow.from → sector < sectors_of reflow
    → ((kept : Kept) (cell : Cell) → Contains (first ∷ later) kept → IsCellIn kept cell → cell.sector ≢ sector)
    → IsRequiredPlace reflow done row_end sector device device_sector
    → IsSpare setting first later device device_sector
put_is_spare setting first later reflow done row_end sector device device_sector paged widening front around close inside free required =
    let here : IsInBand reflow (copied_of reflow done) sector device device_sector =
    near_within reflow (copied_of reflow done) reflow done widening (now_near reflow done widening front) row_end sector device device_sector
    close inside required in
    unasked_is_spare setting first later device device_sector paged
    (band_sector reflow (copied_of reflow done) sector device device_sector widening here)
    (λ kept bytes listed asks. free kept asks.cell listed asks.cell_is
    (in_band_once reflow (copied_of reflow done) widening (copied_within reflow done front)
    asks.cell.sector sector device device_sector
    (asked_in_band reflow (copied_of reflow done) (first ∷ later) kept device device_sector bytes around listed asks) here))

-- Law: While no group has come further than None, a scratch place is spare.
pub fill_is_spare : (setting : Setting) (first : Kept) (later : List Kept) (reflow : Reflow) (sector device device_sector : ℕ)
    → IsPaged first → IsWidening reflow
    → ((kept : Kept) → Contains (first ∷ later) kept → kept.uber.reflow.state ≡ None)
    → sector < scratch_end reflow
    → IsAt (scratch_place reflow.to sector) first_scratch_sector device device_sector
    → IsSpare setting first later device device_sector
fill_is_spare setting first later reflow sector device device_sector paged widening none below at =
    let is = at.sector_is in
    let row = scratch_low reflow.to sector (let more = widening.expands in omega (arith, more)) below in
    let low : device_sector < 64 = omega (arith, is, row) in
    unasked_is_spare setting first later device device_sector paged (inl (omega (arith, is), low))
    (λ kept bytes listed asks. by kept.uber.reflow.from kept.uber.reflow.to kept.uber.reflow.rows kept.uber.reflow.mark kept.uber.reflow.state
    asks.cell.row_end asks.cell.sector (none kept listed) asks.place low)
  where
    by : (from to rows mark : ℕ) (state : State) (row_end other : ℕ) → state ≡ None
        → (let r : Reflow = record { from = from; to = to; rows = rows; mark = mark; state = state } in
        IsRequiredPlace r (front_after_stop r) row_end other device device_sector)
        → device_sector < 64 → ⊥
    by from to rows mark None row_end other is (inl old) low = let at = old.1.sector_is in omega (arith, at, low)
    by from to rows mark None row_end other is (inr (inl scratch)) low = let none = scratch.0.1 in omega (arith, none)
    by from to rows mark None row_end other is (inr (inr new)) low = new.0
    by from to rows mark Valid row_end other is required low = absurd (cc)
    by from to rows mark Moved row_end other is required low = absurd (cc)

-- Law: All that is certain of a row of groups stays over a write to a spare sector, whether it comes off or not.
pub spare_knows : (setting : Setting) (first : Kept) (later : List Kept) (device device_sector : ℕ) (bytes : List ℕ)
    (result : Result (Unit {0}) Failed) (old new : Disk) → IsSpare setting first later device device_sector
    → Lawful old → Wrote old new device device_sector bytes result
    → Knows setting first later old → Knows setting first later new
spare_knows setting first later device device_sector bytes result old new spare lawful wrote knows =
    knows_frame (IsPlace device device_sector) none_lost setting first later old new lawful (wrote_frames wrote)
    (λ d x h. subst (λ a. IsSpare setting first later a x) (sym h.0)
    (subst (λ b. IsSpare setting first later device b) (sym h.1) spare))
    knows

-- Law: Each cell that was right at the front, of a block of any map, is right where a sector is copied.
pub copy_right : (reflow : Reflow) (done sector device device_sector : ℕ) (bytes : List ℕ) (result : Result (Unit {0}) Failed)
    (old new : Disk) (out : ℕ) (excepted : Excepted) (cell : Cell)
    → IsWidening reflow → IsFrontOf reflow done → IsClose reflow cell
    → copied_of reflow done ≤ sector → sector < reach_of reflow
    → IsAt (new_place reflow sector) first_data_sector device device_sector
    → Wrote old new device device_sector bytes result
    → RightAt old.reads reflow done out excepted cell
    → RightAt new.reads reflow done out excepted cell
copy_right reflow done sector device device_sector bytes result old new out excepted cell widening front close low high at wrote right = record {
  at = λ d x required in_use not_excepted. (wrote_frames wrote).reads d x cell.bytes
      (λ h. copy_misses reflow (copied_of reflow done) sector widening low high cell.sector device device_sector at
      (near_within reflow (copied_of reflow done) reflow done widening (now_near reflow done widening front)
      cell.row_end cell.sector device device_sector close.near close.inside
      (subst (λ a. IsRequiredPlace reflow done cell.row_end cell.sector a device_sector) h.0
      (subst (λ b. IsRequiredPlace reflow done cell.row_end cell.sector d b) h.1 required))))
      refl (right.at d x required in_use not_excepted);
}
