-- The writes of a block in its pool are to sectors that the bank has.
use Rattle.std.proofs.Common.{◌≡◌, ⊎_elim, ℕ, List, arith}
use Rattle.std.specs.Prelude.{◌<◌, All, Contains, slice_index_or}
use Rattle.std.proofs.lemmas.List.{get_or_default}
use Rattle.bank_trait.specs.Disk.{Disk}
use Rattle.width_map.specs.Place.{first_data_sector}
use Rattle.reflow_mark.specs.declared.reflow.Reflow.{Reflow}
use Rattle.reflow_mark.specs.declared.stand.Stand.{Stand}
use Rattle.reflow_mark.specs.declared.stand.Stand.TheVariants.{Old, Scratch, New}
use Rattle.reflow_mark.specs.Standing.{NeedsOld}
use Rattle.scratch_area.specs.Scratch.{old_place, new_place, scratch_place, first_scratch_sector}
use Rattle.row_layout.specs.Layout.{Layout, sector_of, end_of}
use Rattle.row_layout.proofs.Parts.{row_few}
use Rattle.shadow_write.specs.declared.write.Write.{Write}
use Rattle.shadow_write.specs.Required.{IsAt, NeedsScratch, NeedsNew, IsRequiredPlace}
use Rattle.shadow_write.specs.Writes.{AreRequired}
use Rattle.reconstruct.specs.Rows.{Rows, IsShaped}
use Rattle.core_state.specs.PoolBank.{HasPool}
use Rattle.core_client.specs.Pool.{IsInPool}
use Rattle.core_client.specs.Reading.{spot_in}
use Rattle.core_client.specs.Writing.{IsOnBank}
use Rattle.core_client.proofs.Places.{widths_of, in_pool}
use Rattle.core_client.proofs.Spots.{IsOnPool, on_pool}

-- A required place is one of the three spots of its sector.
pub place_on_pool : (reflow : Reflow) (done row_end sector device device_sector : ℕ)
    → ((stand : Stand) → IsOnPool reflow (spot_in stand reflow sector))
    → IsRequiredPlace reflow done row_end sector device device_sector
    → IsOnPool reflow (record { device = device; device_sector = device_sector })
place_on_pool reflow done row_end sector device device_sector on required = ⊎_elim
    (λ (old : NeedsOld reflow.state reflow.mark row_end × IsAt (old_place reflow sector) first_data_sector device device_sector).
    at Old old.1.device_is old.1.sector_is)
    (λ others. ⊎_elim
    (λ (scratch : NeedsScratch reflow.state reflow done sector × IsAt (scratch_place reflow.to sector) first_scratch_sector device device_sector).
    at Scratch scratch.1.device_is scratch.1.sector_is)
    (λ (new : NeedsNew reflow.state done sector × IsAt (new_place reflow sector) first_data_sector device device_sector).
    at New new.1.device_is new.1.sector_is)
    others) required
  where
    at : (stand : Stand) → device ≡ (spot_in stand reflow sector).device → device_sector ≡ (spot_in stand reflow sector).device_sector
        → IsOnPool reflow (record { device = device; device_sector = device_sector })
    at stand device_is sector_is = record {
      device = omega (arith, (on stand).device, device_is);
      inside = omega (arith, (on stand).inside, sector_is);
    }

-- the place of a write of a block
write_on_pool : (layout : Layout) (reflow : Reflow) (done : ℕ) (writes : List Write) (write : Write) → IsInPool layout reflow
    → AreRequired layout reflow done writes → Contains writes write
    → IsOnPool reflow (record { device = write.device; device_sector = write.device_sector })
write_on_pool layout reflow done writes write pool plan listed =
    let is = plan.only write listed in
    let widths = widths_of layout reflow pool in
    place_on_pool reflow done (end_of layout write.row) (sector_of layout write.row write.column) write.device write.device_sector
    (λ stand. on_pool stand reflow (sector_of layout write.row write.column) widths.from_some widths.grows
    (in_pool layout reflow write.row write.column pool is.0)) is.1

-- So it goes to a device of the pool,
pub plan_below : (layout : Layout) (reflow : Reflow) (done : ℕ) (writes : List Write) → IsInPool layout reflow
    → AreRequired layout reflow done writes → All (λ write. write.device < reflow.to) writes
plan_below layout reflow done writes pool plan number past low =
    let write : Write = slice_index_or writes number past in
    (write_on_pool layout reflow done writes write pool plan (number, low, get_or_default writes number write past low)).device

-- and can be made.
pub plan_inside : (layout : Layout) (reflow : Reflow) (done : ℕ) (rows : Rows) (writes : List Write) (out : ℕ) (disk : Disk)
    → IsInPool layout reflow → HasPool reflow out disk → IsShaped layout rows → AreRequired layout reflow done writes
    → All (IsOnBank rows out disk) writes
plan_inside layout reflow done rows writes out disk pool bank shape plan number past low =
    let write : Write = slice_index_or writes number past in
    let listed : Contains writes write = (number, low, get_or_default writes number write past low) in
    let is = plan.only write listed in
    let on = write_on_pool layout reflow done writes write pool plan listed in
    record {
      row = omega (arith, is.0.row_in, shape.rows_are);
      column = omega (arith, is.0.column_in, shape.cols_are, row_few layout write.row pool.within.is);
      device = bank.devices write.device on.device;
      few = omega (arith, on.device, pool.few);
      device_sector = omega (arith, on.inside, bank.sectors);
    }
