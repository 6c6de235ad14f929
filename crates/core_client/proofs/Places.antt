-- No place has to hold two columns of a block.
use Rattle.std.proofs.Common.{◌≡◌, ◌≢◌, ⊎_elim, ℕ, ◌+◌, ◌*◌, ◌/◌, ◌<◌, ◌≤◌, refl, sym, ◌∙◌, subst, arith}
use Rattle.std.specs.Prelude.{max}
use Rattle.std.proofs.Math.Nat.{div-lt_iff_lt-mul}
use Rattle.std.proofs.lemmas.Nat.{same_from_place}
use Rattle.std.proofs.lemmas.Bool.{cases_lt}
use Rattle.width_map.specs.declared.position.Place.{Place}
use Rattle.width_map.specs.Place.{first_data_sector, limit_of, place_of}
use Rattle.width_map.proofs.CopyLimit.{copied_apart}
use Rattle.reflow_mark.specs.declared.reflow.State.{State}
use Rattle.reflow_mark.specs.declared.reflow.State.TheVariants.{None, Valid, Moved}
use Rattle.reflow_mark.specs.declared.reflow.Reflow.{Reflow}
use Rattle.reflow_mark.specs.Reflow.{scratch_end, sectors_of, Expands, IsMark, IsRightReflow}
use Rattle.reflow_mark.specs.Standing.{NeedsOld}
use Rattle.scratch_area.specs.Scratch.{old_place, new_place, scratch_place, first_scratch_sector}
use Rattle.scratch_area.proofs.Apart.{drained_apart}
use Rattle.row_layout.specs.Layout.{Layout, IsColumn, columns_in, columns_of, sector_of, end_of}
use Rattle.row_layout.proofs.Parts.{columns_few, row_few}
use Rattle.row_layout.proofs.Laws.{inside}
use Rattle.shadow_write.specs.Required.{IsAt, NeedsScratch, NeedsNew, IsRequiredPlace, IsFrontIn}
use Rattle.core_client.specs.Pool.{IsInPool}
use Rattle.shadow_write.specs.Band.{IsFrontOf}
use Rattle.shadow_write.proofs.Apart.{same_place, one_sector as same_at}
use Rattle.shadow_write.proofs.Within.{scratch_within}

-- The scratch rows end before the data rows begin.
scratch_apart : (to sector : ℕ) (place : Place) (device device_sector : ℕ) → 0 < to → sector < 32 * to
    → IsAt (scratch_place to sector) first_scratch_sector device device_sector
    → IsAt place first_data_sector device device_sector → ⊥
scratch_apart to sector place device device_sector some below at also =
    let row : sector / to < 32 = (div-lt_iff_lt-mul {k = to} {x = sector} {y = 32} some).1 below in
    omega (arith, row, at.sector_is, also.sector_is)

-- Below the mark the limit is no nearer than the mark.
limit_far : (from mark done : ℕ) → 0 < from → from ≤ 16 → 32 * from ≤ mark → done ≤ max mark (limit_of from mark)
    → done ≤ limit_of from mark
limit_far from mark done some few far within = ⊎_elim
    (λ (low : mark / from < 32).
    let below : mark < 32 * from = (div-lt_iff_lt-mul {k = from} {x = mark} {y = 32} some).0 low in
    absurd (omega (arith, below, far)))
    (λ (high : 32 ≤ mark / from). omega (arith, high, few, within))
    (cases_lt (mark / from) 32)

-- A sector that was drained or copied never lands on one that is still read.
new_apart : (state : State) (reflow : Reflow) (done moved kept row_end : ℕ) → 0 < reflow.from → reflow.from ≤ 16
    → IsMark state reflow → Expands reflow → IsFrontIn state reflow done
    → (state ≡ Moved → done ≤ max reflow.mark (limit_of reflow.from reflow.mark))
    → row_end ≤ kept + reflow.from → NeedsNew state done moved → NeedsOld state reflow.mark row_end
    → new_place reflow moved ≢ old_place reflow kept
new_apart None reflow done moved kept row_end some few mark expands front limit end new old = absurd new
new_apart Valid reflow done moved kept row_end some few mark expands front limit end new old =
    let below : moved < scratch_end reflow = ⊎_elim
    (λ (none : done ≡ 0). absurd (omega (arith, none, new)))
    (λ (drained : done ≡ scratch_end reflow). omega (arith, drained, new)) front in
    drained_apart reflow moved kept
    (record { expands = expands; some = some; narrow = omega (arith, few); below = below })
    (omega (arith, mark, old, end))
new_apart Moved reflow done moved kept row_end some few mark expands front limit end new old =
    let far : 32 * reflow.from ≤ reflow.mark = omega (arith, mark.0, expands) in
    let within : done ≤ limit_of reflow.from reflow.mark =
    limit_far reflow.from reflow.mark done some few far (limit refl) in
    subst (λ (to : ℕ). place_of to moved ≢ place_of reflow.from kept) (sym expands)
    (copied_apart reflow.from reflow.mark moved kept some (omega (arith, within, new)) (omega (arith, old, end)))

-- No sector is at a new place unless the pool is being widened.
new_expands : (state : State) (reflow : Reflow) (done sector : ℕ) → IsRightReflow reflow → reflow.state ≡ state
    → NeedsNew state done sector → Expands reflow × IsMark state reflow
new_expands state reflow done sector right is needs = ⊎_elim
    (λ (rest : (reflow.to ≡ reflow.from) × (reflow.mark ≡ 0) × (reflow.state ≡ None)).
    absurd (subst (λ (s : State). NeedsNew s done sector) (sym is ∙ rest.2) needs))
    (λ (expands : Expands reflow × IsMark reflow.state reflow).
    (expands.0, subst (λ (s : State). IsMark s reflow) is expands.1))
    right

-- Two sectors of which one place is required are one, whatever front each is asked for at.
pub one_sector : (reflow : Reflow) (done front sector other row_end other_end device device_sector : ℕ)
    → 0 < reflow.from → 0 < reflow.to → reflow.from ≤ 16 → IsRightReflow reflow → IsFrontOf reflow done
    → IsFrontOf reflow front → row_end ≤ sector + reflow.from → other_end ≤ other + reflow.from
    → IsRequiredPlace reflow done row_end sector device device_sector
    → IsRequiredPlace reflow front other_end other device device_sector → sector ≡ other
one_sector reflow done front sector other row_end other_end device device_sector from_some to_some few right its_front other_front close other_close one also =
    ⊎_elim
    (λ (old : NeedsOld reflow.state reflow.mark row_end × IsAt (old_place reflow sector) first_data_sector device device_sector). ⊎_elim
    (λ (old' : NeedsOld reflow.state reflow.mark other_end × IsAt (old_place reflow other) first_data_sector device device_sector).
    same_at reflow.from sector other (same_place _ _ first_data_sector device device_sector old.1 old'.1))
    (λ rest. ⊎_elim
    (λ (scratch : NeedsScratch reflow.state reflow front other × IsAt (scratch_place reflow.to other) first_scratch_sector device device_sector).
    absurd (scratch_apart reflow.to other _ device device_sector to_some (scratch_within reflow.state reflow front other other_front.front scratch.0) scratch.1 old.1))
    (λ (new : NeedsNew reflow.state front other × IsAt (new_place reflow other) first_data_sector device device_sector).
    absurd (apart front other sector row_end other_front close new.0 old.0 (same_place _ _ first_data_sector device device_sector new.1 old.1)))
    rest) also)
    (λ rest. ⊎_elim
    (λ (scratch : NeedsScratch reflow.state reflow done sector × IsAt (scratch_place reflow.to sector) first_scratch_sector device device_sector).
    let below : sector < 32 * reflow.to = scratch_within reflow.state reflow done sector its_front.front scratch.0 in ⊎_elim
    (λ (old : NeedsOld reflow.state reflow.mark other_end × IsAt (old_place reflow other) first_data_sector device device_sector).
    absurd (scratch_apart reflow.to sector _ device device_sector to_some below scratch.1 old.1))
    (λ rest'. ⊎_elim
    (λ (scratch' : NeedsScratch reflow.state reflow front other × IsAt (scratch_place reflow.to other) first_scratch_sector device device_sector).
    same_at reflow.to sector other (same_place _ _ first_scratch_sector device device_sector scratch.1 scratch'.1))
    (λ (new : NeedsNew reflow.state front other × IsAt (new_place reflow other) first_data_sector device device_sector).
    absurd (scratch_apart reflow.to sector _ device device_sector to_some below scratch.1 new.1))
    rest') also)
    (λ (new : NeedsNew reflow.state done sector × IsAt (new_place reflow sector) first_data_sector device device_sector). ⊎_elim
    (λ (old : NeedsOld reflow.state reflow.mark other_end × IsAt (old_place reflow other) first_data_sector device device_sector).
    absurd (apart done sector other other_end its_front other_close new.0 old.0 (same_place _ _ first_data_sector device device_sector new.1 old.1)))
    (λ rest'. ⊎_elim
    (λ (scratch : NeedsScratch reflow.state reflow front other × IsAt (scratch_place reflow.to other) first_scratch_sector device device_sector).
    absurd (scratch_apart reflow.to other _ device device_sector to_some (scratch_within reflow.state reflow front other other_front.front scratch.0) scratch.1 new.1))
    (λ (new' : NeedsNew reflow.state front other × IsAt (new_place reflow other) first_data_sector device device_sector).
    same_at reflow.to sector other (same_place _ _ first_data_sector device device_sector new.1 new'.1))
    rest') also)
    rest) one
  where
    apart : (at moved kept end : ℕ) → IsFrontOf reflow at → end ≤ kept + reflow.from → NeedsNew reflow.state at moved
        → NeedsOld reflow.state reflow.mark end → new_place reflow moved ≢ old_place reflow kept
    apart at moved kept end here near new old =
        let grows = new_expands reflow.state reflow at moved right refl new in
        new_apart reflow.state reflow at moved kept end from_some few grows.1 grows.0 here.front here.limit near new old

-- What a block in its pool knows of its widths.
pub record HasWidths (layout : Layout) (reflow : Reflow) : Type 0 where
  pub from_some : 0 < reflow.from
  pub from_few : reflow.from ≤ 16
  pub to_some : 0 < reflow.to
  pub grows : reflow.from ≤ reflow.to
  pub columns : columns_of layout ≤ reflow.from

pub widths_of : (layout : Layout) (reflow : Reflow) → IsInPool layout reflow → HasWidths layout reflow
widths_of layout reflow pool =
    let grows : reflow.from ≤ reflow.to = ⊎_elim
    (λ (rest : (reflow.to ≡ reflow.from) × (reflow.mark ≡ 0) × (reflow.state ≡ None)). omega (arith, rest.0))
    (λ (expands : Expands reflow × IsMark reflow.state reflow). omega (arith, expands.0)) pool.right in
    record {
      from_some = omega (arith, pool.width, pool.within.is.width);
      from_few = omega (arith, grows, pool.few);
      to_some = omega (arith, grows, pool.width, pool.within.is.width);
      grows = grows;
      columns = omega (arith, columns_few layout pool.within.is, pool.width);
    }

-- A sector of a block stands close to the end of its row,
pub close_to_end : (layout : Layout) (reflow : Reflow) (row column : ℕ) → IsInPool layout reflow → IsColumn layout row column
    → end_of layout row ≤ sector_of layout row column + reflow.from
close_to_end layout reflow row column pool there =
    omega (arith, row_few layout row pool.within.is, (widths_of layout reflow pool).columns, there.column_in)

-- and is one of the pool's.
pub in_pool : (layout : Layout) (reflow : Reflow) (row column : ℕ) → IsInPool layout reflow → IsColumn layout row column
    → sector_of layout row column < sectors_of reflow
in_pool layout reflow row column pool there =
    omega (arith, inside layout row column pool.within.is there, pool.end)

-- No place has to hold two columns of a block.
pub one_column : (layout : Layout) (reflow : Reflow) (done row column other_row other device device_sector : ℕ)
    → IsInPool layout reflow → IsFrontOf reflow done → IsColumn layout row column → IsColumn layout other_row other
    → IsRequiredPlace reflow done (end_of layout row) (sector_of layout row column) device device_sector
    → IsRequiredPlace reflow done (end_of layout other_row) (sector_of layout other_row other) device device_sector
    → (row ≡ other_row) × (column ≡ other)
one_column layout reflow done row column other_row other device device_sector pool front there also_there required also =
    let widths = widths_of layout reflow pool in
    let same : sector_of layout row column ≡ sector_of layout other_row other =
    one_sector reflow done done (sector_of layout row column) (sector_of layout other_row other) (end_of layout row)
    (end_of layout other_row) device device_sector widths.from_some widths.to_some widths.from_few pool.right front front
    (close_to_end layout reflow row column pool there) (close_to_end layout reflow other_row other pool also_there) required also in
    let narrow : (r : ℕ) → columns_in layout r ≤ layout.width = λ r. omega (arith, row_few layout r pool.within.is, columns_few layout pool.within.is) in
    same_from_place row column other_row other layout.width (omega (arith, there.column_in, narrow row)) (omega (arith, also_there.column_in, narrow other_row))
    (omega (arith, same))
