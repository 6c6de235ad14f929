-- Where a column is read is one of its required places, and on the bank.
use Rattle.std.proofs.Common.{◌≡◌, ◌⊎◌, inl, inr, ⊎_elim, ℕ, ◌+◌, ◌/◌, ◌<◌, ◌≤◌, Bool, true, false, refl, sym, ◌∙◌}
use Rattle.std.proofs.Common.{subst, arith}
use Rattle.std.specs.Prelude.{nat_le, if◌then◌else◌}
use Rattle.std.proofs.Math.Nat.{div-lt_iff_lt-mul, mul-le-mul_left, mod-lt}
use Rattle.std.proofs.lemmas.Bool.{cases_lt}
use Rattle.std.proofs.lemmas.Bool.Decides.{nat_tests}
use Rattle.width_map.specs.Place.{first_data_sector}
use Rattle.reflow_mark.specs.declared.reflow.State.{State}
use Rattle.reflow_mark.specs.declared.reflow.State.TheVariants.{None, Valid, Moved}
use Rattle.reflow_mark.specs.declared.reflow.Reflow.{Reflow}
use Rattle.reflow_mark.specs.declared.stand.Stand.{Stand}
use Rattle.reflow_mark.specs.declared.stand.Stand.TheVariants.{Old, Scratch, New}
use Rattle.reflow_mark.specs.Reflow.{scratch_end, sectors_of, Expands, IsMark, IsRightReflow}
use Rattle.reflow_mark.specs.Standing.{NeedsOld, stand_of}
use Rattle.scratch_area.specs.Scratch.{old_place, new_place, scratch_place, first_scratch_sector}
use Rattle.row_layout.specs.Layout.{Layout, IsColumn, columns_in, sector_of, end_of}
use Rattle.shadow_write.specs.Required.{IsAt, NeedsScratch, NeedsNew, IsRequiredPlace, IsFrontIn}
use Rattle.core_state.specs.declared.spot.Spot.{Spot}
use Rattle.core_client.specs.Pool.{IsInPool}
use Rattle.core_client.specs.Reading.{spot_in, spot_of}
use Rattle.core_client.proofs.Places.{widths_of, in_pool}

-- the required places of a sector in a state
abbrev RequiredIn : State → Reflow → ℕ → ℕ → ℕ → Spot → Type 0
RequiredIn state reflow done row_end sector spot =
    (NeedsOld state reflow.mark row_end × IsAt (old_place reflow sector) first_data_sector spot.device spot.device_sector)
    ⊎ ((NeedsScratch state reflow done sector × IsAt (scratch_place reflow.to sector) first_scratch_sector spot.device spot.device_sector)
    ⊎ (NeedsNew state done sector × IsAt (new_place reflow sector) first_data_sector spot.device spot.device_sector))

-- A sector is read where it has to be right.
needed : (state : State) (reflow : Reflow) (done sector row_end : ℕ) → (state ≡ Valid → reflow.mark ≡ scratch_end reflow)
    → IsFrontIn state reflow done → sector < row_end
    → RequiredIn state reflow done row_end sector (spot_in (stand_of state reflow.mark row_end) reflow sector)
needed None reflow done sector row_end mark front below = inl (tt, record { device_is = refl; sector_is = refl })
needed Valid reflow done sector row_end mark front below = ⊎_elim
    (λ (above : reflow.mark < row_end).
    let test : nat_le row_end reflow.mark ≡ false = grind (arith, nat_tests, above) in
    subst (λ (b : Bool). RequiredIn Valid reflow done row_end sector (spot_in (if b then Scratch else Old) reflow sector)) (sym test)
    (inl (above, record { device_is = refl; sector_is = refl })))
    (λ (within : row_end ≤ reflow.mark).
    let test : nat_le row_end reflow.mark ≡ true = grind (arith, nat_tests, within) in
    subst (λ (b : Bool). RequiredIn Valid reflow done row_end sector (spot_in (if b then Scratch else Old) reflow sector)) (sym test)
    (inr (inl (omega (arith, mark refl, within, below), record { device_is = refl; sector_is = refl }))))
    (cases_lt reflow.mark row_end)
needed Moved reflow done sector row_end mark front below = ⊎_elim
    (λ (above : reflow.mark < row_end).
    let test : nat_le row_end reflow.mark ≡ false = grind (arith, nat_tests, above) in
    subst (λ (b : Bool). RequiredIn Moved reflow done row_end sector (spot_in (if b then New else Old) reflow sector)) (sym test)
    (inl (above, record { device_is = refl; sector_is = refl })))
    (λ (within : row_end ≤ reflow.mark).
    let test : nat_le row_end reflow.mark ≡ true = grind (arith, nat_tests, within) in
    subst (λ (b : Bool). RequiredIn Moved reflow done row_end sector (spot_in (if b then New else Old) reflow sector)) (sym test)
    (inr (inr (omega (arith, front, within, below), record { device_is = refl; sector_is = refl }))))
    (cases_lt reflow.mark row_end)

-- the mark in Valid
valid_mark : (reflow : Reflow) → IsRightReflow reflow → reflow.state ≡ Valid → reflow.mark ≡ scratch_end reflow
valid_mark reflow right valid = ⊎_elim
    (λ (rest : (reflow.to ≡ reflow.from) × (reflow.mark ≡ 0) × (reflow.state ≡ None)).
    let unlike : None ≡ Valid = sym rest.2 ∙ valid in absurd (cc))
    (λ (expands : Expands reflow × IsMark reflow.state reflow). subst (λ (s : State). IsMark s reflow) valid expands.1)
    right

-- The row's end, as its first sector and its columns tell it.
pub end_is : (layout : Layout) (row : ℕ) → sector_of layout row 0 + columns_in layout row ≡ end_of layout row
end_is layout row = omega arith

pub spot_required : (layout : Layout) (reflow : Reflow) (done row column : ℕ) → IsInPool layout reflow → IsColumn layout row column
    → IsFrontIn reflow.state reflow done
    → IsRequiredPlace reflow done (end_of layout row) (sector_of layout row column)
    (spot_of layout reflow row column).device (spot_of layout reflow row column).device_sector
spot_required layout reflow done row column pool there front =
    let at_end = needed reflow.state reflow done (sector_of layout row column) (end_of layout row)
    (valid_mark reflow pool.right) front (omega (arith, there.column_in)) in
    subst (λ (e : ℕ). RequiredIn reflow.state reflow done (end_of layout row) (sector_of layout row column)
    (spot_in (stand_of reflow.state reflow.mark e) reflow (sector_of layout row column))) (sym (end_is layout row)) at_end

-- A spot is on the pool's devices, and not behind its data rows.
pub record IsOnPool (reflow : Reflow) (spot : Spot) : Type 0 where
  pub device : spot.device < reflow.to
  pub inside : spot.device_sector < first_data_sector + reflow.rows

pub on_pool : (stand : Stand) (reflow : Reflow) (sector : ℕ) → 0 < reflow.from → reflow.from ≤ reflow.to → sector < sectors_of reflow
    → IsOnPool reflow (spot_in stand reflow sector)
on_pool stand reflow sector some grows below = by stand
  where
    old : sector / reflow.from < reflow.rows
    old = (div-lt_iff_lt-mul {k = reflow.from} {x = sector} {y = reflow.rows} some).1 below

    new : sector / reflow.to < reflow.rows
    new = (div-lt_iff_lt-mul {k = reflow.to} {x = sector} {y = reflow.rows} (omega (arith, some, grows))).1
        (omega (arith, below, mul-le-mul_left reflow.rows grows))

    by : (stand : Stand) → IsOnPool reflow (spot_in stand reflow sector)
    by Old = record { device = omega (arith, mod-lt sector some, grows); inside = omega (arith, old) }
    by Scratch = record { device = mod-lt sector (omega (arith, some, grows)); inside = omega (arith, new) }
    by New = record { device = mod-lt sector (omega (arith, some, grows)); inside = omega (arith, new) }

pub spot_on_pool : (layout : Layout) (reflow : Reflow) (row column : ℕ) → IsInPool layout reflow → IsColumn layout row column
    → IsOnPool reflow (spot_of layout reflow row column)
spot_on_pool layout reflow row column pool there =
    let widths = widths_of layout reflow pool in
    on_pool _ reflow (sector_of layout row column) widths.from_some widths.grows (in_pool layout reflow row column pool there)
