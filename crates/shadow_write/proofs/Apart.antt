-- Sectors of a pool that is being widened stand in each other's way nowhere.
use Rattle.std.proofs.Common.{◌≡◌, ◌≢◌, ⊎_elim, ℕ, ◌+◌, ◌*◌, ◌/◌, ◌%◌, ◌<◌, ◌≤◌, refl, sym, ◌∙◌, ap, subst, arith}
use Rattle.std.specs.Prelude.{max}
use Rattle.std.proofs.lemmas.Bool.{cases_lt}
use Rattle.std.proofs.Math.Nat.{div-add-mod, div-lt_iff_lt-mul}
use Rattle.width_map.specs.declared.position.Place.{Place}
use Rattle.width_map.specs.Place.{place_of, first_data_sector, limit_of}
use Rattle.width_map.proofs.CopyLimit.{copied_apart}
use Rattle.reflow_mark.specs.declared.reflow.State.{State}
use Rattle.reflow_mark.specs.declared.reflow.State.TheVariants.{None, Valid, Moved}
use Rattle.reflow_mark.specs.declared.reflow.Reflow.{Reflow}
use Rattle.reflow_mark.specs.Reflow.{IsMark, scratch_end}
use Rattle.scratch_area.specs.Scratch.{old_place, new_place, scratch_place, first_scratch_sector}
use Rattle.scratch_area.proofs.Apart.{drained_apart}
use Rattle.shadow_write.specs.Required.{IsAt}
use Rattle.shadow_write.specs.Band.{reach_of, reach_in, IsWidening, MissesBand, ServesOne}

-- At one place of one width stands one sector.
pub one_sector : (width one other : ℕ) → place_of width one ≡ place_of width other → one ≡ other
one_sector width one other same =
    let device : one % width ≡ other % width = ap (λ (p : Place). p.device) same in
    let row : one / width ≡ other / width = ap (λ (p : Place). p.row) same in
    let rows : width * (one / width) ≡ width * (other / width) = ap (λ (r : ℕ). width * r) row in
    omega (arith, div-add-mod one width, div-add-mod other width, rows, device)

-- Two places of the same rows that are at one sector of one device are the same.
pub same_place : (one other : Place) (first device device_sector : ℕ) → IsAt one first device device_sector
    → IsAt other first device device_sector
    → one ≡ other
same_place one other first device device_sector here there =
    let device : one.device ≡ other.device = sym here.device_is ∙ there.device_is in
    let sectors : first + one.row ≡ first + other.row = sym here.sector_is ∙ there.sector_is in
    let row : one.row ≡ other.row = omega (arith, sectors) in
    λ i. record { device = device i; row = row i }

-- Sectors of the scratch area stand in its rows, which end before the data rows.
pub scratch_low : (to sector : ℕ) → 0 < to → sector < 32 * to → sector / to < 32
scratch_low to sector some below = (div-lt_iff_lt-mul {k = to} {x = sector} {y = 32} some).1 below

-- From a mark behind the scratch area on, the limit is no nearer than the mark.
limit_far : (from mark sector : ℕ) → 0 < from → from ≤ 15 → 32 * from ≤ mark → sector < max mark (limit_of from mark)
    → sector < limit_of from mark
limit_far from mark sector some few far within = ⊎_elim
    (λ (low : mark / from < 32).
    absurd (omega (arith, far, (div-lt_iff_lt-mul {k = from} {x = mark} {y = 32} some).0 low)))
    (λ (high : 32 ≤ mark / from). omega (arith, high, few, within))
    (cases_lt (mark / from) 32)

-- A new place within reach is no old place that may be read.
pub new_apart : (reflow : Reflow) (copied kept : ℕ) → IsWidening reflow → copied < reach_of reflow
    → reflow.mark < kept + reflow.from
    → new_place reflow copied ≢ old_place reflow kept
new_apart reflow copied kept widening below above = by reflow.state refl widening.mark below
  where
    by : (state : State) → reflow.state ≡ state → IsMark state reflow → copied < reach_in state reflow
        → new_place reflow copied ≢ old_place reflow kept
    by None is mark below = absurd (omega (arith, below))
    by Valid is mark below = drained_apart reflow copied kept
        (record { expands = widening.expands; some = widening.some; narrow = (let few = widening.narrow in omega (arith, few)); below = below })
        (omega (arith, mark, above))
    by Moved is mark below = subst (λ (to : ℕ). place_of to copied ≢ place_of reflow.from kept) (sym widening.expands)
        (copied_apart reflow.from reflow.mark copied kept widening.some
        (limit_far reflow.from reflow.mark copied widening.some widening.narrow (let more = widening.expands in omega (arith, mark.0, more)) below)
        above)

-- A place of a scratch row is none of a data row.
pub scratch_data : (reflow : Reflow) (scratched device device_sector : ℕ) (place : Place) → IsWidening reflow
    → scratched < scratch_end reflow
    → IsAt (scratch_place reflow.to scratched) first_scratch_sector device device_sector
    → IsAt place first_data_sector device device_sector
    → ⊥
scratch_data reflow scratched device device_sector place widening below at also =
    let row : scratched / reflow.to < 32 = scratch_low reflow.to scratched (let more = widening.expands in omega (arith, more)) below in
    let here = at.sector_is in
    let there = also.sector_is in
    omega (arith, row, here, there)

-- Law: A place of the band serves one sector.
pub in_band_once : (reflow : Reflow) (copied : ℕ) → IsWidening reflow → copied ≤ reach_of reflow
    → ServesOne reflow copied
in_band_once reflow copied widening within one other device device_sector here there =
    ⊎_elim
    (λ old. ⊎_elim
    (λ old'. one_sector reflow.from one other (same_place _ _ first_data_sector device device_sector old.1 old'.1))
    (λ rest'. ⊎_elim
    (λ scratch'. absurd (scratch_data reflow other device device_sector (old_place reflow one) widening scratch'.0 scratch'.1 old.1))
    (λ new'. absurd (new_apart reflow other one widening (omega (arith, within, new'.0)) old.0 (same_place _ _ first_data_sector device device_sector new'.1 old.1)))
    rest') there)
    (λ rest. ⊎_elim
    (λ scratch. ⊎_elim
    (λ old'. absurd (scratch_data reflow one device device_sector (old_place reflow other) widening scratch.0 scratch.1 old'.1))
    (λ rest'. ⊎_elim
    (λ scratch'. one_sector reflow.to one other (same_place _ _ first_scratch_sector device device_sector scratch.1 scratch'.1))
    (λ new'. absurd (scratch_data reflow one device device_sector (new_place reflow other) widening scratch.0 scratch.1 new'.1))
    rest') there)
    (λ new. ⊎_elim
    (λ old'. absurd (new_apart reflow one other widening (omega (arith, within, new.0)) old'.0 (same_place _ _ first_data_sector device device_sector new.1 old'.1)))
    (λ rest'. ⊎_elim
    (λ scratch'. absurd (scratch_data reflow other device device_sector (new_place reflow one) widening scratch'.0 scratch'.1 new.1))
    (λ new'. one_sector reflow.to one other (same_place _ _ first_data_sector device device_sector new.1 new'.1))
    rest') there)
    rest) here

-- Law: The new place of a sector at or behind the front, but within reach, is asked for by nobody.
pub copy_misses : (reflow : Reflow) (copied sector : ℕ) → IsWidening reflow → copied ≤ sector
    → sector < reach_of reflow → MissesBand reflow copied sector
copy_misses reflow copied sector widening low high other device device_sector at band = ⊎_elim
    (λ old. new_apart reflow sector other widening high old.0 (same_place _ _ first_data_sector device device_sector at old.1))
    (λ rest. ⊎_elim
    (λ scratch. scratch_data reflow other device device_sector (new_place reflow sector) widening scratch.0 scratch.1 at)
    (λ new. let same : sector ≡ other = one_sector reflow.to sector other (same_place _ _ first_data_sector device device_sector at new.1) in
    omega (arith, same, low, new.0))
    rest) band
