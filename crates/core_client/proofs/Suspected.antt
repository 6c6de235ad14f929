-- Suspected at the present width is the device that was read.
use Rattle.std.proofs.Common.{◌≡◌, ℕ, ◌+◌, ◌-◌, ◌*◌, ◌%◌, ◌^◌, ◌<◌, ◌≤◌, List, refl, sym, ◌∙◌, ap, arith, ⊎_elim}
use Rattle.std.specs.Prelude.{Bool, true, false, ◌==◌, if◌then◌else◌, nat_le, max}
use Rattle.std.proofs.lemmas.Bool.{cases_lt}
use Rattle.std.proofs.lemmas.Bool.Decides.{nat_tests}
use Rattle.std.proofs.Math.Nat.{mul-le-mul_left}
use Rattle.width_map.specs.declared.birth.Birth.{Birth}
use Rattle.width_map.specs.Births.{last_width}
use Rattle.reflow_mark.specs.declared.reflow.State.{State}
use Rattle.reflow_mark.specs.declared.reflow.State.TheVariants.{None, Valid, Moved}
use Rattle.reflow_mark.specs.declared.reflow.Reflow.{Reflow}
use Rattle.reflow_mark.specs.declared.stand.Stand.{Stand}
use Rattle.reflow_mark.specs.declared.stand.Stand.TheVariants.{Old, Scratch, New}
use Rattle.reflow_mark.specs.Reflow.{sectors_of, Expands, IsMark}
use Rattle.reflow_mark.specs.Standing.{stand_of, standing}
use Rattle.row_layout.specs.Layout.{Layout, IsColumn, columns_in, sector_of, end_of, total_of}
use Rattle.row_layout.proofs.Laws.{inside}
use Rattle.reconstruct.specs.declared.pair.Pair.{Pair}
use Rattle.reconstruct.specs.Suspects.{mark_for, width_at_end, is_suspect}
use Rattle.core_client.specs.Pool.{IsInPool}
use Rattle.core_client.specs.Reading.{spot_in, spot_of}
use Rattle.core_client.proofs.Spots.{end_is}

-- the width at which a row is read that stands so
width_of : Stand → Reflow → ℕ
width_of Old reflow = reflow.from
width_of Scratch reflow = reflow.to
width_of New reflow = reflow.to

device_of : (stand : Stand) (reflow : Reflow) (sector : ℕ)
    → (spot_in stand reflow sector).device ≡ sector % width_of stand reflow
unfolding width_of
device_of Old reflow sector = refl
device_of Scratch reflow sector = refl
device_of New reflow sector = refl

-- A pool at rest is read at its width, and one that is being widened at the new one up to the mark.
narrower : (pair : Pair) (row_end : ℕ) → pair.mark < row_end → width_at_end pair row_end ≡ max 1 (pair.width - 1)
narrower pair row_end above = grind (arith, nat_tests, above)

as_wide : (pair : Pair) (row_end : ℕ) → row_end ≤ pair.mark → width_at_end pair row_end ≡ pair.width
as_wide pair row_end below = grind (arith, nat_tests, below)

mark_at_rest : (births : List Birth) (to mark : ℕ) → last_width births ≡ to → mark_for births to mark to ≡ 2 ^ 64 - 1
mark_at_rest births to mark last = grind (arith, nat_tests, last)

mark_widened : (births : List Birth) (to mark : ℕ) → to ≡ last_width births + 1 → mark_for births to mark to ≡ mark
mark_widened births to mark last = grind (arith, nat_tests, last)

-- The width at which a row is read is that of the suspects.
width_up_to_mark : (wider : Stand) (reflow : Reflow) (pair : Pair) (row_end : ℕ) → 0 < reflow.from → Expands reflow
    → width_of wider reflow ≡ reflow.to → pair.width ≡ reflow.to → pair.mark ≡ reflow.mark
    → width_of (if nat_le row_end reflow.mark then wider else Old) reflow ≡ width_at_end pair row_end
unfolding width_of
width_up_to_mark wider reflow pair row_end wide expands wider_is width mark = ⊎_elim
    (λ (above : reflow.mark < row_end).
    let test : nat_le row_end reflow.mark ≡ false = grind (arith, nat_tests, above) in
    ap (λ (b : Bool). width_of (if b then wider else Old) reflow) test
    ∙ sym (narrower pair row_end (omega (arith, above, mark)) ∙ omega (arith, width, expands, wide)))
    (λ (within : row_end ≤ reflow.mark).
    let test : nat_le row_end reflow.mark ≡ true = grind (arith, nat_tests, within) in
    ap (λ (b : Bool). width_of (if b then wider else Old) reflow) test
    ∙ wider_is ∙ sym (as_wide pair row_end (omega (arith, within, mark)) ∙ width))
    (cases_lt reflow.mark row_end)

width_when_widened : (state : State) (reflow : Reflow) (pair : Pair) (row_end : ℕ) → 0 < row_end → 0 < reflow.from
    → Expands reflow → IsMark state reflow → pair.width ≡ reflow.to → pair.mark ≡ reflow.mark
    → width_of (stand_of state reflow.mark row_end) reflow ≡ width_at_end pair row_end
unfolding width_of
width_when_widened None reflow pair row_end some wide expands none width mark =
    sym (narrower pair row_end (omega (arith, some, mark, none)) ∙ omega (arith, width, expands, wide))
width_when_widened Valid reflow pair row_end some wide expands is width mark =
    width_up_to_mark Scratch reflow pair row_end wide expands refl width mark
width_when_widened Moved reflow pair row_end some wide expands is width mark =
    width_up_to_mark New reflow pair row_end wide expands refl width mark

module _ (layout : Layout) (reflow : Reflow) (births : List Birth) (row column device : ℕ)
    (pool : IsInPool layout reflow) (last : last_width births ≡ reflow.from) (there : IsColumn layout row column) where
  abbrev pair : Pair
  pair = record { width = reflow.to; device = device; mark = mark_for births reflow.to reflow.mark reflow.to }

  some_wide : 0 < reflow.from
  some_wide = omega (arith, pool.width, pool.within.is.width, pool.within.is.parity)

  -- A row ends within the pool's sectors.
  end_low : end_of layout row ≤ sectors_of reflow
  end_low =
      let some : 0 < columns_in layout row = omega (arith, there.column_in) in
      let before : sector_of layout row (columns_in layout row - 1) < layout.start + total_of layout =
      inside layout row (columns_in layout row - 1) pool.within.is
      (record { row_in = there.row_in; column_in = omega (arith, some) }) in
      omega (arith, before, some, pool.end)

  width_read : width_of (standing reflow (sector_of layout row 0) (columns_in layout row)) reflow
      ≡ width_at_end pair (end_of layout row)
  unfolding width_of
  width_read =
      ap (λ (e : ℕ). width_of (stand_of reflow.state reflow.mark e) reflow) (end_is layout row)
      ∙ ⊎_elim at_rest widened pool.right
    where
      at_rest : (reflow.to ≡ reflow.from) × (reflow.mark ≡ 0) × (reflow.state ≡ None)
          → width_of (stand_of reflow.state reflow.mark (end_of layout row)) reflow
          ≡ width_at_end pair (end_of layout row)
      at_rest rest =
          let narrow : reflow.from ≤ 16 = omega (arith, rest.0, pool.few) in
          let few : reflow.rows * reflow.from ≤ reflow.rows * 16 = mul-le-mul_left reflow.rows narrow in
          let mark_is : mark_for births reflow.to reflow.mark reflow.to ≡ 2 ^ 64 - 1 =
          mark_at_rest births reflow.to reflow.mark (last ∙ sym rest.0) in
          let below : end_of layout row ≤ pair.mark = omega (arith, end_low, few, pool.rows, mark_is) in
          ap (λ (s : State). width_of (stand_of s reflow.mark (end_of layout row)) reflow) rest.2
          ∙ sym rest.0 ∙ sym (as_wide pair (end_of layout row) below)

      widened : Expands reflow × IsMark reflow.state reflow
          → width_of (stand_of reflow.state reflow.mark (end_of layout row)) reflow
          ≡ width_at_end pair (end_of layout row)
      widened expands =
          width_when_widened reflow.state reflow pair (end_of layout row) (omega (arith, there.column_in)) some_wide
          expands.0 expands.1 refl (mark_widened births reflow.to reflow.mark (omega (arith, expands.0, last)))

  -- Law: A pair of the present width suspects the columns that are read on its device, and no others.
  pub suspected_where_read : is_suspect (end_of layout row) (sector_of layout row column) pair
      ≡ ((spot_of layout reflow row column).device == device)
  suspected_where_read =
      ap (λ (k : ℕ). k == device)
      (ap (λ (w : ℕ). sector_of layout row column % w) (sym width_read)
      ∙ sym (device_of (standing reflow (sector_of layout row 0) (columns_in layout row)) reflow
      (sector_of layout row column)))
