-- Why what drains from the scratch area spares what is still read.
use Rattle.std.proofs.Common.{◌≡◌, ◌≢◌, ℕ, ◌+◌, ◌*◌, ◌/◌, ◌<◌, ◌≤◌, sym, arith, subst, ⊎_elim}
use Rattle.std.proofs.lemmas.Bool.{cases_lt}
use Rattle.std.proofs.Math.Nat.{div-lt_iff_lt-mul}
use Rattle.width_map.specs.Place.{place_of}
use Rattle.width_map.proofs.CopyLimit.{wider_is_further}
use Rattle.reflow_mark.specs.declared.reflow.Reflow.{Reflow}
use Rattle.reflow_mark.specs.Reflow.{scratch_end}
use Rattle.scratch_area.specs.Scratch.{old_place, new_place, IsDrained}

-- At one place the drained sector counts one more for each row above it, which is too many.
lands_further : (width copied kept : ℕ) → 0 < width → width ≤ 33 → copied < 32 * (width + 1)
    → 32 * (width + 1) < kept + width → place_of (width + 1) copied ≢ place_of width kept
lands_further width copied kept some narrow below above same =
    let further : copied ≡ kept + kept / width = wider_is_further width copied kept same in
    let from : (rows : ℕ) → kept / width < rows → kept < rows * width = λ rows less. (div-lt_iff_lt-mul {k = width} {x = kept} {y = rows} some).0 less in
    ⊎_elim
    (λ less. omega (arith, below, above, further, from 31 less))
    (λ at_least. ⊎_elim
    (λ less. omega (arith, narrow, below, above, further, at_least, from 32 less))
    (λ more. omega (arith, narrow, below, above, further, more)) (cases_lt (kept / width) 32))
    (cases_lt (kept / width) 31)

-- A drained sector never lands on one that is still read.
pub drained_apart : (reflow : Reflow) (sector kept : ℕ) → IsDrained reflow sector
    → scratch_end reflow < kept + reflow.from → new_place reflow sector ≢ old_place reflow kept
drained_apart reflow sector kept is above =
    subst (λ (to : ℕ). place_of to sector ≢ place_of reflow.from kept) (sym is.expands)
    (lands_further reflow.from sector kept is.some is.narrow (omega (arith, is.expands, is.below)) (omega (arith, is.expands, above)))
