-- Why a sector below the limit spares what is still read.
use Rattle.std.proofs.Common.{◌≡◌, ◌≢◌, ℕ, ◌+◌, ◌*◌, ◌/◌, ◌%◌, ◌<◌, ◌≤◌, arith, ap}
use Rattle.std.proofs.Math.Nat.{div-add-mod, add-mul, one-mul, lt-div-mul-add, div-lt_iff_lt-mul}
use Rattle.width_map.specs.declared.position.Place.{Place}
use Rattle.width_map.specs.Place.{place_of, limit_of}

-- At one place, the wider pool counts one sector more for each row above it.
pub wider_is_further : (width copied kept : ℕ) → place_of (width + 1) copied ≡ place_of width kept
    → copied ≡ kept + kept / width
wider_is_further width copied kept same =
    let device : copied % (width + 1) ≡ kept % width = ap (λ (p : Place). p.device) same in
    let row : copied / (width + 1) ≡ kept / width = ap (λ (p : Place). p.row) same in
    let split : (width + 1) * (copied / (width + 1)) ≡ width * (copied / (width + 1)) + copied / (width + 1) =
    omega (arith, add-mul width 1 (copied / (width + 1)), one-mul (copied / (width + 1))) in
    let rows : width * (copied / (width + 1)) ≡ width * (kept / width) = ap (λ (r : ℕ). width * r) row in
    omega (arith, div-add-mod copied (width + 1), div-add-mod kept width, split, rows, device, row)

-- A row that ends above the mark begins at most one row before the mark's.
row_reaches : (width mark kept : ℕ) → 0 < width → mark < kept + width → mark / width ≤ kept / width + 1
row_reaches width mark kept some above =
    let spread : (kept / width + 2) * width ≡ kept / width * width + 2 * width = add-mul (kept / width) 2 width in
    let within : mark < (kept / width + 2) * width = omega (arith, above, spread, lt-div-mul-add {a = kept} {b = width} some) in
    omega (arith, (div-lt_iff_lt-mul {k = width} {x = mark} {y = kept / width + 2} some).1 within)

-- A copied sector never lands on one that is still read.
pub copied_apart : (width mark copied kept : ℕ) → 0 < width → copied < limit_of width mark
    → mark < kept + width → place_of (width + 1) copied ≢ place_of width kept
copied_apart width mark copied kept some below above same =
    omega (arith, below, above, wider_is_further width copied kept same, row_reaches width mark kept some above)
