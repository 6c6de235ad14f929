-- The width that a right uberblock gives to a block.
use Rattle.std.proofs.Common.{◌≡◌, ℕ, ◌+◌, ◌≤◌, List, [], ◌∷◌, arith, if◌then◌else◌}
use Rattle.std.specs.Prelude.{nat_le}
use Rattle.std.proofs.lemmas.Bool.Decides.{nat_tests}
use Rattle.width_map.specs.declared.birth.Birth.{Birth}
use Rattle.width_map.specs.Births.{GrowFrom, last_width_from, width_from, width_of_birth}
use Rattle.uberblock_ring.specs.Valid.{IsBirthsOf}

-- The width at a birth is that of one of the entries, or the width so far.
width_between : (low high width birth : ℕ) (before : Birth) (births : List Birth)
    → GrowFrom before births → low ≤ width → width ≤ before.width
    → last_width_from before.width births ≤ high
    → (low ≤ width_from width births birth) × (width_from width births birth ≤ high)
width_between low high width birth before [] grow above below last =
    (above, omega (arith, below, last))
width_between low high width birth before (entry ∷ births) grow above below last =
    let here = if nat_le entry.group birth then entry.width else width in
    let still_above : low ≤ here = grind (arith, nat_tests, above, below, grow.1) in
    let still_below : here ≤ entry.width = grind (arith, nat_tests, below, grow.1) in
    width_between low high here birth entry births grow.2 still_above still_below last

-- It is above the parity, and at most that of the pool.
pub births_between : (births : List Birth) (parity width group birth : ℕ)
    → IsBirthsOf births parity width group
    → (parity + 1 ≤ width_of_birth births birth) × (width_of_birth births birth ≤ width)
births_between [] parity width group birth are = absurd are.growing
births_between (first ∷ births) parity width group birth are =
    let here = if nat_le first.group birth then first.width else 0 in
    let begun : here ≡ first.width = grind (arith, nat_tests, are.growing.0) in
    width_between (parity + 1) width here birth first births are.growing.1
    (omega (arith, begun, are.wide)) (omega (arith, begun)) (omega (arith, are.last))
