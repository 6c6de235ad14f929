-- How much a content column counts in a parity.
use Rattle.std.specs.Prelude.{ℕ, zero, suc, ◌-◌, bit_xor}
use Rattle.gf_parity.specs.Field.{product, power_of}

-- the weight in the parity of this number: the power of the column's point
abbrev pub weight : ℕ → ℕ → ℕ
weight zero point = 1
weight (suc zero) point = point
weight (suc (suc more)) point = product point point

-- the point of a column of so many: 2 to the power of how many follow
abbrev pub column_point : ℕ → ℕ → ℕ
column_point columns column = power_of 2 (columns - 1 - column)

-- what a column's byte gives to a parity
abbrev pub share : ℕ → ℕ → ℕ → ℕ
share which point byte = product (weight which point) byte

-- what the bytes of two columns give
abbrev pub two_shares : ℕ → ℕ → ℕ → ℕ → ℕ → ℕ
two_shares which x y first second = bit_xor (share which x first) (share which y second)

-- what those of three give
abbrev pub three_shares : ℕ → ℕ → ℕ → ℕ → ℕ → ℕ → ℕ → ℕ
three_shares which x y z first second third =
    bit_xor (two_shares which x y first second) (share which z third)
