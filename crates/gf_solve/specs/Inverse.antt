-- The inverse of a byte.
use Rattle.std.specs.Prelude.{ℕ, zero, suc}
use Rattle.gf_parity.specs.Field.{product}

-- a product of so many squares of squares, and what it begins with
unfoldable pub squares_times : ℕ → ℕ → ℕ → ℕ
squares_times square sum zero = sum
squares_times square sum (suc more) =
    squares_times (product square square) (product sum (product square square)) more

-- the byte to the power 254
unfoldable pub inverse_of : ℕ → ℕ
inverse_of byte = squares_times byte 1 7
