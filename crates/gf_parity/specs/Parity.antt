-- The three parities of a row, at one byte and over whole columns.
use Rattle.std.specs.Prelude.{ℕ, zero, suc, ◌+◌, List, [], ◌∷◌, length, map, slice_index, bit_xor}
use Rattle.gf_parity.specs.Field.{product, power_of}

-- the sum of bytes
abbrev pub sum_of : List ℕ → ℕ
sum_of [] = 0
sum_of (byte ∷ bytes) = bit_xor byte (sum_of bytes)

-- the sum of bytes, each times a byte to the power of how many follow it
abbrev pub weighted_sum : ℕ → List ℕ → ℕ
weighted_sum weight [] = 0
weighted_sum weight (byte ∷ bytes) =
    bit_xor (product (power_of weight (length bytes)) byte) (weighted_sum weight bytes)

-- parity 0 of a row's bytes
unfoldable pub p_of : List ℕ → ℕ
p_of bytes = sum_of bytes

-- parity 1: weights are powers of 2
unfoldable pub q_of : List ℕ → ℕ
q_of bytes = weighted_sum 2 bytes

-- parity 2: weights are powers of 4
unfoldable pub r_of : List ℕ → ℕ
r_of bytes = weighted_sum 4 bytes

-- the parity column of this number, at one byte
abbrev pub parity_byte : ℕ → List ℕ → ℕ
parity_byte zero bytes = p_of bytes
parity_byte (suc zero) bytes = q_of bytes
parity_byte (suc (suc more)) bytes = r_of bytes

-- the bytes of all columns at one offset
abbrev pub bytes_at : ℕ → List (List ℕ) → List ℕ
bytes_at offset columns = map (λ column. slice_index column offset) columns

-- a parity column over content columns of the same length, from an offset on
abbrev pub parity_from : ℕ → ℕ → ℕ → List (List ℕ) → List ℕ
parity_from which offset zero columns = []
parity_from which offset (suc more) columns =
    parity_byte which (bytes_at offset columns) ∷ parity_from which (offset + 1) more columns

-- the parity column of this number over content columns of 512 bytes
unfoldable pub parity_column : ℕ → List (List ℕ) → List ℕ
parity_column which columns = parity_from which 0 512 columns
