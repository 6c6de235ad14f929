-- A parity when some of its columns change.
use Rattle.std.proofs.Common.{◌≡◌, ◌≢◌, ℕ, zero, suc, ◌-◌, ◌<◌, List, [], ◌∷◌, length, sym, ◌∙◌, ap, arith}
use Rattle.std.specs.Prelude.{bit_xor, slice_index, slice_set}
use Rattle.std.specs.Int.Bits.{xor_assoc, xor_zero_l}
use Rattle.std.proofs.lemmas.Nat.{xor_comm}
use Rattle.std.proofs.lemmas.List.{length-set, get_or-set_other}
use Rattle.gf_parity.specs.Field.{product, power_of}
use Rattle.gf_parity.specs.Parity.{sum_of, weighted_sum, p_of, q_of, r_of, parity_byte}
use Rattle.gf_parity.proofs.Laws.{one_product}
use Rattle.gf_parity.proofs.Linear.{product-xor_right}
use Rattle.gf_solve.specs.Weight.{weight, column_point}
use Rattle.gf_solve.proofs.Units.{power_four}
use Rattle.gf_solve.proofs.Sums.{first_twice, shared_part}

-- Another byte in one place changes the sum by the difference.
sum_of-set : (bytes : List ℕ) (place byte : ℕ) → place < length bytes
    → sum_of (slice_set bytes place byte) ≡ bit_xor (sum_of bytes) (bit_xor byte (slice_index bytes place))
sum_of-set [] place byte low = absurd (omega (arith, low))
sum_of-set (first ∷ bytes) zero byte low = sym (shared_part first (sum_of bytes) byte)
sum_of-set (first ∷ bytes) (suc place) byte low =
    ap (bit_xor first) (sum_of-set bytes place byte (omega (arith, low))) ∙ sym (xor_assoc first (sum_of bytes) (bit_xor byte (slice_index bytes place)))

-- In a weighted sum the difference counts by the place's weight.
weighted_sum-set : (by : ℕ) (bytes : List ℕ) (place byte : ℕ) → place < length bytes
    → weighted_sum by (slice_set bytes place byte)
    ≡ bit_xor (weighted_sum by bytes) (product (power_of by (length bytes - 1 - place)) (bit_xor byte (slice_index bytes place)))
weighted_sum-set by [] place byte low = absurd (omega (arith, low))
weighted_sum-set by (first ∷ bytes) zero byte low =
    let behind : length bytes ≡ length (first ∷ bytes) - 1 - 0 = omega arith in
    sym (shared_part (product (power_of by (length bytes)) first) (weighted_sum by bytes) (product (power_of by (length bytes)) byte))
    ∙ ap (bit_xor (bit_xor (product (power_of by (length bytes)) first) (weighted_sum by bytes))) (sym (product-xor_right (power_of by (length bytes)) byte first))
    ∙ ap (λ (k : ℕ). bit_xor (bit_xor (product (power_of by (length bytes)) first) (weighted_sum by bytes)) (product (power_of by k) (bit_xor byte first))) behind
weighted_sum-set by (first ∷ bytes) (suc place) byte low =
    let behind : length bytes - 1 - place ≡ length (first ∷ bytes) - 1 - suc place = omega arith in
    ap (λ (k : ℕ). bit_xor (product (power_of by k) first) (weighted_sum by (slice_set bytes place byte))) (length-set bytes place byte)
    ∙ ap (bit_xor (product (power_of by (length bytes)) first)) (weighted_sum-set by bytes place byte (omega (arith, low)))
    ∙ sym (xor_assoc (product (power_of by (length bytes)) first) (weighted_sum by bytes) (product (power_of by (length bytes - 1 - place)) (bit_xor byte (slice_index bytes place))))
    ∙ ap (λ (k : ℕ). bit_xor (weighted_sum by (first ∷ bytes)) (product (power_of by k) (bit_xor byte (slice_index bytes place)))) behind

-- So does it in each parity.
pub parity-set : (which : ℕ) (bytes : List ℕ) (place byte : ℕ) → which < 3 → place < length bytes → bit_xor byte (slice_index bytes place) < 256
    → parity_byte which (slice_set bytes place byte)
    ≡ bit_xor (parity_byte which bytes) (product (weight which (column_point (length bytes) place)) (bit_xor byte (slice_index bytes place)))
unfolding p_of q_of r_of
parity-set zero bytes place byte few low difference =
    sum_of-set bytes place byte low ∙ ap (bit_xor (sum_of bytes)) (sym (one_product (bit_xor byte (slice_index bytes place)) difference))
parity-set (suc zero) bytes place byte few low difference = weighted_sum-set 2 bytes place byte low
parity-set (suc (suc zero)) bytes place byte few low difference =
    weighted_sum-set 4 bytes place byte low
    ∙ ap (λ (k : ℕ). bit_xor (weighted_sum 4 bytes) (product k (bit_xor byte (slice_index bytes place)))) (power_four (length bytes - 1 - place))
parity-set (suc (suc (suc which))) bytes place byte few low difference = absurd (omega (arith, few))

-- what a place gives to a parity
abbrev pub place_share : ℕ → List ℕ → ℕ → ℕ
place_share which bytes place = product (weight which (column_point (length bytes) place)) (slice_index bytes place)

-- A parity lacks the share of a place that is cleared.
cleared_one : (which : ℕ) (bytes : List ℕ) (place : ℕ) → which < 3 → place < length bytes → slice_index bytes place < 256
    → parity_byte which (slice_set bytes place 0) ≡ bit_xor (parity_byte which bytes) (place_share which bytes place)
cleared_one which bytes place few low byte =
    let difference : bit_xor 0 (slice_index bytes place) ≡ slice_index bytes place = xor_zero_l (slice_index bytes place) in
    parity-set which bytes place 0 few low (rw difference byte)
    ∙ ap (λ (k : ℕ). bit_xor (parity_byte which bytes) (product (weight which (column_point (length bytes) place)) k)) difference

-- The share of a place is the same when another one is cleared.
other_share : (which : ℕ) (bytes : List ℕ) (place other : ℕ) → other ≢ place → place_share which (slice_set bytes place 0) other ≡ place_share which bytes other
other_share which bytes place other differ =
    ap (λ (k : ℕ). product (weight which (column_point k other)) (slice_index (slice_set bytes place 0) other)) (length-set bytes place 0)
    ∙ ap (product (weight which (column_point (length bytes) other))) (get_or-set_other bytes place other 0 0 differ)

-- Another place is as it was.
still_byte : (bytes : List ℕ) (place other : ℕ) → other ≢ place → slice_index bytes other < 256 → slice_index (slice_set bytes place 0) other < 256
still_byte bytes place other differ byte = rw (get_or-set_other bytes place other 0 0 differ) byte

-- What is missing of a parity, once one place is cleared.
pub lacks_one : (which : ℕ) (bytes : List ℕ) (first : ℕ) → which < 3 → first < length bytes → slice_index bytes first < 256
    → bit_xor (parity_byte which (slice_set bytes first 0)) (parity_byte which bytes) ≡ place_share which bytes first
lacks_one which bytes first few low byte =
    ap (λ (k : ℕ). bit_xor k (parity_byte which bytes)) (cleared_one which bytes first few low byte) ∙ first_twice (parity_byte which bytes) (place_share which bytes first)

-- once two are
pub lacks_two : (which : ℕ) (bytes : List ℕ) (first second : ℕ) → which < 3 → first < length bytes → second < length bytes → second ≢ first
    → slice_index bytes first < 256 → slice_index bytes second < 256
    → bit_xor (parity_byte which (slice_set (slice_set bytes first 0) second 0)) (parity_byte which bytes)
    ≡ bit_xor (place_share which bytes first) (place_share which bytes second)
lacks_two which bytes first second few low high differ byte other =
    ap (λ (k : ℕ). bit_xor k (parity_byte which bytes))
    (cleared_one which (slice_set bytes first 0) second few (omega (arith, high, length-set bytes first 0)) (still_byte bytes first second differ other)
    ∙ ap (λ (k : ℕ). bit_xor k (place_share which (slice_set bytes first 0) second)) (cleared_one which bytes first few low byte)
    ∙ ap (bit_xor (bit_xor (parity_byte which bytes) (place_share which bytes first))) (other_share which bytes first second differ)
    ∙ xor_assoc (parity_byte which bytes) (place_share which bytes first) (place_share which bytes second))
    ∙ first_twice (parity_byte which bytes) (bit_xor (place_share which bytes first) (place_share which bytes second))

-- once three are
pub lacks_three : (which : ℕ) (bytes : List ℕ) (first second third : ℕ) → which < 3 → first < length bytes → second < length bytes → third < length bytes
    → second ≢ first → third ≢ first → third ≢ second
    → slice_index bytes first < 256 → slice_index bytes second < 256 → slice_index bytes third < 256
    → bit_xor (parity_byte which (slice_set (slice_set (slice_set bytes first 0) second 0) third 0)) (parity_byte which bytes)
    ≡ bit_xor (bit_xor (place_share which bytes first) (place_share which bytes second)) (place_share which bytes third)
lacks_three which bytes first second third few low high highest differ differ_first differ_second byte other last =
    ap (λ (k : ℕ). bit_xor k (parity_byte which bytes))
    (cleared_one which (slice_set (slice_set bytes first 0) second 0) third few
    (omega (arith, highest, length-set bytes first 0, length-set (slice_set bytes first 0) second 0)) (still_byte (slice_set bytes first 0) second third differ_second (still_byte bytes first third differ_first last))
    ∙ ap (bit_xor (parity_byte which (slice_set (slice_set bytes first 0) second 0)))
    (other_share which (slice_set bytes first 0) second third differ_second ∙ other_share which bytes first third differ_first))
    ∙ moved (parity_byte which (slice_set (slice_set bytes first 0) second 0)) (place_share which bytes third) (parity_byte which bytes)
    ∙ ap (λ (k : ℕ). bit_xor k (place_share which bytes third)) (lacks_two which bytes first second few low high differ byte other)
  where
    moved : (a b c : ℕ) → bit_xor (bit_xor a b) c ≡ bit_xor (bit_xor a c) b
    moved a b c = xor_assoc a b c ∙ ap (bit_xor a) (xor_comm b c) ∙ sym (xor_assoc a c b)
