-- Parity from the left: the sum so far is multiplied once, and the next byte added.
use Rattle.std.proofs.Common.{◌≡◌, ℕ, zero, suc, ◌+◌, ◌<◌, ◌≤◌, List, [], ◌∷◌, ◌++◌, length, refl, sym, ◌∙◌, ap, arith}
use Rattle.std.proofs.Common.{length-append}
use Rattle.std.specs.Prelude.{bit_xor, slice_index, slice_index_or, take}
use Rattle.std.proofs.Math.ListN.{get_or}
use Rattle.std.proofs.lemmas.List.{take_more, take_all}
use Rattle.std.proofs.lemmas.Grind.{same_number_lists}
use Rattle.std.specs.Int.Bits.{xor_assoc, xor_zero_l, xor_zero_r}
use Rattle.gf_parity.specs.Field.{product, power_of}
use Rattle.gf_parity.specs.Parity.{sum_of, weighted_sum, p_of, q_of, r_of, parity_byte, bytes_at, parity_from}
use Rattle.gf_parity.specs.Parity.{parity_column}
use Rattle.gf_parity.proofs.Laws.{product_assoc, product_below, product_zero}
use Rattle.gf_parity.proofs.Linear.{product-xor_right}

-- Powers of a byte are bytes.
pub power_below : (weight power : ℕ) → weight < 256 → power_of weight power < 256
power_below weight zero low = omega arith
power_below weight (suc power) low = product_below weight (power_of weight power) low

pub sum_of-append : (bytes : List ℕ) (byte : ℕ) → sum_of (bytes ++ byte ∷ []) ≡ bit_xor (sum_of bytes) byte
sum_of-append [] byte = xor_zero_r byte ∙ sym (xor_zero_l byte)
sum_of-append (first ∷ bytes) byte =
    ap (λ (k : ℕ). bit_xor first k) (sum_of-append bytes byte) ∙ sym (xor_assoc first (sum_of bytes) byte)

-- One byte more doubles, or quadruples, the weights of those before.
pub weighted_sum-append : (weight : ℕ) (bytes : List ℕ) (byte : ℕ) → weight < 256
    → weighted_sum weight (bytes ++ byte ∷ []) ≡ bit_xor (product weight (weighted_sum weight bytes)) (product 1 byte)
weighted_sum-append weight [] byte low =
    xor_zero_r (product 1 byte) ∙ sym (ap (λ (k : ℕ). bit_xor k (product 1 byte)) (product_zero weight) ∙ xor_zero_l (product 1 byte))
weighted_sum-append weight (first ∷ bytes) byte low =
    let longer : length (bytes ++ byte ∷ []) ≡ suc (length bytes) = length-append bytes (byte ∷ []) ∙ omega arith in
    ap (λ (k : ℕ). bit_xor (product (power_of weight k) first) (weighted_sum weight (bytes ++ byte ∷ []))) longer
    ∙ ap (λ (k : ℕ). bit_xor k (weighted_sum weight (bytes ++ byte ∷ []))) (product_assoc weight (power_of weight (length bytes)) first low (power_below weight (length bytes) low))
    ∙ ap (λ (k : ℕ). bit_xor (product weight (product (power_of weight (length bytes)) first)) k) (weighted_sum-append weight bytes byte low)
    ∙ sym (xor_assoc (product weight (product (power_of weight (length bytes)) first)) (product weight (weighted_sum weight bytes)) (product 1 byte))
    ∙ ap (λ (k : ℕ). bit_xor k (product 1 byte)) (sym (product-xor_right weight (product (power_of weight (length bytes)) first) (weighted_sum weight bytes)))

-- the bytes of one column more
pub bytes_at-append : (offset : ℕ) (columns : List (List ℕ)) (column : List ℕ)
    → bytes_at offset (columns ++ column ∷ []) ≡ bytes_at offset columns ++ slice_index column offset ∷ []
bytes_at-append offset [] column = refl
bytes_at-append offset (first ∷ columns) column = ap (λ (k : List ℕ). slice_index first offset ∷ k) (bytes_at-append offset columns column)

pub parity_from-at : (which offset more at : ℕ) (columns : List (List ℕ)) → at < more
    → slice_index (parity_from which offset more columns) at ≡ parity_byte which (bytes_at (offset + at) columns)
parity_from-at which offset zero at columns low = absurd (omega (arith, low))
parity_from-at which offset (suc more) zero columns low =
    let here : offset ≡ offset + 0 = omega arith in ap (λ (k : ℕ). parity_byte which (bytes_at k columns)) here
parity_from-at which offset (suc more) (suc at) columns low =
    let here : offset + 1 + at ≡ offset + suc at = omega arith in
    parity_from-at which (offset + 1) more at columns (omega (arith, low)) ∙ ap (λ (k : ℕ). parity_byte which (bytes_at k columns)) here

pub parity_from-length : (which offset more : ℕ) (columns : List (List ℕ)) → length (parity_from which offset more columns) ≡ more
parity_from-length which offset zero columns = refl
parity_from-length which offset (suc more) columns = ap suc (parity_from-length which (offset + 1) more columns)

-- ---- the three parities, column by column

pub p_none : (at : ℕ) → p_of (bytes_at at []) ≡ 0
unfolding p_of
p_none at = refl

pub q_none : (at : ℕ) → q_of (bytes_at at []) ≡ 0
unfolding q_of
q_none at = refl

pub r_none : (at : ℕ) → r_of (bytes_at at []) ≡ 0
unfolding r_of
r_none at = refl

-- the columns before one, and it
one_more : (at index : ℕ) (content : List (List ℕ)) (column : List ℕ) → index < length content
    → bytes_at at (take (index + 1) content) ≡ bytes_at at (take index content) ++ slice_index (slice_index_or content index column) at ∷ []
one_more at index content column low =
    ap (bytes_at at) (take_more content index column low) ∙ bytes_at-append at (take index content) (slice_index_or content index column)

pub p_more : (at index sum : ℕ) (content : List (List ℕ)) (column : List ℕ) → index < length content
    → sum ≡ p_of (bytes_at at (take index content))
    → bit_xor sum (slice_index (slice_index_or content index column) at) ≡ p_of (bytes_at at (take (index + 1) content))
unfolding p_of
p_more at index sum content column low so_far =
    ap (λ (k : ℕ). bit_xor k (slice_index (slice_index_or content index column) at)) so_far
    ∙ sym (sum_of-append (bytes_at at (take index content)) (slice_index (slice_index_or content index column) at))
    ∙ ap sum_of (sym (one_more at index content column low))

pub q_more : (at index sum : ℕ) (content : List (List ℕ)) (column : List ℕ) → index < length content
    → sum ≡ q_of (bytes_at at (take index content))
    → bit_xor (product 2 sum) (product 1 (slice_index (slice_index_or content index column) at)) ≡ q_of (bytes_at at (take (index + 1) content))
unfolding q_of
q_more at index sum content column low so_far =
    ap (λ (k : ℕ). bit_xor (product 2 k) (product 1 (slice_index (slice_index_or content index column) at))) so_far
    ∙ sym (weighted_sum-append 2 (bytes_at at (take index content)) (slice_index (slice_index_or content index column) at) (omega arith))
    ∙ ap (weighted_sum 2) (sym (one_more at index content column low))

pub r_more : (at index sum : ℕ) (content : List (List ℕ)) (column : List ℕ) → index < length content
    → sum ≡ r_of (bytes_at at (take index content))
    → bit_xor (product 4 sum) (product 1 (slice_index (slice_index_or content index column) at)) ≡ r_of (bytes_at at (take (index + 1) content))
unfolding r_of
r_more at index sum content column low so_far =
    ap (λ (k : ℕ). bit_xor (product 4 k) (product 1 (slice_index (slice_index_or content index column) at))) so_far
    ∙ sym (weighted_sum-append 4 (bytes_at at (take index content)) (slice_index (slice_index_or content index column) at) (omega arith))
    ∙ ap (weighted_sum 4) (sym (one_more at index content column low))

-- A column whose bytes are the parity of all columns is the parity column.
pub is_parity_column : (which index : ℕ) (out : List ℕ) (content : List (List ℕ)) → length out ≡ 512 → length content ≤ index
    → ((at : ℕ) → at < 512 → get_or out at 0 ≡ parity_byte which (bytes_at at (take index content)))
    → out ≡ parity_column which content
unfolding parity_column
is_parity_column which index out content long all bytes =
    same_number_lists out (parity_from which 0 512 content) (long ∙ sym (parity_from-length which 0 512 content))
    (λ at low. let few : at < 512 = omega (arith, low, long) in
    bytes at few ∙ ap (λ (k : List (List ℕ)). parity_byte which (bytes_at at k)) (take_all index content all)
    ∙ ap (λ (k : ℕ). parity_byte which (bytes_at k content)) (plus at) ∙ sym (parity_from-at which 0 512 at content few))
  where
    plus : (at : ℕ) → at ≡ 0 + at
    plus at = omega arith

-- A byte of a parity column is the parity of the bytes there.
pub parity_column-at : (which at : ℕ) (content : List (List ℕ)) → at < 512
    → slice_index (parity_column which content) at ≡ parity_byte which (bytes_at at content)
unfolding parity_column
parity_column-at which at content low =
    let here : 0 + at ≡ at = omega arith in
    parity_from-at which 0 512 at content low ∙ ap (λ (k : ℕ). parity_byte which (bytes_at k content)) here

pub length-parity_column : (which : ℕ) (content : List (List ℕ)) → length (parity_column which content) ≡ 512
unfolding parity_column
length-parity_column which content = parity_from-length which 0 512 content

-- The same, of all columns.
pub is_parity_column_whole : (which : ℕ) (out : List ℕ) (content : List (List ℕ)) → length out ≡ 512
    → ((at : ℕ) → at < 512 → get_or out at 0 ≡ parity_byte which (bytes_at at content)) → out ≡ parity_column which content
is_parity_column_whole which out content long bytes =
    is_parity_column which (length content) out content long (omega arith)
    (λ at low. bytes at low ∙ ap (λ (k : List (List ℕ)). parity_byte which (bytes_at at k)) (sym (take_all (length content) content (omega arith))))
