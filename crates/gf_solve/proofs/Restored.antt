-- A row's content with gaps: what parities lack of it, and how the gaps are closed.
use Rattle.std.proofs.Common.{◌≡◌, ◌≢◌, ◌⊎◌, ℕ, zero, suc, ◌<◌, List, [], ◌∷◌, length, refl, sym, ◌∙◌, ap, subst, arith}
use Rattle.std.proofs.Common.{⊎_elim}
use Rattle.std.specs.Prelude.{bit_xor, slice_index, slice_index_or, slice_set, replicate}
use Rattle.std.proofs.lemmas.Bool.{cases_lt, cases_eq}
use Rattle.std.proofs.lemmas.Grind.{same_number_lists}
use Rattle.std.proofs.lemmas.List.{length-set, get_or-set_same, get_or-set_other, get_or_past, ext_get_or}
use Rattle.gf_parity.specs.Field.{product}
use Rattle.gf_parity.specs.Parity.{parity_byte, parity_column, bytes_at}
use Rattle.gf_parity.proofs.Horner.{parity_column-at}
use Rattle.gf_solve.specs.declared.gaps.Gaps.TheVariants.{One, Two, Three}
use Rattle.gf_solve.specs.Weight.{weight, column_point, share, two_shares, three_shares}
use Rattle.gf_solve.specs.Row.{IsSector, AreSectors}
use Rattle.gf_solve.specs.Gaps.{IsGap, AgreeBut}
use Rattle.gf_solve.proofs.Weights.{place_share, lacks_one, lacks_two, lacks_three}

-- ---- columns as lists

-- A gap is closed.
pub closed : (gap rest : ℕ → Type 0) (was columns : List (List ℕ)) (place : ℕ) (column : List ℕ) → place < length was → AgreeBut gap was columns
    → column ≡ slice_index_or was place [] → ((k : ℕ) → gap k → (k ≡ place) ⊎ rest k) → AgreeBut rest was (slice_set columns place column)
closed gap rest was columns place column low agree is splits = record {
  long = length-set columns place column ∙ agree.long;
  there = λ k below no_rest.
      ⊎_elim (λ same. ap (λ (n : ℕ). slice_index_or (slice_set columns place column) n []) same ∙ get_or-set_same columns place column [] (omega (arith, low, agree.long)) ∙ is
      ∙ ap (λ (n : ℕ). slice_index_or was n []) (sym same))
      (λ differs. get_or-set_other columns place k column [] differs ∙ agree.there k below (λ there. ⊎_elim differs no_rest (splits k there)))
      (cases_eq k place);
}

-- A gap may hold anything.
pub emptied : (gap : ℕ → Type 0) (was columns : List (List ℕ)) (place : ℕ) (column : List ℕ) → AgreeBut gap was columns → gap place
    → AgreeBut gap was (slice_set columns place column)
emptied gap was columns place column agree here = record {
  long = length-set columns place column ∙ agree.long;
  there = λ k below no_gap.
      ⊎_elim (λ same. absurd (no_gap (subst gap (sym same) here)))
      (λ differs. get_or-set_other columns place k column [] differs ∙ agree.there k below no_gap) (cases_eq k place);
}

-- Without a gap the columns are as they were.
pub no_gap_left : (was columns : List (List ℕ)) → AgreeBut (λ (k : ℕ). ⊥) was columns → columns ≡ was
no_gap_left was columns agree = ext_get_or [] columns was agree.long (λ k low. agree.there k (omega (arith, low, agree.long)) (λ none. none))

-- Sectors with the same bytes are the same.
pub same_sectors : (column was : List ℕ) → length column ≡ 512 → IsSector was → ((at : ℕ) → at < 512 → slice_index column at ≡ slice_index was at) → column ≡ was
same_sectors column was wide sector bytes = same_number_lists column was (wide ∙ sym sector.wide) (λ at low. bytes at (omega (arith, low, wide)))

-- ---- bytes at one offset

pub length-bytes_at : (at : ℕ) (columns : List (List ℕ)) → length (bytes_at at columns) ≡ length columns
length-bytes_at at [] = refl
length-bytes_at at (column ∷ columns) = ap suc (length-bytes_at at columns)

pub bytes_at-get : (at : ℕ) (columns : List (List ℕ)) (k : ℕ) → slice_index (bytes_at at columns) k ≡ slice_index (slice_index_or columns k []) at
bytes_at-get at [] k = refl
bytes_at-get at (column ∷ columns) zero = refl
bytes_at-get at (column ∷ columns) (suc k) = bytes_at-get at columns k

-- All bytes of sectors are bytes.
pub all_bytes : (columns : List (List ℕ)) → AreSectors columns → (at k : ℕ) → slice_index (bytes_at at columns) k < 256
all_bytes columns sectors at k =
    rw (bytes_at-get at columns k) (⊎_elim (λ low. (sectors.each k low).bytes at) (λ past. rw (get_or_past columns k [] past) (omega arith)) (cases_lt k (length columns)))

-- A column's byte is one of the bytes at its offset.
byte_is : (at : ℕ) (columns : List (List ℕ)) (k : ℕ) → slice_index (slice_index_or columns k []) at < 256 → slice_index (bytes_at at columns) k < 256
byte_is at columns k byte = rw (bytes_at-get at columns k) byte

-- A run of zeros has nothing but zeros.
pub zero_there : (count at : ℕ) → slice_index (replicate count 0) at ≡ 0
zero_there zero at = refl
zero_there (suc count) zero = refl
zero_there (suc count) (suc at) = zero_there count at

zero_same : (bytes : List ℕ) (place : ℕ) → slice_index (slice_set bytes place 0) place ≡ 0
zero_same [] place = refl
zero_same (byte ∷ bytes) zero = refl
zero_same (byte ∷ bytes) (suc place) = zero_same bytes place

zero_kept : (bytes : List ℕ) (place k : ℕ) → slice_index bytes k ≡ 0 → slice_index (slice_set bytes place 0) k ≡ 0
zero_kept [] place k none = none
zero_kept (byte ∷ bytes) zero zero none = refl
zero_kept (byte ∷ bytes) zero (suc k) none = none
zero_kept (byte ∷ bytes) (suc place) zero none = none
zero_kept (byte ∷ bytes) (suc place) (suc k) none = zero_kept bytes place k none

-- What a parity lacks of cleared columns, by what the bytes are and were.
lack_by_bytes : (which at : ℕ) (was cleared : List (List ℕ)) (column bytes : List ℕ) → at < 512 → column ≡ parity_column which was → bytes_at at cleared ≡ bytes
    → bit_xor (parity_byte which (bytes_at at cleared)) (slice_index column at) ≡ bit_xor (parity_byte which bytes) (parity_byte which (bytes_at at was))
lack_by_bytes which at was cleared column bytes low parity_is bytes_are =
    ap (λ (k : List ℕ). bit_xor (parity_byte which k) (slice_index column at)) bytes_are
    ∙ ap (λ (k : List ℕ). bit_xor (parity_byte which bytes) (slice_index k at)) parity_is ∙ ap (bit_xor (parity_byte which bytes)) (parity_column-at which at was low)

-- A place's share, by its column.
share_is : (which at : ℕ) (was : List (List ℕ)) (place : ℕ)
    → place_share which (bytes_at at was) place ≡ share which (column_point (length was) place) (slice_index (slice_index_or was place []) at)
share_is which at was place =
    ap (λ (k : ℕ). product (weight which (column_point k place)) (slice_index (bytes_at at was) place)) (length-bytes_at at was)
    ∙ ap (product (weight which (column_point (length was) place))) (bytes_at-get at was place)

-- the bytes of cleared columns, one by one
byte_there : (gap : ℕ → Type 0) (at : ℕ) (was cleared : List (List ℕ)) (k : ℕ) → AgreeBut gap was cleared → k < length was → (gap k → ⊥)
    → slice_index (bytes_at at cleared) k ≡ slice_index (bytes_at at was) k
byte_there gap at was cleared k agree low no_gap =
    bytes_at-get at cleared k ∙ ap (λ (c : List ℕ). slice_index c at) (agree.there k low no_gap) ∙ sym (bytes_at-get at was k)

byte_cleared : (at : ℕ) (cleared : List (List ℕ)) (k : ℕ) → slice_index (slice_index_or cleared k []) at ≡ 0 → slice_index (bytes_at at cleared) k ≡ 0
byte_cleared at cleared k none = bytes_at-get at cleared k ∙ none

-- ---- what a parity lacks

pub lack_of_one : (which at first : ℕ) (was cleared : List (List ℕ)) (column : List ℕ) → which < 3 → at < 512
    → slice_index (slice_index_or was first []) at < 256 → first < length was
    → AgreeBut (IsGap (One first)) was cleared → slice_index (slice_index_or cleared first []) at ≡ 0 → column ≡ parity_column which was
    → bit_xor (parity_byte which (bytes_at at cleared)) (slice_index column at)
    ≡ share which (column_point (length was) first) (slice_index (slice_index_or was first []) at)
lack_of_one which at first was cleared column few low byte first_in agree none parity_is =
    lack_by_bytes which at was cleared column (slice_set (bytes_at at was) first 0) low parity_is bytes
    ∙ lacks_one which (bytes_at at was) first few (omega (arith, first_in, length-bytes_at at was)) (byte_is at was first byte) ∙ share_is which at was first
  where
    bytes : bytes_at at cleared ≡ slice_set (bytes_at at was) first 0
    bytes =
        same_number_lists (bytes_at at cleared) (slice_set (bytes_at at was) first 0)
        (length-bytes_at at cleared ∙ agree.long ∙ sym (length-set (bytes_at at was) first 0 ∙ length-bytes_at at was))
        (λ k k_in.
        ⊎_elim (λ same. ap (slice_index (bytes_at at cleared)) same ∙ byte_cleared at cleared first none ∙ sym (zero_same (bytes_at at was) first)
        ∙ ap (slice_index (slice_set (bytes_at at was) first 0)) (sym same))
        (λ differs. byte_there (IsGap (One first)) at was cleared k agree (omega (arith, k_in, length-bytes_at at cleared, agree.long)) differs
        ∙ sym (get_or-set_other (bytes_at at was) first k 0 0 differs)) (cases_eq k first))

pub lack_of_two : (which at first second : ℕ) (was cleared : List (List ℕ)) (column : List ℕ) → which < 3 → at < 512
    → slice_index (slice_index_or was first []) at < 256 → slice_index (slice_index_or was second []) at < 256 → first < length was
    → second < length was → second ≢ first
    → AgreeBut (IsGap (Two first second)) was cleared → slice_index (slice_index_or cleared first []) at ≡ 0 → slice_index (slice_index_or cleared second []) at ≡ 0
    → column ≡ parity_column which was
    → bit_xor (parity_byte which (bytes_at at cleared)) (slice_index column at)
    ≡ two_shares which (column_point (length was) first) (column_point (length was) second) (slice_index (slice_index_or was first []) at) (slice_index (slice_index_or was second []) at)
lack_of_two which at first second was cleared column few low byte other first_in second_in differ agree none_first none_second parity_is =
    lack_by_bytes which at was cleared column (slice_set (slice_set (bytes_at at was) first 0) second 0) low parity_is bytes
    ∙ lacks_two which (bytes_at at was) first second few (omega (arith, first_in, length-bytes_at at was)) (omega (arith, second_in, length-bytes_at at was)) differ (byte_is at was first byte) (byte_is at was second other)
    ∙ ap (λ (k : ℕ). bit_xor k (place_share which (bytes_at at was) second)) (share_is which at was first)
    ∙ ap (bit_xor (share which (column_point (length was) first) (slice_index (slice_index_or was first []) at))) (share_is which at was second)
  where
    bytes : bytes_at at cleared ≡ slice_set (slice_set (bytes_at at was) first 0) second 0
    bytes =
        same_number_lists (bytes_at at cleared) (slice_set (slice_set (bytes_at at was) first 0) second 0)
        (length-bytes_at at cleared ∙ agree.long ∙ sym (length-set (slice_set (bytes_at at was) first 0) second 0 ∙ length-set (bytes_at at was) first 0 ∙ length-bytes_at at was))
        (λ k k_in.
        ⊎_elim (λ same. ap (slice_index (bytes_at at cleared)) same ∙ byte_cleared at cleared second none_second ∙ sym (zero_same (slice_set (bytes_at at was) first 0) second)
        ∙ ap (slice_index (slice_set (slice_set (bytes_at at was) first 0) second 0)) (sym same))
        (λ no_second. ⊎_elim (λ same. ap (slice_index (bytes_at at cleared)) same ∙ byte_cleared at cleared first none_first
        ∙ sym (zero_kept (slice_set (bytes_at at was) first 0) second first (zero_same (bytes_at at was) first))
        ∙ ap (slice_index (slice_set (slice_set (bytes_at at was) first 0) second 0)) (sym same))
        (λ no_first. byte_there (IsGap (Two first second)) at was cleared k agree (omega (arith, k_in, length-bytes_at at cleared, agree.long)) (λ is. ⊎_elim no_first no_second is)
        ∙ sym (get_or-set_other (bytes_at at was) first k 0 0 no_first) ∙ sym (get_or-set_other (slice_set (bytes_at at was) first 0) second k 0 0 no_second))
        (cases_eq k first)) (cases_eq k second))

pub lack_of_three : (which at first second third : ℕ) (was cleared : List (List ℕ)) (column : List ℕ) → which < 3 → at < 512
    → slice_index (slice_index_or was first []) at < 256 → slice_index (slice_index_or was second []) at < 256 → slice_index (slice_index_or was third []) at < 256
    → first < length was → second < length was → third < length was → second ≢ first → third ≢ first → third ≢ second
    → AgreeBut (IsGap (Three first second third)) was cleared
    → slice_index (slice_index_or cleared first []) at ≡ 0 → slice_index (slice_index_or cleared second []) at ≡ 0 → slice_index (slice_index_or cleared third []) at ≡ 0
    → column ≡ parity_column which was
    → bit_xor (parity_byte which (bytes_at at cleared)) (slice_index column at)
    ≡ three_shares which (column_point (length was) first) (column_point (length was) second) (column_point (length was) third)
    (slice_index (slice_index_or was first []) at) (slice_index (slice_index_or was second []) at) (slice_index (slice_index_or was third []) at)
lack_of_three which at first second third was cleared column few low byte other last first_in second_in third_in differ differ_first differ_second agree none_first none_second none_third parity_is =
    lack_by_bytes which at was cleared column (slice_set (slice_set (slice_set (bytes_at at was) first 0) second 0) third 0) low parity_is bytes
    ∙ lacks_three which (bytes_at at was) first second third few (omega (arith, first_in, length-bytes_at at was)) (omega (arith, second_in, length-bytes_at at was))
    (omega (arith, third_in, length-bytes_at at was)) differ differ_first differ_second (byte_is at was first byte) (byte_is at was second other) (byte_is at was third last)
    ∙ ap (λ (k : ℕ). bit_xor (bit_xor k (place_share which (bytes_at at was) second)) (place_share which (bytes_at at was) third)) (share_is which at was first)
    ∙ ap (λ (k : ℕ). bit_xor (bit_xor (share which (column_point (length was) first) (slice_index (slice_index_or was first []) at)) k) (place_share which (bytes_at at was) third)) (share_is which at was second)
    ∙ ap (bit_xor (two_shares which (column_point (length was) first) (column_point (length was) second) (slice_index (slice_index_or was first []) at) (slice_index (slice_index_or was second []) at))) (share_is which at was third)
  where
    bytes : bytes_at at cleared ≡ slice_set (slice_set (slice_set (bytes_at at was) first 0) second 0) third 0
    bytes =
        same_number_lists (bytes_at at cleared) (slice_set (slice_set (slice_set (bytes_at at was) first 0) second 0) third 0)
        (length-bytes_at at cleared ∙ agree.long ∙ sym (length-set (slice_set (slice_set (bytes_at at was) first 0) second 0) third 0 ∙ length-set (slice_set (bytes_at at was) first 0) second 0 ∙ length-set (bytes_at at was) first 0 ∙ length-bytes_at at was))
        (λ k k_in.
        ⊎_elim (λ same. ap (slice_index (bytes_at at cleared)) same ∙ byte_cleared at cleared third none_third ∙ sym (zero_same (slice_set (slice_set (bytes_at at was) first 0) second 0) third)
        ∙ ap (slice_index (slice_set (slice_set (slice_set (bytes_at at was) first 0) second 0) third 0)) (sym same))
        (λ no_third. ⊎_elim (λ same. ap (slice_index (bytes_at at cleared)) same ∙ byte_cleared at cleared second none_second
        ∙ sym (zero_kept (slice_set (slice_set (bytes_at at was) first 0) second 0) third second (zero_same (slice_set (bytes_at at was) first 0) second))
        ∙ ap (slice_index (slice_set (slice_set (slice_set (bytes_at at was) first 0) second 0) third 0)) (sym same))
        (λ no_second. ⊎_elim (λ same. ap (slice_index (bytes_at at cleared)) same ∙ byte_cleared at cleared first none_first
        ∙ sym (zero_kept (slice_set (slice_set (bytes_at at was) first 0) second 0) third first (zero_kept (slice_set (bytes_at at was) first 0) second first (zero_same (bytes_at at was) first)))
        ∙ ap (slice_index (slice_set (slice_set (slice_set (bytes_at at was) first 0) second 0) third 0)) (sym same))
        (λ no_first. byte_there (IsGap (Three first second third)) at was cleared k agree (omega (arith, k_in, length-bytes_at at cleared, agree.long))
        (λ is. ⊎_elim no_first (λ rest. ⊎_elim no_second no_third rest) is)
        ∙ sym (get_or-set_other (bytes_at at was) first k 0 0 no_first) ∙ sym (get_or-set_other (slice_set (bytes_at at was) first 0) second k 0 0 no_second)
        ∙ sym (get_or-set_other (slice_set (slice_set (bytes_at at was) first 0) second 0) third k 0 0 no_third))
        (cases_eq k first)) (cases_eq k second)) (cases_eq k third))
