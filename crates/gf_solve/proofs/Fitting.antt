-- Gaps that are filled with what was singled out have the parities that it was told from.
use Rattle.std.proofs.Common.{◌≡◌, ◌≢◌, ℕ, zero, suc, ◌<◌, List, [], length, refl, sym, ◌∙◌, ap, arith, inl, inr}
use Rattle.std.specs.Prelude.{bit_xor, slice_index, slice_index_or, slice_set}
use Rattle.std.proofs.lemmas.Grind.{same_number_lists}
use Rattle.std.proofs.lemmas.List.{length-set, get_or-set_same, get_or-set_other}
use Rattle.gf_parity.specs.Parity.{parity_byte, parity_column, bytes_at}
use Rattle.gf_parity.proofs.Horner.{length-parity_column}
use Rattle.gf_solve.specs.declared.gaps.Gaps.TheVariants.{One, Two, Three}
use Rattle.gf_solve.specs.Weight.{column_point, share, two_shares, three_shares}
use Rattle.gf_solve.specs.Row.{IsParityOf}
use Rattle.gf_solve.specs.Gaps.{IsGap, AgreeBut}
use Rattle.gf_solve.proofs.Restored.{emptied, lack_of_one, lack_of_two, lack_of_three}
use Rattle.gf_solve.proofs.Filled.{IsLack, zero_at, zero_stays}
use Rattle.gf_solve.proofs.Returned.{cancel_first}

agree_self : (gap : ℕ → Type 0) (columns : List (List ℕ)) → AgreeBut gap columns columns
agree_self gap columns = record { long = refl; there = λ column low no_gap. refl }

agree_back : (gap : ℕ → Type 0) (was columns : List (List ℕ)) → AgreeBut gap was columns → AgreeBut gap columns was
agree_back gap was columns agree = record { long = sym agree.long; there = λ column low no_gap. sym (agree.there column (omega (arith, low, agree.long)) no_gap) }

-- Where a parity lacks as much of cleared columns as the column did, it is the column.
fits : (which : ℕ) (cleared new : List (List ℕ)) (parity lack : List ℕ) → length parity ≡ 512 → IsLack which cleared parity lack
    → ((at : ℕ) → at < 512 → bit_xor (parity_byte which (bytes_at at cleared)) (slice_index (parity_column which new) at) ≡ slice_index lack at)
    → parity ≡ parity_column which new
fits which cleared new parity lack long lacks same =
    same_number_lists parity (parity_column which new) (long ∙ sym (length-parity_column which new))
    (λ at low. let small : at < 512 = omega (arith, low, long) in
    cancel_first (parity_byte which (bytes_at at cleared)) (slice_index parity at) (slice_index (parity_column which new) at)
    (sym (lacks.byte at small) ∙ sym (same at small)))

-- what a column holds that was put to a place
put_there : (columns : List (List ℕ)) (place at : ℕ) (column : List ℕ) → place < length columns
    → slice_index (slice_index_or (slice_set columns place column) place []) at ≡ slice_index column at
put_there columns place at column low = ap (λ (k : List ℕ). slice_index k at) (get_or-set_same columns place column [] low)

put_elsewhere : (columns : List (List ℕ)) (place other at : ℕ) (column : List ℕ) → other ≢ place
    → slice_index (slice_index_or (slice_set columns place column) other []) at ≡ slice_index (slice_index_or columns other []) at
put_elsewhere columns place other at column differ = ap (λ (k : List ℕ). slice_index k at) (get_or-set_other columns place other column [] differ)

-- Three parities are each of them.
pub below_three : (content parities : List (List ℕ)) → IsParityOf content parities 0 → IsParityOf content parities 1 → IsParityOf content parities 2
    → (which : ℕ) → which < 3 → IsParityOf content parities which
below_three content parities p q r zero low = p
below_three content parities p q r (suc zero) low = q
below_three content parities p q r (suc (suc zero)) low = r
below_three content parities p q r (suc (suc (suc which))) low = absurd (omega (arith, low))

module _ (content : List (List ℕ)) (zeros : List ℕ) (blank : (k : ℕ) → slice_index zeros k ≡ 0) where
  pub fits_one : (which first x : ℕ) (parity lack solved : List ℕ) → which < 3 → first < length content → length parity ≡ 512
      → IsLack which (slice_set content first zeros) parity lack → x ≡ column_point (length content) first
      → ((at : ℕ) → at < 512 → slice_index solved at < 256)
      → ((at : ℕ) → at < 512 → share which x (slice_index solved at) ≡ slice_index lack at)
      → parity ≡ parity_column which (slice_set (slice_set content first zeros) first solved)
  fits_one which first x parity lack solved few first_in long lacks x_is bytes gives =
      fits which (slice_set content first zeros) (slice_set (slice_set content first zeros) first solved) parity lack long lacks
      (λ at low.
      lack_of_one which at first new cleared (parity_column which (slice_set (slice_set content first zeros) first solved)) few low (rw (byte at) (bytes at low))
      (omega (arith, first_in, wide))
      (agree_back (IsGap (One first)) cleared new (emptied (IsGap (One first)) cleared cleared first solved (agree_self (IsGap (One first)) cleared) refl))
      (zero_at content first at zeros first_in blank) refl
      ∙ ap (λ (k : ℕ). share which (column_point k first) (slice_index (slice_index_or new first []) at)) wide
      ∙ ap (λ (k : ℕ). share which k (slice_index (slice_index_or new first []) at)) (sym x_is)
      ∙ ap (share which x) (byte at) ∙ gives at low)
    where
      cleared : List (List ℕ)
      cleared = slice_set content first zeros

      new : List (List ℕ)
      new = slice_set (slice_set content first zeros) first solved

      wide : length (slice_set (slice_set content first zeros) first solved) ≡ length content
      wide = length-set (slice_set content first zeros) first solved ∙ length-set content first zeros

      byte : (at : ℕ) → slice_index (slice_index_or (slice_set (slice_set content first zeros) first solved) first []) at ≡ slice_index solved at
      byte at = put_there (slice_set content first zeros) first at solved (omega (arith, first_in, length-set content first zeros))

  pub fits_two : (which first second x y : ℕ) (parity lack first_found second_found : List ℕ) → which < 3 → first < second → second < length content → length parity ≡ 512
      → IsLack which (slice_set (slice_set content first zeros) second zeros) parity lack
      → x ≡ column_point (length content) first → y ≡ column_point (length content) second
      → ((at : ℕ) → at < 512 → (slice_index first_found at < 256) × (slice_index second_found at < 256))
      → ((at : ℕ) → at < 512 → two_shares which x y (slice_index first_found at) (slice_index second_found at) ≡ slice_index lack at)
      → parity ≡ parity_column which (slice_set (slice_set (slice_set (slice_set content first zeros) second zeros) first first_found) second second_found)
  fits_two which first second x y parity lack first_found second_found few ascend second_in long lacks x_is y_is bytes gives =
      fits which (slice_set (slice_set content first zeros) second zeros)
      (slice_set (slice_set (slice_set (slice_set content first zeros) second zeros) first first_found) second second_found) parity lack long lacks
      (λ at low.
      lack_of_two which at first second new cleared
      (parity_column which (slice_set (slice_set (slice_set (slice_set content first zeros) second zeros) first first_found) second second_found)) few low
      (rw (byte at) ((bytes at low).0)) (rw (other at) ((bytes at low).1))
      (omega (arith, ascend, second_in, wide)) (omega (arith, second_in, wide)) (λ same. apart (sym same)) agree (none_first at) (none_second at) refl
      ∙ ap (λ (k : ℕ). two_shares which (column_point k first) (column_point k second) (slice_index (slice_index_or new first []) at) (slice_index (slice_index_or new second []) at)) wide
      ∙ ap (λ (k : ℕ). two_shares which k (column_point (length content) second) (slice_index (slice_index_or new first []) at) (slice_index (slice_index_or new second []) at)) (sym x_is)
      ∙ ap (λ (k : ℕ). two_shares which x k (slice_index (slice_index_or new first []) at) (slice_index (slice_index_or new second []) at)) (sym y_is)
      ∙ ap (λ (k : ℕ). two_shares which x y k (slice_index (slice_index_or new second []) at)) (byte at)
      ∙ ap (two_shares which x y (slice_index first_found at)) (other at) ∙ gives at low)
    where
      cleared : List (List ℕ)
      cleared = slice_set (slice_set content first zeros) second zeros

      new : List (List ℕ)
      new = slice_set (slice_set (slice_set (slice_set content first zeros) second zeros) first first_found) second second_found

      wide_cleared : length (slice_set (slice_set content first zeros) second zeros) ≡ length content
      wide_cleared = length-set (slice_set content first zeros) second zeros ∙ length-set content first zeros

      wide : length (slice_set (slice_set (slice_set (slice_set content first zeros) second zeros) first first_found) second second_found) ≡ length content
      wide =
          length-set (slice_set (slice_set (slice_set content first zeros) second zeros) first first_found) second second_found
          ∙ length-set (slice_set (slice_set content first zeros) second zeros) first first_found ∙ wide_cleared

      apart : first ≢ second
      apart same = omega (arith, same, ascend)

      agree : AgreeBut (IsGap (Two first second)) (slice_set (slice_set (slice_set (slice_set content first zeros) second zeros) first first_found) second second_found)
          (slice_set (slice_set content first zeros) second zeros)
      agree =
          agree_back (IsGap (Two first second)) cleared new
          (emptied (IsGap (Two first second)) cleared (slice_set cleared first first_found) second second_found
          (emptied (IsGap (Two first second)) cleared cleared first first_found (agree_self (IsGap (Two first second)) cleared) (inl refl)) (inr refl))

      none_first : (at : ℕ) → slice_index (slice_index_or (slice_set (slice_set content first zeros) second zeros) first []) at ≡ 0
      none_first at = zero_stays (slice_set content first zeros) second first at zeros apart (zero_at content first at zeros (omega (arith, ascend, second_in)) blank)

      none_second : (at : ℕ) → slice_index (slice_index_or (slice_set (slice_set content first zeros) second zeros) second []) at ≡ 0
      none_second at = zero_at (slice_set content first zeros) second at zeros (omega (arith, second_in, length-set content first zeros)) blank

      byte : (at : ℕ) → slice_index (slice_index_or (slice_set (slice_set (slice_set (slice_set content first zeros) second zeros) first first_found) second second_found) first []) at
          ≡ slice_index first_found at
      byte at =
          put_elsewhere (slice_set (slice_set (slice_set content first zeros) second zeros) first first_found) second first at second_found apart
          ∙ put_there (slice_set (slice_set content first zeros) second zeros) first at first_found (omega (arith, ascend, second_in, wide_cleared))

      other : (at : ℕ) → slice_index (slice_index_or (slice_set (slice_set (slice_set (slice_set content first zeros) second zeros) first first_found) second second_found) second []) at
          ≡ slice_index second_found at
      other at =
          put_there (slice_set (slice_set (slice_set content first zeros) second zeros) first first_found) second at second_found
          (omega (arith, second_in, wide_cleared, length-set (slice_set (slice_set content first zeros) second zeros) first first_found))

  pub fits_three : (which first second third x y z : ℕ) (parity lack first_found second_found third_found : List ℕ) → which < 3 → first < second → second < third
      → third < length content → length parity ≡ 512
      → IsLack which (slice_set (slice_set (slice_set content first zeros) second zeros) third zeros) parity lack
      → x ≡ column_point (length content) first → y ≡ column_point (length content) second → z ≡ column_point (length content) third
      → ((at : ℕ) → at < 512 → (slice_index first_found at < 256) × (slice_index second_found at < 256) × (slice_index third_found at < 256))
      → ((at : ℕ) → at < 512 → three_shares which x y z (slice_index first_found at) (slice_index second_found at) (slice_index third_found at) ≡ slice_index lack at)
      → parity ≡ parity_column which
      (slice_set (slice_set (slice_set (slice_set (slice_set (slice_set content first zeros) second zeros) third zeros) first first_found) second second_found) third third_found)
  fits_three which first second third x y z parity lack first_found second_found third_found few ascend ascend_more third_in long lacks x_is y_is z_is bytes gives =
      fits which (slice_set (slice_set (slice_set content first zeros) second zeros) third zeros)
      (slice_set (slice_set (slice_set (slice_set (slice_set (slice_set content first zeros) second zeros) third zeros) first first_found) second second_found) third third_found)
      parity lack long lacks
      (λ at low.
      lack_of_three which at first second third new cleared
      (parity_column which (slice_set (slice_set (slice_set (slice_set (slice_set (slice_set content first zeros) second zeros) third zeros) first first_found) second second_found) third third_found))
      few low
      (rw (byte at) ((bytes at low).0)) (rw (other at) ((bytes at low).1)) (rw (last at) ((bytes at low).2))
      (omega (arith, ascend, ascend_more, third_in, wide)) (omega (arith, ascend_more, third_in, wide)) (omega (arith, third_in, wide))
      (λ same. first_second (sym same)) (λ same. first_third (sym same)) (λ same. second_third (sym same)) agree (none_first at) (none_second at) (none_third at) refl
      ∙ ap (λ (k : ℕ). three_shares which (column_point k first) (column_point k second) (column_point k third) (found at first) (found at second) (found at third)) wide
      ∙ ap (λ (k : ℕ). three_shares which k (column_point (length content) second) (column_point (length content) third) (found at first) (found at second) (found at third)) (sym x_is)
      ∙ ap (λ (k : ℕ). three_shares which x k (column_point (length content) third) (found at first) (found at second) (found at third)) (sym y_is)
      ∙ ap (λ (k : ℕ). three_shares which x y k (found at first) (found at second) (found at third)) (sym z_is)
      ∙ ap (λ (k : ℕ). three_shares which x y z k (found at second) (found at third)) (byte at)
      ∙ ap (λ (k : ℕ). three_shares which x y z (slice_index first_found at) k (found at third)) (other at)
      ∙ ap (three_shares which x y z (slice_index first_found at) (slice_index second_found at)) (last at) ∙ gives at low)
    where
      cleared : List (List ℕ)
      cleared = slice_set (slice_set (slice_set content first zeros) second zeros) third zeros

      new : List (List ℕ)
      new = slice_set (slice_set (slice_set (slice_set (slice_set (slice_set content first zeros) second zeros) third zeros) first first_found) second second_found) third third_found

      found : ℕ → ℕ → ℕ
      found at place = slice_index (slice_index_or new place []) at

      wide_cleared : length (slice_set (slice_set (slice_set content first zeros) second zeros) third zeros) ≡ length content
      wide_cleared = length-set (slice_set (slice_set content first zeros) second zeros) third zeros ∙ length-set (slice_set content first zeros) second zeros ∙ length-set content first zeros

      wide_first : length (slice_set (slice_set (slice_set (slice_set content first zeros) second zeros) third zeros) first first_found) ≡ length content
      wide_first = length-set cleared first first_found ∙ wide_cleared

      wide_second : length (slice_set (slice_set (slice_set (slice_set (slice_set content first zeros) second zeros) third zeros) first first_found) second second_found) ≡ length content
      wide_second = length-set (slice_set cleared first first_found) second second_found ∙ wide_first

      wide : length (slice_set (slice_set (slice_set (slice_set (slice_set (slice_set content first zeros) second zeros) third zeros) first first_found) second second_found) third third_found)
          ≡ length content
      wide = length-set (slice_set (slice_set cleared first first_found) second second_found) third third_found ∙ wide_second

      first_second : first ≢ second
      first_second same = omega (arith, same, ascend)

      first_third : first ≢ third
      first_third same = omega (arith, same, ascend, ascend_more)

      second_third : second ≢ third
      second_third same = omega (arith, same, ascend_more)

      agree : AgreeBut (IsGap (Three first second third))
          (slice_set (slice_set (slice_set (slice_set (slice_set (slice_set content first zeros) second zeros) third zeros) first first_found) second second_found) third third_found)
          (slice_set (slice_set (slice_set content first zeros) second zeros) third zeros)
      agree =
          agree_back (IsGap (Three first second third)) cleared new
          (emptied (IsGap (Three first second third)) cleared (slice_set (slice_set cleared first first_found) second second_found) third third_found
          (emptied (IsGap (Three first second third)) cleared (slice_set cleared first first_found) second second_found
          (emptied (IsGap (Three first second third)) cleared cleared first first_found (agree_self (IsGap (Three first second third)) cleared) (inl refl)) (inr (inl refl))) (inr (inr refl)))

      none_first : (at : ℕ) → slice_index (slice_index_or (slice_set (slice_set (slice_set content first zeros) second zeros) third zeros) first []) at ≡ 0
      none_first at =
          zero_stays (slice_set (slice_set content first zeros) second zeros) third first at zeros first_third
          (zero_stays (slice_set content first zeros) second first at zeros first_second (zero_at content first at zeros (omega (arith, ascend, ascend_more, third_in)) blank))

      none_second : (at : ℕ) → slice_index (slice_index_or (slice_set (slice_set (slice_set content first zeros) second zeros) third zeros) second []) at ≡ 0
      none_second at =
          zero_stays (slice_set (slice_set content first zeros) second zeros) third second at zeros second_third
          (zero_at (slice_set content first zeros) second at zeros (omega (arith, ascend_more, third_in, length-set content first zeros)) blank)

      none_third : (at : ℕ) → slice_index (slice_index_or (slice_set (slice_set (slice_set content first zeros) second zeros) third zeros) third []) at ≡ 0
      none_third at =
          zero_at (slice_set (slice_set content first zeros) second zeros) third at zeros
          (omega (arith, third_in, length-set content first zeros, length-set (slice_set content first zeros) second zeros)) blank

      byte : (at : ℕ) → found at first ≡ slice_index first_found at
      byte at =
          put_elsewhere (slice_set (slice_set cleared first first_found) second second_found) third first at third_found first_third
          ∙ put_elsewhere (slice_set cleared first first_found) second first at second_found first_second
          ∙ put_there cleared first at first_found (omega (arith, ascend, ascend_more, third_in, wide_cleared))

      other : (at : ℕ) → found at second ≡ slice_index second_found at
      other at =
          put_elsewhere (slice_set (slice_set cleared first first_found) second second_found) third second at third_found second_third
          ∙ put_there (slice_set cleared first first_found) second at second_found (omega (arith, ascend_more, third_in, wide_first))

      last : (at : ℕ) → found at third ≡ slice_index third_found at
      last at = put_there (slice_set (slice_set cleared first first_found) second second_found) third at third_found (omega (arith, third_in, wide_second))
