-- Gaps that are filled with what was singled out hold what they held.
use Rattle.std.proofs.Common.{◌≡◌, ◌≢◌, ℕ, ◌<◌, List, [], length, refl, sym, ◌∙◌, ap, arith, inl, inr}
use Rattle.std.specs.Prelude.{bit_xor, slice_index, slice_index_or, slice_set}
use Rattle.std.proofs.lemmas.List.{length-set, get_or-set_same, get_or-set_other}
use Rattle.gf_parity.specs.Parity.{parity_byte, parity_column, bytes_at}
use Rattle.gf_solve.specs.declared.gaps.Gaps.TheVariants.{One, Two, Three}
use Rattle.gf_solve.specs.Weight.{column_point, share, two_shares, three_shares}
use Rattle.gf_solve.specs.Row.{AreSectors}
use Rattle.gf_solve.specs.Gaps.{IsGap, AgreeBut}
use Rattle.gf_solve.proofs.Restored.{closed, emptied, no_gap_left, same_sectors, lack_of_one, lack_of_two}
use Rattle.gf_solve.proofs.Restored.{lack_of_three}

-- what one column's byte was
abbrev pub byte_of : List (List ℕ) → ℕ → ℕ → ℕ
byte_of was place at = slice_index (slice_index_or was place []) at

-- A column is what a parity lacks of some content.
pub record IsLack (which : ℕ) (content : List (List ℕ)) (parity lack : List ℕ) : Type 0 where
  pub byte : (at : ℕ) → at < 512 → slice_index lack at ≡ bit_xor (parity_byte which (bytes_at at content)) (slice_index parity at)

pub zero_at : (content : List (List ℕ)) (place at : ℕ) (zeros : List ℕ) → place < length content → ((k : ℕ) → slice_index zeros k ≡ 0)
    → slice_index (slice_index_or (slice_set content place zeros) place []) at ≡ 0
zero_at content place at zeros low none = ap (λ (c : List ℕ). slice_index c at) (get_or-set_same content place zeros [] low) ∙ none at

pub zero_stays : (content : List (List ℕ)) (place other at : ℕ) (zeros : List ℕ) → other ≢ place → slice_index (slice_index_or content other []) at ≡ 0
    → slice_index (slice_index_or (slice_set content place zeros) other []) at ≡ 0
zero_stays content place other at zeros differ none = ap (λ (c : List ℕ). slice_index c at) (get_or-set_other content place other zeros [] differ) ∙ none

module _ (was content : List (List ℕ)) (zeros : List ℕ) (sectors : AreSectors was) (blank : (k : ℕ) → slice_index zeros k ≡ 0) where
  pub filled_one : (which first x : ℕ) (parity lack solved : List ℕ) → which < 3 → first < length content
      → AgreeBut (IsGap (One first)) was content → parity ≡ parity_column which was → IsLack which (slice_set content first zeros) parity lack
      → x ≡ column_point (length content) first → length solved ≡ 512
      → ((at byte : ℕ) → at < 512 → byte < 256 → slice_index lack at ≡ share which x byte → slice_index solved at ≡ byte)
      → slice_set (slice_set content first zeros) first solved ≡ was
  filled_one which first x parity lack solved few first_in agree parity_is lacks x_is long found =
      no_gap_left was (slice_set cleared first solved)
      (closed (IsGap (One first)) (λ (k : ℕ). ⊥) was cleared first solved in_was empty (same_sectors solved (slice_index_or was first []) long (sectors.each first in_was) bytes) (λ k is. inl is))
    where
      cleared : List (List ℕ)
      cleared = slice_set content first zeros

      in_was : first < length was
      in_was = omega (arith, first_in, agree.long)

      empty : AgreeBut (IsGap (One first)) was (slice_set content first zeros)
      empty = emptied (IsGap (One first)) was content first zeros agree refl

      point : x ≡ column_point (length was) first
      point = x_is ∙ ap (λ (k : ℕ). column_point k first) agree.long

      bytes : (at : ℕ) → at < 512 → slice_index solved at ≡ byte_of was first at
      bytes at low =
          found at (byte_of was first at) low ((sectors.each first in_was).bytes at)
          (lacks.byte at low
          ∙ lack_of_one which at first was (slice_set content first zeros) parity few low ((sectors.each first in_was).bytes at) in_was empty (zero_at content first at zeros first_in blank) parity_is
          ∙ ap (λ (k : ℕ). share which k (byte_of was first at)) (sym point))

  pub filled_two : (first second sooner later x y : ℕ) (sooner_parity later_parity low high first_found second_found : List ℕ) → sooner < 3 → later < 3
      → first < second → second < length content
      → AgreeBut (IsGap (Two first second)) was content → sooner_parity ≡ parity_column sooner was → later_parity ≡ parity_column later was
      → IsLack sooner (slice_set (slice_set content first zeros) second zeros) sooner_parity low
      → IsLack later (slice_set (slice_set content first zeros) second zeros) later_parity high
      → x ≡ column_point (length content) first
      → y ≡ column_point (length content) second
      → length first_found ≡ 512 → length second_found ≡ 512
      → ((at one two : ℕ) → at < 512 → one < 256 → two < 256 → slice_index low at ≡ two_shares sooner x y one two → slice_index high at ≡ two_shares later x y one two
      → (slice_index first_found at ≡ one) × (slice_index second_found at ≡ two))
      → slice_set (slice_set (slice_set (slice_set content first zeros) second zeros) first first_found) second second_found ≡ was
  filled_two first second sooner later x y sooner_parity later_parity low high first_found second_found few_sooner few_later ascend second_in agree sooner_is later_is
      low_is high_is x_is y_is long_first long_second found =
      no_gap_left was (slice_set (slice_set cleared first first_found) second second_found)
      (closed (IsGap (One second)) (λ (k : ℕ). ⊥) was (slice_set cleared first first_found) second second_found second_was
      (closed (IsGap (Two first second)) (IsGap (One second)) was cleared first first_found first_was empty
      (same_sectors first_found (slice_index_or was first []) long_first (sectors.each first first_was) (λ at small. (bytes at small).0)) (λ k is. is))
      (same_sectors second_found (slice_index_or was second []) long_second (sectors.each second second_was) (λ at small. (bytes at small).1)) (λ k is. inl is))
    where
      cleared : List (List ℕ)
      cleared = slice_set (slice_set content first zeros) second zeros

      first_was : first < length was
      first_was = omega (arith, second_in, ascend, agree.long)

      second_was : second < length was
      second_was = omega (arith, second_in, agree.long)

      apart : second ≢ first
      apart same = omega (arith, same, ascend)

      empty : AgreeBut (IsGap (Two first second)) was (slice_set (slice_set content first zeros) second zeros)
      empty = emptied (IsGap (Two first second)) was (slice_set content first zeros) second zeros (emptied (IsGap (Two first second)) was content first zeros agree (inl refl)) (inr refl)

      none_first : (at : ℕ) → slice_index (slice_index_or (slice_set (slice_set content first zeros) second zeros) first []) at ≡ 0
      none_first at =
          zero_stays (slice_set content first zeros) second first at zeros (λ same. apart (sym same)) (zero_at content first at zeros (omega (arith, ascend, second_in)) blank)

      none_second : (at : ℕ) → slice_index (slice_index_or (slice_set (slice_set content first zeros) second zeros) second []) at ≡ 0
      none_second at = zero_at (slice_set content first zeros) second at zeros (omega (arith, second_in, length-set content first zeros)) blank

      shares : (which at : ℕ) → which < 3 → at < 512 → (parity lack : List ℕ) → parity ≡ parity_column which was
          → IsLack which (slice_set (slice_set content first zeros) second zeros) parity lack
          → slice_index lack at ≡ two_shares which x y (byte_of was first at) (byte_of was second at)
      shares which at few small parity lack parity_is lack_is =
          lack_is.byte at small
          ∙ lack_of_two which at first second was (slice_set (slice_set content first zeros) second zeros) parity few small ((sectors.each first first_was).bytes at) ((sectors.each second second_was).bytes at) first_was second_was apart empty
          (none_first at) (none_second at) parity_is
          ∙ ap (λ (k : ℕ). two_shares which k (column_point (length was) second) (byte_of was first at) (byte_of was second at)) (sym (x_is ∙ ap (λ (k : ℕ). column_point k first) agree.long))
          ∙ ap (λ (k : ℕ). two_shares which x k (byte_of was first at) (byte_of was second at)) (sym (y_is ∙ ap (λ (k : ℕ). column_point k second) agree.long))

      bytes : (at : ℕ) → at < 512 → (slice_index first_found at ≡ byte_of was first at) × (slice_index second_found at ≡ byte_of was second at)
      bytes at small =
          found at (byte_of was first at) (byte_of was second at) small ((sectors.each first first_was).bytes at) ((sectors.each second second_was).bytes at)
          (shares sooner at few_sooner small sooner_parity low sooner_is low_is) (shares later at few_later small later_parity high later_is high_is)

  pub filled_three : (first second third x y z : ℕ) (p_parity q_parity r_parity p q r first_found second_found third_found : List ℕ)
      → first < second → second < third → third < length content
      → AgreeBut (IsGap (Three first second third)) was content
      → p_parity ≡ parity_column 0 was → q_parity ≡ parity_column 1 was → r_parity ≡ parity_column 2 was
      → IsLack 0 (slice_set (slice_set (slice_set content first zeros) second zeros) third zeros) p_parity p
      → IsLack 1 (slice_set (slice_set (slice_set content first zeros) second zeros) third zeros) q_parity q
      → IsLack 2 (slice_set (slice_set (slice_set content first zeros) second zeros) third zeros) r_parity r
      → x ≡ column_point (length content) first
      → y ≡ column_point (length content) second
      → z ≡ column_point (length content) third
      → length first_found ≡ 512 → length second_found ≡ 512 → length third_found ≡ 512
      → ((at one two three : ℕ) → at < 512 → one < 256 → two < 256 → three < 256
      → slice_index p at ≡ three_shares 0 x y z one two three → slice_index q at ≡ three_shares 1 x y z one two three → slice_index r at ≡ three_shares 2 x y z one two three
      → (slice_index first_found at ≡ one) × (slice_index second_found at ≡ two) × (slice_index third_found at ≡ three))
      → slice_set (slice_set (slice_set (slice_set (slice_set (slice_set content first zeros) second zeros) third zeros) first first_found) second second_found) third third_found ≡ was
  filled_three first second third x y z p_parity q_parity r_parity p q r first_found second_found third_found ascend ascend_more third_in agree p_parity_is q_parity_is r_parity_is
      p_is q_is r_is x_is y_is z_is long_first long_second long_third found =
      no_gap_left was (slice_set (slice_set (slice_set cleared first first_found) second second_found) third third_found)
      (closed (IsGap (One third)) (λ (k : ℕ). ⊥) was (slice_set (slice_set cleared first first_found) second second_found) third third_found third_was
      (closed (IsGap (Two second third)) (IsGap (One third)) was (slice_set cleared first first_found) second second_found second_was
      (closed (IsGap (Three first second third)) (IsGap (Two second third)) was cleared first first_found first_was empty
      (same_sectors first_found (slice_index_or was first []) long_first (sectors.each first first_was) (λ at small. (bytes at small).0)) (λ k is. is))
      (same_sectors second_found (slice_index_or was second []) long_second (sectors.each second second_was) (λ at small. (bytes at small).1)) (λ k is. is))
      (same_sectors third_found (slice_index_or was third []) long_third (sectors.each third third_was) (λ at small. (bytes at small).2)) (λ k is. inl is))
    where
      cleared : List (List ℕ)
      cleared = slice_set (slice_set (slice_set content first zeros) second zeros) third zeros

      first_was : first < length was
      first_was = omega (arith, third_in, ascend, ascend_more, agree.long)

      second_was : second < length was
      second_was = omega (arith, third_in, ascend_more, agree.long)

      third_was : third < length was
      third_was = omega (arith, third_in, agree.long)

      second_first : second ≢ first
      second_first same = omega (arith, same, ascend)

      third_first : third ≢ first
      third_first same = omega (arith, same, ascend, ascend_more)

      third_second : third ≢ second
      third_second same = omega (arith, same, ascend_more)

      empty : AgreeBut (IsGap (Three first second third)) was (slice_set (slice_set (slice_set content first zeros) second zeros) third zeros)
      empty =
          emptied (IsGap (Three first second third)) was (slice_set (slice_set content first zeros) second zeros) third zeros
          (emptied (IsGap (Three first second third)) was (slice_set content first zeros) second zeros
          (emptied (IsGap (Three first second third)) was content first zeros agree (inl refl)) (inr (inl refl))) (inr (inr refl))

      none_first : (at : ℕ) → slice_index (slice_index_or (slice_set (slice_set (slice_set content first zeros) second zeros) third zeros) first []) at ≡ 0
      none_first at =
          zero_stays (slice_set (slice_set content first zeros) second zeros) third first at zeros (λ same. third_first (sym same))
          (zero_stays (slice_set content first zeros) second first at zeros (λ same. second_first (sym same)) (zero_at content first at zeros (omega (arith, ascend, ascend_more, third_in)) blank))

      none_second : (at : ℕ) → slice_index (slice_index_or (slice_set (slice_set (slice_set content first zeros) second zeros) third zeros) second []) at ≡ 0
      none_second at =
          zero_stays (slice_set (slice_set content first zeros) second zeros) third second at zeros (λ same. third_second (sym same))
          (zero_at (slice_set content first zeros) second at zeros (omega (arith, ascend_more, third_in, length-set content first zeros)) blank)

      none_third : (at : ℕ) → slice_index (slice_index_or (slice_set (slice_set (slice_set content first zeros) second zeros) third zeros) third []) at ≡ 0
      none_third at =
          zero_at (slice_set (slice_set content first zeros) second zeros) third at zeros
          (omega (arith, third_in, length-set content first zeros, length-set (slice_set content first zeros) second zeros)) blank

      shares : (which at : ℕ) → which < 3 → at < 512 → (parity lack : List ℕ) → parity ≡ parity_column which was
          → IsLack which (slice_set (slice_set (slice_set content first zeros) second zeros) third zeros) parity lack
          → slice_index lack at ≡ three_shares which x y z (byte_of was first at) (byte_of was second at) (byte_of was third at)
      shares which at few small parity lack parity_is lack_is =
          lack_is.byte at small
          ∙ lack_of_three which at first second third was (slice_set (slice_set (slice_set content first zeros) second zeros) third zeros) parity few small ((sectors.each first first_was).bytes at) ((sectors.each second second_was).bytes at) ((sectors.each third third_was).bytes at)
          first_was second_was third_was second_first third_first third_second empty (none_first at) (none_second at) (none_third at) parity_is
          ∙ ap (λ (k : ℕ). three_shares which k (column_point (length was) second) (column_point (length was) third) (byte_of was first at) (byte_of was second at) (byte_of was third at))
          (sym (x_is ∙ ap (λ (k : ℕ). column_point k first) agree.long))
          ∙ ap (λ (k : ℕ). three_shares which x k (column_point (length was) third) (byte_of was first at) (byte_of was second at) (byte_of was third at))
          (sym (y_is ∙ ap (λ (k : ℕ). column_point k second) agree.long))
          ∙ ap (λ (k : ℕ). three_shares which x y k (byte_of was first at) (byte_of was second at) (byte_of was third at)) (sym (z_is ∙ ap (λ (k : ℕ). column_point k third) agree.long))

      bytes : (at : ℕ) → at < 512
          → (slice_index first_found at ≡ byte_of was first at) × (slice_index second_found at ≡ byte_of was second at) × (slice_index third_found at ≡ byte_of was third at)
      bytes at small =
          found at (byte_of was first at) (byte_of was second at) (byte_of was third at) small ((sectors.each first first_was).bytes at) ((sectors.each second second_was).bytes at)
          ((sectors.each third third_was).bytes at)
          (shares 0 at (omega arith) small p_parity p p_parity_is p_is) (shares 1 at (omega arith) small q_parity q q_parity_is q_is) (shares 2 at (omega arith) small r_parity r r_parity_is r_is)
