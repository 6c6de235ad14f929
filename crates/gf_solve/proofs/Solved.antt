-- A row is as it was when its content and its lost parities are.
use Rattle.std.proofs.Common.{◌≡◌, ℕ, ◌+◌, ◌-◌, ◌/◌, ◌%◌, ◌^◌, ◌<◌, List, [], ◌++◌, length, Bool, true, false, refl}
use Rattle.std.proofs.Common.{sym, ◌∙◌, ap, arith, ⊎_elim}
use Rattle.std.specs.Prelude.{slice_index_or, drop, ◌==◌}
use Rattle.std.proofs.lemmas.Bool.{cases_lt}
use Rattle.std.proofs.lemmas.Nat.{shr-shr}
use Rattle.std.proofs.lemmas.List.{get_or_append_left, get_or-append-add, get_or-drop, length-drop, length-append}
use Rattle.std.proofs.lemmas.List.{ext_get_or}
use Rattle.std.proofs.Math.Seq.{drop-append_seam}
use Rattle.gf_parity.specs.Parity.{parity_column}
use Rattle.gf_solve.specs.declared.gaps.Gaps.{Gaps}
use Rattle.gf_solve.specs.Row.{AreSectors, IsParityOf, IsRow, IsLeftOf, is_masked, count_lost}
use Rattle.gf_solve.specs.Serving.{AreServingOf, IsServedBy}
use Rattle.gf_solve.specs.Gaps.{IsGap, AreGaps, AgreeBut}
use Rattle.gf_solve.proofs.Counting.{count_split, count_alike}

-- What is left of columns agrees with them but at the gaps.
pub agree_but_gaps : (was content : List (List ℕ)) (lost : ℕ → Bool) (gaps : Gaps) → IsLeftOf was lost content → AreGaps lost (length content) gaps
    → AgreeBut (IsGap gaps) was content
agree_but_gaps was content lost gaps left are = record {
  long = left.long;
  there = λ column below no_gap. left.there column below (are.others column (omega (arith, below, left.long)) no_gap);
}

-- The mask of the columns behind some.
pub masked_behind : (lost before column : ℕ) → is_masked lost (before + column) ≡ is_masked (lost / 2 ^ before) column
masked_behind lost before column = ap (λ (k : ℕ). (k % 2) == 1) (sym (shr-shr lost before column))

-- Lost columns behind some are counted by that mask.
pub counted_behind : (lost before behind : ℕ) → count_lost (is_masked lost) before behind ≡ count_lost (is_masked (lost / 2 ^ before)) 0 behind
counted_behind lost before behind =
    count_alike (is_masked lost) (is_masked (lost / 2 ^ before)) before 0 behind
    (λ k low. masked_behind lost before k ∙ ap (is_masked (lost / 2 ^ before)) (zero_plus k))
  where
    zero_plus : (a : ℕ) → a ≡ 0 + a
    zero_plus a = omega arith

-- Lost columns are counted in front and behind.
pub counted_apart : (lost before behind : ℕ)
    → count_lost (is_masked lost) 0 (before + behind) ≡ count_lost (is_masked lost) 0 before + count_lost (is_masked (lost / 2 ^ before)) 0 behind
counted_apart lost before behind =
    count_split (is_masked lost) 0 before behind ∙ ap (λ (k : ℕ). count_lost (is_masked lost) 0 before + count_lost (is_masked lost) k behind) (zero_plus before)
    ∙ ap (λ (k : ℕ). count_lost (is_masked lost) 0 before + k) (counted_behind lost before behind)
  where
    zero_plus : (a : ℕ) → 0 + a ≡ a
    zero_plus a = omega arith

-- The content columns of a row are sectors.
pub sectors_behind : (parity : ℕ) (was : List (List ℕ)) → AreSectors was → AreSectors (drop parity was)
sectors_behind parity was sectors = record {
  each = λ column below. rw (get_or-drop parity was column []) (sectors.each (parity + column) (omega (arith, below, length-drop parity was)));
}

-- What is left of a row's content.
pub left_behind : (parity lost : ℕ) (was parities content columns : List (List ℕ)) → columns ≡ parities ++ content → length parities ≡ parity
    → IsLeftOf was (is_masked lost) columns → IsLeftOf (drop parity was) (is_masked (lost / 2 ^ parity)) content
left_behind parity lost was parities content columns is long left =
    let all : length columns ≡ length parities + length content = ap length is ∙ length-append parities content in
    record {
      long = omega (arith, left.long, all, long, length-drop parity was);
      there = λ column below there.
          let shift : parity + column ≡ length parities + column = omega (arith, long) in
          sym (get_or-append-add parities content column [])
          ∙ ap (λ (k : ℕ). slice_index_or (parities ++ content) k []) (sym shift)
          ∙ ap (λ (k : List (List ℕ)). slice_index_or k (parity + column) []) (sym is)
          ∙ left.there (parity + column) (omega (arith, below, length-drop parity was)) (masked_behind lost parity column ∙ there)
          ∙ sym (get_or-drop parity was column []);
    }

-- The parity columns that are left are those of the content.
pub parity_left : (parity lost : ℕ) (was parities content columns : List (List ℕ)) → columns ≡ parities ++ content → length parities ≡ parity
    → parity < length was → IsRow parity was → IsLeftOf was (is_masked lost) columns
    → (which : ℕ) → which < length parities → is_masked lost which ≡ false → IsParityOf (drop parity was) parities which
parity_left parity lost was parities content columns is long room row left which below there =
    sym (get_or_append_left parities content [] which below) ∙ ap (λ (k : List (List ℕ)). slice_index_or k which []) (sym is)
    ∙ left.there which (omega (arith, below, long, room)) there ∙ row.parities which (omega (arith, below, long))

-- So are those that serve.
pub parities_left : (parity lost gaps : ℕ) (was parities content columns : List (List ℕ)) → columns ≡ parities ++ content → length parities ≡ parity
    → parity < length was → IsRow parity was → IsLeftOf was (is_masked lost) columns
    → AreServingOf (drop parity was) parities (is_masked lost) (length parities) gaps
parities_left parity lost gaps was parities content columns is long room row left = record {
  each = λ which serves. parity_left parity lost was parities content columns is long room row left which serves.among serves.there;
}

-- Columns that are served by some content, in front and behind.
pub served_behind : (parity lost : ℕ) (was parities content columns : List (List ℕ)) → columns ≡ parities ++ content → length parities ≡ parity
    → IsServedBy was parity (is_masked lost) columns → IsLeftOf was (is_masked (lost / 2 ^ parity)) content
served_behind parity lost was parities content columns is long served =
    let all : length columns ≡ length parities + length content = ap length is ∙ length-append parities content in
    record {
      long = omega (arith, served.long, all, long);
      there = λ column below there.
          let shift : length parities + column ≡ parity + column = omega (arith, long) in
          sym (get_or-append-add parities content column []) ∙ ap (λ (k : ℕ). slice_index_or (parities ++ content) k []) shift
          ∙ ap (λ (k : List (List ℕ)). slice_index_or k (parity + column) []) (sym is)
          ∙ served.there column below (masked_behind lost parity column ∙ there);
    }

pub served_front : (parity lost : ℕ) (was parities content columns : List (List ℕ)) → columns ≡ parities ++ content → length parities ≡ parity
    → IsServedBy was parity (is_masked lost) columns
    → AreServingOf was parities (is_masked lost) (length parities) (count_lost (is_masked (lost / 2 ^ parity)) 0 (length content))
served_front parity lost was parities content columns is long served =
    let all : length columns ≡ length parities + length content = ap length is ∙ length-append parities content in
    let wide : length was ≡ length content = omega (arith, served.long, all, long) in
    record {
      each = λ which serves.
          sym (get_or_append_left parities content [] which serves.among) ∙ ap (λ (k : List (List ℕ)). slice_index_or k which []) (sym is)
          ∙ served.serving.each which (record {
            among = omega (arith, serves.among, long);
            there = serves.there;
            lowest = omega (arith, serves.lowest, ap (count_lost (is_masked lost) parity) wide, counted_behind lost parity (length content));
          });
    }

-- The content that was found is what stands behind.
pub behind_parities : (parity : ℕ) (parities content : List (List ℕ)) → length parities ≡ parity → drop parity (parities ++ content) ≡ content
behind_parities parity parities content long = ap (λ (k : ℕ). drop k (parities ++ content)) (sym long) ∙ drop-append_seam parities content

-- The parity columns that serve are those of the content that was found.
pub found_fits : (parity lost : ℕ) (parities content columns new_parities new_content : List (List ℕ)) → columns ≡ parities ++ content → length parities ≡ parity
    → length new_parities ≡ parity
    → AreServingOf new_content parities (is_masked lost) (length parities) (count_lost (is_masked (lost / 2 ^ parity)) 0 (length content))
    → AreServingOf (drop parity (new_parities ++ new_content)) columns (is_masked lost) parity (count_lost (is_masked lost) parity (length columns - parity))
found_fits parity lost parities content columns new_parities new_content is long new_long serving =
    let all : length columns ≡ length parities + length content = ap length is ∙ length-append parities content in
    let wide : length columns - parity ≡ length content = omega (arith, all, long) in
    record {
      each = λ which serves.
          ap (λ (k : List (List ℕ)). slice_index_or k which []) is ∙ get_or_append_left parities content [] which (omega (arith, serves.among, long))
          ∙ serving.each which (record {
            among = omega (arith, serves.among, long);
            there = serves.there;
            lowest = omega (arith, serves.lowest, ap (count_lost (is_masked lost) parity) wide, counted_behind lost parity (length content));
          })
          ∙ ap (parity_column which) (sym (behind_parities parity new_parities new_content new_long));
    }

-- Lost parity columns are those of the content that was found.
pub found_made : (parity lost : ℕ) (new_parities new_content : List (List ℕ)) → length new_parities ≡ parity
    → ((which : ℕ) → which < parity → is_masked lost which ≡ true → IsParityOf new_content new_parities which)
    → (which : ℕ) → which < parity → is_masked lost which ≡ true → IsParityOf (drop parity (new_parities ++ new_content)) (new_parities ++ new_content) which
found_made parity lost new_parities new_content long made which low is =
    get_or_append_left new_parities new_content [] which (omega (arith, low, long)) ∙ made which low is
    ∙ ap (parity_column which) (sym (behind_parities parity new_parities new_content long))

-- With content as it was, and the lost parities made from it, the row is as it was.
pub row_again : (parity lost : ℕ) (was parities content columns new_parities new_content : List (List ℕ)) → columns ≡ parities ++ content → length parities ≡ parity
    → length new_parities ≡ parity → parity < length was → IsRow parity was → IsLeftOf was (is_masked lost) columns
    → new_content ≡ drop parity was
    → ((which : ℕ) → which < length parities → is_masked lost which ≡ true → IsParityOf new_content new_parities which)
    → ((which : ℕ) → which < length parities → is_masked lost which ≡ false → slice_index_or new_parities which [] ≡ slice_index_or parities which [])
    → new_parities ++ new_content ≡ was
row_again parity lost was parities content columns new_parities new_content is long new_long room row left content_is filled same =
    ext_get_or [] (new_parities ++ new_content) was wide each
  where
    wide : length (new_parities ++ new_content) ≡ length was
    wide = length-append new_parities new_content ∙ omega (arith, new_long, ap length content_is, length-drop parity was, room)

    by_mask : (which : ℕ) → which < parity → (test : Bool) → test ≡ is_masked lost which → slice_index_or new_parities which [] ≡ slice_index_or was which []
    by_mask which low true test =
        filled which (omega (arith, low, long)) (sym test) ∙ ap (parity_column which) content_is ∙ sym (row.parities which low)
    by_mask which low false test =
        same which (omega (arith, low, long)) (sym test)
        ∙ parity_left parity lost was parities content columns is long room row left which (omega (arith, low, long)) (sym test) ∙ sym (row.parities which low)

    each : (column : ℕ) → column < length (new_parities ++ new_content) → slice_index_or (new_parities ++ new_content) column [] ≡ slice_index_or was column []
    each column below =
        ⊎_elim (λ low. get_or_append_left new_parities new_content [] column (omega (arith, low, new_long)) ∙ by_mask column low (is_masked lost column) refl)
        (λ high. let shift : column ≡ length new_parities + (column - parity) = omega (arith, high, new_long) in
        let back : parity + (column - parity) ≡ column = omega (arith, high) in
        ap (λ (k : ℕ). slice_index_or (new_parities ++ new_content) k []) shift ∙ get_or-append-add new_parities new_content (column - parity) []
        ∙ ap (λ (k : List (List ℕ)). slice_index_or k (column - parity) []) content_is ∙ get_or-drop parity was (column - parity) []
        ∙ ap (λ (k : ℕ). slice_index_or was k []) back) (cases_lt column parity)

-- What isn't lost stays, in front and behind.
pub row_stays : (parity lost : ℕ) (parities content columns new_parities new_content : List (List ℕ)) → columns ≡ parities ++ content → length parities ≡ parity
    → length new_parities ≡ parity
    → ((which : ℕ) → which < length parities → is_masked lost which ≡ false → slice_index_or new_parities which [] ≡ slice_index_or parities which [])
    → ((column : ℕ) → column < length content → is_masked (lost / 2 ^ parity) column ≡ false → slice_index_or new_content column [] ≡ slice_index_or content column [])
    → (column : ℕ) → column < length columns → is_masked lost column ≡ false
    → slice_index_or (new_parities ++ new_content) column [] ≡ slice_index_or columns column []
row_stays parity lost parities content columns new_parities new_content is long new_long front behind column below there =
    ⊎_elim (λ low. get_or_append_left new_parities new_content [] column (omega (arith, low, new_long)) ∙ front column (omega (arith, low, long)) there
    ∙ sym (get_or_append_left parities content [] column (omega (arith, low, long))) ∙ whole)
    (λ high. let new_shift : column ≡ length new_parities + (column - parity) = omega (arith, high, new_long) in
    let shift : column ≡ length parities + (column - parity) = omega (arith, high, long) in
    let back : parity + (column - parity) ≡ column = omega (arith, high) in
    ap (λ (k : ℕ). slice_index_or (new_parities ++ new_content) k []) new_shift ∙ get_or-append-add new_parities new_content (column - parity) []
    ∙ behind (column - parity) (omega (arith, below, high, ap length is, length-append parities content, long))
    (sym (masked_behind lost parity (column - parity)) ∙ ap (is_masked lost) back ∙ there)
    ∙ sym (get_or-append-add parities content (column - parity) []) ∙ ap (λ (k : ℕ). slice_index_or (parities ++ content) k []) (sym shift) ∙ whole)
    (cases_lt column parity)
  where
    whole : slice_index_or (parities ++ content) column [] ≡ slice_index_or columns column []
    whole = ap (λ (k : List (List ℕ)). slice_index_or k column []) (sym is)
