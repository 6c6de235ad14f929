-- A row that was solved, missing columns and all.
use Rattle.std.proofs.Common.{◌≡◌, ℕ, ◌+◌, ◌-◌, ◌/◌, ◌^◌, ◌<◌, ◌≤◌, List, [], length, Bool, true, false, sym, ◌∙◌, ap}
use Rattle.std.proofs.Common.{subst, arith, ⊎_elim}
use Rattle.std.specs.Prelude.{drop, slice_index_or, bit_and, nat_lt, ◌&&◌}
use Rattle.std.proofs.lemmas.Bool.{cases_lt}
use Rattle.std.proofs.lemmas.Bool.Decides.{nat_tests}
use Rattle.std.proofs.lemmas.List.{get_or-drop}
use Rattle.gf_solve.specs.Row.{AreSectors, is_masked, count_lost}
use Rattle.gf_solve.specs.Serving.{Serves, AreServingOf, IsServedBy}
use Rattle.gf_solve.proofs.Counting.{count_split, count_alike, count_nothing}
use Rattle.row_layout.specs.declared.column.Part.TheVariants.{Missing}
use Rattle.row_layout.specs.Layout.{Layout, IsLayout, rows_of, columns_of, columns_in, part_of}
use Rattle.row_layout.proofs.Laws.{missing_behind}
use Rattle.reconstruct.specs.Columns.{zero_sector, part_bytes, column_bytes}
use Rattle.reconstruct.specs.SolvedRow.{ServesBy, HoldsColumnsOf, IsSolvedRow}
use Rattle.reconstruct.proofs.Masks.{masked_low}
use Rattle.reconstruct.proofs.RowAgain.{content_of_row, content_sectors, length-content_of_row, content_of_row-at}
use Rattle.reconstruct.proofs.RowAgain.{parity_of_row}

-- A missing column counts as zeros.
pub missing_zero : (layout : Layout) (bytes : List ℕ) (row column : ℕ) → IsLayout layout → row < rows_of layout → column < columns_of layout
    → columns_in layout row ≤ column → column_bytes layout bytes row column ≡ zero_sector
unfolding column_bytes
missing_zero layout bytes row column is row_in column_in behind =
    let part : part_of layout row column ≡ Missing = (missing_behind layout row column is row_in column_in).1 behind in
    ap (part_bytes layout bytes row) part

module _ (layout : Layout) (row mask low present : ℕ) (is : IsLayout layout) (row_in : row < rows_of layout) (present_is : present ≡ columns_in layout row)
    (present_few : present ≤ columns_of layout) (parity_few : layout.parity < present) (narrow : present ≤ 64)
    (low_is : low ≡ bit_and mask (18446744073709551615 / 2 ^ (64 - present))) where
  -- a mask without missing columns
  low_there : (column : ℕ) → column < present → is_masked low column ≡ is_masked mask column
  low_there column inside =
      let test : nat_lt column present ≡ true = grind (arith, nat_tests, inside) in
      ap (λ (k : ℕ). is_masked k column) low_is ∙ masked_low mask present column narrow ∙ ap (λ (t : Bool). t && is_masked mask column) test

  low_missing : (column : ℕ) → present ≤ column → is_masked low column ≡ false
  low_missing column behind =
      let test : nat_lt column present ≡ false = grind (arith, nat_tests, behind) in
      ap (λ (k : ℕ). is_masked k column) low_is ∙ masked_low mask present column narrow ∙ ap (λ (t : Bool). t && is_masked mask column) test

  low_before : (which : ℕ) → which < present → count_lost (is_masked low) 0 which ≡ count_lost (is_masked mask) 0 which
  low_before which inside =
      count_alike (is_masked low) (is_masked mask) 0 0 which (λ k small. low_there (0 + k) (omega (arith, small, inside)))

  low_content : count_lost (is_masked low) layout.parity (columns_of layout - layout.parity) ≡ count_lost (is_masked mask) layout.parity (present - layout.parity)
  low_content =
      let parts : columns_of layout - layout.parity ≡ (present - layout.parity) + (columns_of layout - present) = omega (arith, present_few, parity_few) in
      ap (count_lost (is_masked low) layout.parity) parts ∙ count_split (is_masked low) layout.parity (present - layout.parity) (columns_of layout - present)
      ∙ ap (λ (k : ℕ). k + count_lost (is_masked low) (layout.parity + (present - layout.parity)) (columns_of layout - present))
      (count_alike (is_masked low) (is_masked mask) layout.parity layout.parity (present - layout.parity) (λ k small. low_there (layout.parity + k) (omega (arith, small, parity_few))))
      ∙ ap (λ (k : ℕ). count_lost (is_masked mask) layout.parity (present - layout.parity) + k)
      (count_nothing (is_masked low) (layout.parity + (present - layout.parity)) (columns_of layout - present) (λ k from below. low_missing k (omega (arith, from, parity_few))))
      ∙ omega arith

  mask_count : count_lost (is_masked mask) layout.parity (present - layout.parity) ≡ count_lost (is_masked mask) layout.parity (columns_in layout row - layout.parity)
  mask_count = ap (λ (k : ℕ). count_lost (is_masked mask) layout.parity (k - layout.parity)) present_is

  -- The same parity columns serve, whether missing columns are counted or not.
  serves_low : (which : ℕ) → ServesBy layout row mask which
      → Serves (is_masked low) layout.parity (count_lost (is_masked low) layout.parity (columns_of layout - layout.parity)) which
  serves_low which serves = record {
    among = serves.among;
    there = low_there which (omega (arith, serves.among, parity_few)) ∙ serves.there;
    lowest = omega (arith, serves.lowest, mask_count, low_content, low_before which (omega (arith, serves.among, parity_few)));
  }

  serves_mask : (which : ℕ) → Serves (is_masked low) layout.parity (count_lost (is_masked low) layout.parity (columns_of layout - layout.parity)) which
      → ServesBy layout row mask which
  serves_mask which serves = record {
    among = serves.among;
    there = sym (low_there which (omega (arith, serves.among, parity_few))) ∙ serves.there;
    lowest = omega (arith, serves.lowest, mask_count, low_content, low_before which (omega (arith, serves.among, parity_few)));
  }

  module _ (read cleared solved : List (List ℕ)) (wide : length cleared ≡ columns_of layout)
      (there : (column : ℕ) → column < present → slice_index_or cleared column [] ≡ slice_index_or read column [])
      (missing : (column : ℕ) → present ≤ column → column < columns_of layout → slice_index_or cleared column [] ≡ zero_sector) where
    -- What the columns were read of serves for the cleared ones.
    served_by : (bytes : List ℕ) → HoldsColumnsOf layout row mask read bytes → IsServedBy (content_of_row layout bytes row) layout.parity (is_masked low) cleared
    served_by bytes of = record {
      long = wide ∙ omega (arith, present_few, parity_few, length-content_of_row layout bytes row);
      there = λ column below kept.
          let inside : layout.parity + column < columns_of layout = omega (arith, below, length-content_of_row layout bytes row) in
          ⊎_elim (λ few. there (layout.parity + column) few
          ∙ of.content (layout.parity + column) (omega arith) (omega (arith, few, present_is)) (sym (low_there (layout.parity + column) few) ∙ kept))
          (λ many. missing (layout.parity + column) many inside
          ∙ sym (missing_zero layout bytes row (layout.parity + column) is row_in inside (omega (arith, many, present_is))))
          (cases_lt (layout.parity + column) present) ∙ sym (content_of_row-at layout bytes row column inside);
      serving = record {
        each = λ which serves.
            there which (omega (arith, serves.among, parity_few)) ∙ of.parity which (serves_mask which (counted which serves))
            ∙ parity_of_row layout bytes row which serves.among;
      };
    }
      where
        counted : (which : ℕ) → Serves (is_masked low) layout.parity (count_lost (is_masked low) layout.parity (length (content_of_row layout bytes row))) which
            → Serves (is_masked low) layout.parity (count_lost (is_masked low) layout.parity (columns_of layout - layout.parity)) which
        counted which serves = record {
          among = serves.among;
          there = serves.there;
          lowest = omega (arith, serves.lowest, ap (count_lost (is_masked low) layout.parity) (length-content_of_row layout bytes row));
        }

    solved_row : ((was : List (List ℕ)) → AreSectors was → IsServedBy was layout.parity (is_masked low) cleared → drop layout.parity solved ≡ was)
        → AreServingOf (drop layout.parity solved) cleared (is_masked low) layout.parity (count_lost (is_masked low) layout.parity (length cleared - layout.parity))
        → ((column : ℕ) → column < length cleared → is_masked low column ≡ false → slice_index_or solved column [] ≡ slice_index_or cleared column [])
        → IsSolvedRow layout row mask read solved
    solved_row served fits same = record {
      kept = λ column behind inside kept.
          same column (omega (arith, inside, present_is, present_few, wide)) (low_there column (omega (arith, inside, present_is)) ∙ kept)
          ∙ there column (omega (arith, inside, present_is));
      missing = λ column behind inside.
          same column (omega (arith, inside, wide)) (low_missing column (omega (arith, behind, present_is))) ∙ missing column (omega (arith, behind, present_is)) inside;
      fits = λ which serves.
          sym (there which (omega (arith, serves.among, parity_few))) ∙ fits.each which (counted which (serves_low which serves));
      told = λ bytes all of column behind inside.
          let back : layout.parity + (column - layout.parity) ≡ column = omega (arith, behind) in
          ap (λ (k : ℕ). slice_index_or solved k []) (sym back) ∙ sym (get_or-drop layout.parity solved (column - layout.parity) [])
          ∙ ap (λ (k : List (List ℕ)). slice_index_or k (column - layout.parity) [])
          (served (content_of_row layout bytes row) (content_sectors layout bytes row all) (served_by bytes of))
          ∙ content_of_row-at layout bytes row (column - layout.parity) (omega (arith, inside, back)) ∙ ap (column_bytes layout bytes row) back;
    }
      where
        counted : (which : ℕ) → Serves (is_masked low) layout.parity (count_lost (is_masked low) layout.parity (columns_of layout - layout.parity)) which
            → Serves (is_masked low) layout.parity (count_lost (is_masked low) layout.parity (length cleared - layout.parity)) which
        counted which serves = record {
          among = serves.among;
          there = serves.there;
          lowest = omega (arith, serves.lowest, ap (λ (k : ℕ). count_lost (is_masked low) layout.parity (k - layout.parity)) wide);
        }

    -- the same where the parity goes by another name
    pub solved_row_by : (parity : ℕ) → parity ≡ layout.parity
        → ((was : List (List ℕ)) → AreSectors was → IsServedBy was parity (is_masked low) cleared → drop parity solved ≡ was)
        → AreServingOf (drop parity solved) cleared (is_masked low) parity (count_lost (is_masked low) parity (length cleared - parity))
        → ((column : ℕ) → column < length cleared → is_masked low column ≡ false → slice_index_or solved column [] ≡ slice_index_or cleared column [])
        → IsSolvedRow layout row mask read solved
    solved_row_by parity parity_is served fits same =
        solved_row
        (subst (λ (k : ℕ). (was : List (List ℕ)) → AreSectors was → IsServedBy was k (is_masked low) cleared → drop k solved ≡ was) parity_is served)
        (subst (λ (k : ℕ). AreServingOf (drop k solved) cleared (is_masked low) k (count_lost (is_masked low) k (length cleared - k))) parity_is fits)
        same
