-- Where no content of a block is lost, it is taken as it is.
use Rattle.std.proofs.Common.{◌≡◌, ℕ, ◌+◌, ◌-◌, ◌*◌, ◌/◌, ◌%◌, ◌^◌, ◌<◌, ◌≤◌, List, false, length, sym, ◌∙◌, ap, arith}
use Rattle.std.specs.Prelude.{◌==◌, slice_index, EachIndex}
use Rattle.std.proofs.lemmas.Nat.{shr_below}
use Rattle.std.proofs.Math.Nat.{pow-le-pow_right}
use Rattle.gf_solve.specs.Row.{is_masked, count_lost}
use Rattle.gf_solve.proofs.Counting.{count_split, count_few, count_nothing}
use Rattle.row_layout.specs.Layout.{Layout, IsLayout, rows_of, columns_in}
use Rattle.reconstruct.specs.Rows.{Rows, AreFull, IsShaped, HoldsContent, IsContent}
use Rattle.reconstruct.specs.Solved.{columns_with, is_masked_lost, IsPassedOver, TellsSectors}
use Rattle.reconstruct.proofs.Choices.{parity_in_row}
use Rattle.reconstruct.proofs.ContentSectors.{content_column}

-- A mask below a power of two has no column from there on.
none_above : (mask parity column : ℕ) → mask < 2 ^ parity → parity ≤ column → is_masked mask column ≡ false
none_above mask parity column low high =
    let power : 2 ^ parity ≤ 2 ^ column = pow-le-pow_right {n = 2} (omega arith) {i = parity} {j = column} high in
    let none : mask / 2 ^ column < 2 ^ 0 = shr_below mask 0 column (under (omega (arith, low, power))) in
    ap (λ (k : ℕ). (k % 2) == 1) (is_zero (mask / 2 ^ column) (omega (arith, none)))
  where
    under : mask < 2 ^ column → mask < 2 ^ (0 + column)
    under less = let plus : column ≡ 0 + column = omega arith in rw (← plus) less

    is_zero : (k : ℕ) → k < 1 → k ≡ 0
    is_zero k below = omega (arith, below)

module _ (layout : Layout) (parity : ℕ) (rows : Rows) (masks : List ℕ) (parity_is : parity ≡ layout.parity)
    (is : IsLayout layout) (long : length masks ≡ rows_of layout)
    (low : EachIndex masks (λ row. slice_index masks row < 2 ^ parity)) where
  -- All content is there,
  content_there : (row column : ℕ) → row < rows_of layout → layout.parity ≤ column
      → is_masked_lost masks row column ≡ false
  content_there row column row_in behind =
      none_above (slice_index masks row) parity column (low row (omega (arith, row_in, long)))
      (omega (arith, behind, parity_is))

  none_lost : (row : ℕ) → row < rows_of layout
      → count_lost (is_masked_lost masks row) layout.parity (columns_in layout row - layout.parity) ≡ 0
  none_lost row row_in =
      count_nothing (is_masked_lost masks row) layout.parity (columns_in layout row - layout.parity)
      (λ column from below. content_there row column row_in from)

  -- so no row has too few columns left,
  enough_left : IsPassedOver layout (is_masked_lost masks) → ⊥
  enough_left passed =
      let row = passed.row in
      let room : layout.parity ≤ columns_in layout row = parity_in_row layout row is passed.row_in in
      let parts : columns_in layout row ≡ layout.parity + (columns_in layout row - layout.parity) =
      omega (arith, room) in
      let split : count_lost (is_masked_lost masks row) 0 (columns_in layout row)
      ≡ count_lost (is_masked_lost masks row) 0 layout.parity
      + count_lost (is_masked_lost masks row) (0 + layout.parity) (columns_in layout row - layout.parity) =
      ap (count_lost (is_masked_lost masks row) 0) parts
      ∙ count_split (is_masked_lost masks row) 0 layout.parity (columns_in layout row - layout.parity) in
      let plus : count_lost (is_masked_lost masks row) (0 + layout.parity) (columns_in layout row - layout.parity)
      ≡ count_lost (is_masked_lost masks row) layout.parity (columns_in layout row - layout.parity) =
      ap (λ (k : ℕ). count_lost (is_masked_lost masks row) k (columns_in layout row - layout.parity)) zero_plus in
      omega (
        arith,
        passed.many,
        split,
        plus,
        none_lost row passed.row_in,
        count_few (is_masked_lost masks row) 0 layout.parity,
      )
    where
      zero_plus : 0 + layout.parity ≡ layout.parity
      zero_plus = omega arith

  -- and the content as it is tells the block.
  pub content_tells : (len : ℕ) (whole : List ℕ) → len ≡ 512 * layout.sectors → length whole ≡ len
      → IsShaped layout rows → AreFull rows → IsContent layout rows whole
      → ((wanted : List ℕ) → length wanted ≡ len → HoldsContent layout wanted rows → whole ≡ wanted)
      → TellsSectors layout (columns_with rows masks) (is_masked_lost masks) whole
  content_tells len whole len_is whole_long shape full told back = record {
    enough = enough_left;
    solves = record {
      wide = omega (arith, whole_long, len_is);
      content = λ row column within behind there.
          content_column layout rows is shape full whole (omega (arith, whole_long, len_is)) told row column within
          behind;
      parity = λ row which row_in serves. absurd (omega (arith, serves.lowest, none_lost row row_in));
    };
    alone = λ other all solution.
        sym (back other (omega (arith, solution.wide, len_is)) (record {
          content = λ row column within behind.
              solution.content row column within behind (content_there row column within.row_in behind);
        }));
  }
