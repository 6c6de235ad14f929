-- What rows that were solved hold: the content of whatever bytes solve, and always of some.
use Rattle.std.proofs.Common.{◌≡◌, ℕ, ◌+◌, ◌-◌, ◌*◌, ◌/◌, ◌%◌, ◌<◌, ◌≤◌, List, [], length}
use Rattle.std.proofs.Common.{Bool, false, sym, ◌∙◌, ap, arith, ⊎_elim}
use Rattle.std.specs.Prelude.{take, drop, slice_index, slice_index_or, ◌&&◌, nat_lt}
use Rattle.std.proofs.lemmas.Bool.{cases_lt}
use Rattle.std.proofs.lemmas.Bool.Decides.{nat_tests}
use Rattle.std.proofs.lemmas.Grind.{same_number_lists}
use Rattle.std.proofs.lemmas.List.{get_or-take, get_or-drop, length-take, length-drop, ext_get_or}
use Rattle.std.proofs.Math.Nat.{add-mul, one-mul, mul-le-mul_right}
use Rattle.gf_parity.specs.Parity.{parity_column}
use Rattle.row_layout.specs.Layout.{Layout, IsLayout, rows_of, columns_of, columns_in}
use Rattle.row_layout.proofs.Laws.{stands_once}
use Rattle.row_layout.proofs.Parts.{row_few}
use Rattle.reconstruct.specs.Columns.{column_bytes}
use Rattle.reconstruct.specs.Rows.{Rows, AreFull, IsShaped, column_at, HoldsContent, IsContent}
use Rattle.reconstruct.specs.Lost.{AreBytes, IsLeftOver}
use Rattle.reconstruct.specs.SolvedRow.{columns_at, HoldsColumnsOf, AreSolved}
use Rattle.reconstruct.specs.Solved.{columns_with, is_masked_lost, IsSolution, BeginsSolution}
use Rattle.reconstruct.proofs.ContentSectors.{all_long, front_of, content_column}
use Rattle.reconstruct.proofs.RowAgain.{content_of_row, length-content_of_row, content_of_row-at, parity_of_row}
use Rattle.reconstruct.proofs.RowSolved.{missing_zero}
use Rattle.reconstruct.proofs.SolvedRows.{columns_at-at}

-- A column of a row, in rows that have the layout's shape.
row_column : (layout : Layout) (rows : Rows) (columns : List (List ℕ)) (row column : ℕ) → IsShaped layout rows → rows.columns ≡ columns → column < columns_of layout
    → slice_index_or (columns_at layout columns row) column [] ≡ column_at rows row column
row_column layout rows columns row column shape is low =
    columns_at-at layout columns row column low ∙ ap (λ (k : List (List ℕ)). slice_index_or k (row * columns_of layout + column) []) (sym is)
    ∙ ap (λ (k : ℕ). slice_index_or rows.columns (row * k + column) []) (sym shape.cols_are)

-- There is room for the parity columns.
parity_room : (layout : Layout) → IsLayout layout → layout.parity ≤ columns_of layout
parity_room layout is = grind (arith, nat_tests, is.width)

-- What is left of rows solves them.
pub left_solves : (layout : Layout) (bytes masks : List ℕ) (rows : Rows) (len : ℕ) → IsLayout layout → length bytes ≡ len
    → IsLeftOver layout bytes rows masks → IsSolution layout (columns_with rows masks) (is_masked_lost masks) len bytes
left_solves layout bytes masks rows len is long left = record {
  wide = long;
  content = λ row column within behind there.
      left.there row column within.row_in (omega (arith, within.column_in, row_few layout row is)) (not_lost (nat_lt column (columns_in layout row)) there);
  parity = λ row which row_in serves.
      left.there row which row_in (omega (arith, serves.among, parity_room layout is)) (not_lost (nat_lt which (columns_in layout row)) serves.there);
}
  where
    not_lost : (test : Bool) {masked : Bool} → masked ≡ false → (test && masked) ≡ false
    not_lost test is_there = grind (arith, nat_tests, is_there)

module _ (layout : Layout) (masks : List ℕ) (rows made : Rows) (read solved : List (List ℕ)) (is : IsLayout layout) (shape : IsShaped layout rows)
    (made_shape : IsShaped layout made) (read_is : rows.columns ≡ read) (made_is : made.columns ≡ solved) (solved_rows : AreSolved layout masks read solved) where
  -- The content of whatever bytes solve is there.
  pub holds_solution : (len : ℕ) (bytes : List ℕ) → AreBytes bytes → IsSolution layout (columns_with rows masks) (is_masked_lost masks) len bytes
      → HoldsContent layout bytes made
  holds_solution len bytes all solution = record {
    content = λ row column within behind.
        let low : column < columns_of layout = omega (arith, within.column_in, row_few layout row is) in
        sym (row_column layout made solved row column made_shape made_is low)
        ∙ (solved_rows.each row within.row_in).told bytes all (read_of row within.row_in) column behind low;
  }
    where
      read_of : (row : ℕ) → row < rows_of layout → HoldsColumnsOf layout row (slice_index masks row) (columns_at layout read row) bytes
      read_of row row_in = record {
        content = λ column behind inside there.
            row_column layout rows read row column shape read_is (omega (arith, inside, row_few layout row is))
            ∙ solution.content row column (record { row_in = row_in; column_in = inside }) behind there;
        parity = λ which serves.
            row_column layout rows read row which shape read_is (omega (arith, serves.among, parity_room layout is)) ∙ solution.parity row which row_in serves;
      }

  module _ (full : AreFull made) where
    long : length solved ≡ rows_of layout * columns_of layout
    long = ap length (sym made_is) ∙ all_long layout made (length made.columns) made_shape full.count

    -- Where the bytes stand in the content columns, each of these holds its sector of them.
    module _ (whole : List ℕ) (whole_long : length whole ≡ 512 * layout.sectors) (told : IsContent layout made whole) where
      -- all of a row behind its parity columns
      behind_parity : (row column : ℕ) → row < rows_of layout → layout.parity ≤ column → column < columns_of layout
          → slice_index_or (columns_at layout solved row) column [] ≡ column_bytes layout whole row column
      behind_parity row column row_in behind low =
          ⊎_elim (λ inside. row_column layout made solved row column made_shape made_is low
          ∙ content_column layout made is made_shape full whole whole_long told row column
          (record { row_in = row_in; column_in = inside }) behind)
          (λ outside. (solved_rows.each row row_in).missing column outside low ∙ sym (missing_zero layout whole row column is row_in low outside))
          (cases_lt column (columns_in layout row))

      content_made : (row : ℕ) → row < rows_of layout → drop layout.parity (columns_at layout solved row) ≡ content_of_row layout whole row
      content_made row row_in =
          ext_get_or [] (drop layout.parity (columns_at layout solved row)) (content_of_row layout whole row) (behind_long ∙ sym (length-content_of_row layout whole row))
          (λ column below.
          let low : layout.parity + column < columns_of layout = omega (arith, below, behind_long) in
          get_or-drop layout.parity (columns_at layout solved row) column []
          ∙ behind_parity row (layout.parity + column) row_in (omega arith) low ∙ sym (content_of_row-at layout whole row column low))
        where
          room : row * columns_of layout + columns_of layout ≤ rows_of layout * columns_of layout
          room =
              let more : (row + 1) * columns_of layout ≤ rows_of layout * columns_of layout = mul-le-mul_right (columns_of layout) (omega (arith, row_in)) in
              omega (arith, more, add-mul row 1 (columns_of layout), one-mul (columns_of layout))

          behind_long : length (drop layout.parity (columns_at layout solved row)) ≡ columns_of layout - layout.parity
          behind_long =
              length-drop layout.parity (columns_at layout solved row)
              ∙ omega (
                arith,
                length-take (columns_of layout) (drop (row * columns_of layout) solved),
                length-drop (row * columns_of layout) solved,
                long,
                room,
              )

      solution : IsSolution layout (columns_with rows masks) (is_masked_lost masks) (512 * layout.sectors) whole
      solution = record {
        wide = whole_long;
        content = λ row column within behind there.
            let low : column < columns_of layout = omega (arith, within.column_in, row_few layout row is) in
            sym (row_column layout rows read row column shape read_is low)
            ∙ sym ((solved_rows.each row within.row_in).kept column behind within.column_in there)
            ∙ behind_parity row column within.row_in behind low;
        parity = λ row which row_in serves.
            sym (row_column layout rows read row which shape read_is (omega (arith, serves.among, parity_room layout is)))
            ∙ (solved_rows.each row row_in).fits which serves ∙ ap (parity_column which) (content_made row row_in)
            ∙ sym (parity_of_row layout whole row which serves.among);
      }

    -- Bytes that stand in the content columns begin a solution.
    pub begins_solution : (bytes : List ℕ) → length bytes ≤ 512 * layout.sectors → IsContent layout made bytes
        → BeginsSolution layout (columns_with rows masks) (is_masked_lost masks) bytes
    begins_solution bytes few told =
        let all = front_of layout made is made_shape full layout.sectors (omega arith) in
        record {
          whole = all.0;
          begins =
              same_number_lists (take (length bytes) all.0) bytes (length-take (length bytes) all.0 ∙ omega (arith, few, all.1))
              (λ at low. let inside : at < length bytes = omega (arith, low, length-take (length bytes) all.0) in
              get_or-take (length bytes) all.0 at 0 inside ∙ same_byte all.0 bytes all.2 told at (omega (arith, inside, few)) (omega (arith, inside, few, all.1)) inside);
          solves = solution all.0 all.1 all.2;
        }
      where
        same_byte : (a b : List ℕ) → IsContent layout made a → IsContent layout made b → (at : ℕ) → at < 512 * layout.sectors → at < length a → at < length b
            → slice_index a at ≡ slice_index b at
        same_byte a b of_a of_b at in_block in_a in_b =
            let number_in : at / 512 < layout.sectors = omega (arith, in_block) in
            let once = stands_once layout (at / 512) is number_in in
            let split : 512 * (at / 512) + at % 512 ≡ at = omega arith in
            ap (slice_index a) (sym split)
            ∙ of_a.byte once.row once.column (at / 512) (at % 512) once.place.within once.place.here (omega arith) (omega (arith, split, in_a))
            ∙ sym (of_b.byte once.row once.column (at / 512) (at % 512) once.place.within once.place.here (omega arith) (omega (arith, split, in_b)))
            ∙ ap (slice_index b) split
