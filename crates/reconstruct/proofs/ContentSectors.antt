-- What whole sectors the content columns hold.
use Rattle.std.proofs.Common.{◌≡◌, ℕ, zero, suc, ◌+◌, ◌-◌, ◌*◌, ◌<◌, ◌≤◌, List, [], ◌++◌, length, length-append, refl}
use Rattle.std.proofs.Common.{sym, ◌∙◌, ap, arith}
use Rattle.std.specs.Prelude.{take, slice_index_or}
use Rattle.std.proofs.lemmas.Grind.{same_number_lists}
use Rattle.std.proofs.lemmas.List.{length-take}
use Rattle.row_layout.specs.declared.column.Part.TheVariants.{Content}
use Rattle.row_layout.specs.Layout.{Layout, IsLayout, IsColumn, rows_of, columns_of, content_columns}
use Rattle.row_layout.specs.Layout.{content_before, height_of, part_of}
use Rattle.row_layout.specs.Standing.{StandsOnce}
use Rattle.row_layout.proofs.Laws.{stands_once}
use Rattle.row_layout.proofs.Once.{before_all}
use Rattle.row_layout.proofs.Parts.{columns_few, row_few, reaches, content_here}
use Rattle.reconstruct.specs.Columns.{content_sector, column_bytes}
use Rattle.reconstruct.specs.Rows.{Rows, AreFull, IsShaped, column_at, IsContent}
use Rattle.reconstruct.proofs.Cutting.{length-content_sector}
use Rattle.reconstruct.proofs.Places.{place_below}
use Rattle.reconstruct.proofs.Readback.{one_more, byte_of_sector, column_is_sector}

-- As many columns as the layout has.
pub all_long : (layout : Layout) (rows : Rows) (count : ℕ) → IsShaped layout rows → count ≡ rows.rows * rows.cols
    → count ≡ rows_of layout * columns_of layout
all_long layout rows count shape is =
    is ∙ ap (λ (k : ℕ). k * rows.cols) shape.rows_are ∙ ap (λ (k : ℕ). rows_of layout * k) shape.cols_are

-- content sectors are counted up column by column
grows_by : (layout : Layout) (column more : ℕ) → content_before layout column ≤ content_before layout (column + more)
grows_by layout column zero =
    let plus : column ≡ column + 0 = omega arith in omega (arith, ap (content_before layout) plus)
grows_by layout column (suc more) =
    let next : content_before layout (suc (column + more))
    ≡ content_before layout (column + more) + height_of layout (column + more) = refl in
    let plus : suc (column + more) ≡ column + suc more = omega arith in
    omega (arith, next, ap (content_before layout) plus, grows_by layout column more)

-- A content column that isn't missing holds a content sector of the block.
holds_sector : (layout : Layout) (row column : ℕ) → IsLayout layout → IsColumn layout row column
    → layout.parity ≤ column → (number : ℕ) × (number < layout.sectors) × (part_of layout row column ≡ Content number)
holds_sector layout row column is within behind =
    let inside : column - layout.parity < content_columns layout =
    omega (arith, within.column_in, behind, row_few layout row is, columns_few layout is) in
    let above : row < height_of layout (column - layout.parity) =
    reaches layout row (column - layout.parity) within.row_in inside (omega (arith, within.column_in, behind)) in
    let next : content_before layout (suc (column - layout.parity))
    ≡ content_before layout (column - layout.parity) + height_of layout (column - layout.parity) = refl in
    let plus : suc (column - layout.parity) + (content_columns layout - suc (column - layout.parity))
    ≡ content_columns layout = omega (arith, inside) in (
      content_before layout (column - layout.parity) + row,
      omega (
        arith,
        above,
        next,
        before_all layout is,
        ap (content_before layout) plus,
        grows_by layout (suc (column - layout.parity)) (content_columns layout - suc (column - layout.parity)),
      ),
      content_here layout row column behind above,
    )

module _ (layout : Layout) (made : Rows) (is : IsLayout layout) (shape : IsShaped layout made) (full : AreFull made)
  where
    -- Each column is a sector's length.
    made_wide : (row column : ℕ) → row < rows_of layout → column < columns_of layout
        → length (column_at made row column) ≡ 512
    made_wide row column row_in low =
        ap (λ (k : ℕ). length (slice_index_or made.columns (row * k + column) [])) shape.cols_are
        ∙ full.wide (row * columns_of layout + column)
        (omega (
          arith,
          all_long layout made (length made.columns) shape full.count,
          place_below (rows_of layout) (columns_of layout) row column row_in low,
        ))

    -- The bytes of so many sectors.
    pub front_of : (sectors : ℕ) → sectors ≤ layout.sectors
        → (whole : List ℕ) × (length whole ≡ 512 * sectors) × IsContent layout made whole
    front_of zero few =
        ([], omega arith, record { byte = λ row column number at within here low below. omega (arith, below) })
    front_of (suc number) few =
        one_sector_more (front_of number (omega (arith, few))) (stands_once layout number is (omega (arith, few)))
      where
        one_sector_more : ((whole : List ℕ) × (length whole ≡ 512 * number) × IsContent layout made whole)
            → StandsOnce layout number
            → (whole : List ℕ) × (length whole ≡ 512 * suc number) × IsContent layout made whole
        one_sector_more so_far once =
            let column = column_at made once.row once.column in
            let here : length (column_at made once.row once.column) ≡ 512 =
            made_wide once.row once.column once.place.within.row_in
            (omega (arith, once.place.within.column_in, row_few layout once.row is)) in (
              so_far.0 ++ take 512 column,
              length-append so_far.0 (take 512 column) ∙ omega (arith, so_far.1, length-take 512 column, here),
              one_more layout made so_far.0 (so_far.0 ++ take 512 column) column number once.row once.column 512 is
                  so_far.1 (omega arith) (omega (arith, here)) refl refl once.place so_far.2,
            )

    -- Where the bytes stand in the content columns, each of these holds its sector of them.
    module _ (whole : List ℕ) (whole_long : length whole ≡ 512 * layout.sectors) (told : IsContent layout made whole)
      where
        pub content_column : (row column : ℕ) → IsColumn layout row column → layout.parity ≤ column
            → column_at made row column ≡ column_bytes layout whole row column
        content_column row column within behind =
            of_number (holds_sector layout row column is within behind)
          where
            of_number : ((number : ℕ) × (number < layout.sectors) × (part_of layout row column ≡ Content number))
                → column_at made row column ≡ column_bytes layout whole row column
            of_number held =
                same_number_lists (column_at made row column) (content_sector whole held.0)
                (here ∙ sym (length-content_sector whole held.0))
                (λ at low. let small : at < 512 = omega (arith, low, here) in
                let below : 512 * held.0 + at < length whole = omega (arith, small, held.1, whole_long) in
                sym (told.byte row column held.0 at within held.2 small below)
                ∙ sym (byte_of_sector whole held.0 at small below))
                ∙ sym (column_is_sector layout whole row column held.0 held.2)
              where
                here : length (column_at made row column) ≡ 512
                here = made_wide row column within.row_in (omega (arith, within.column_in, row_few layout row is))
