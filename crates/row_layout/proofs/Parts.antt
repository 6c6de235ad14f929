-- Which part stands in a column, told by the heights of the content columns.
use Rattle.std.proofs.Common.{◌≡◌, ℕ, zero, suc, ◌+◌, ◌-◌, ◌*◌, ◌<◌, ◌≤◌, ◌⊎◌, refl, sym, ◌∙◌, arith, ap, ⊎_elim}
use Rattle.std.proofs.lemmas.Bool.{cases_lt}
use Rattle.std.proofs.lemmas.Bool.Decides.{nat_tests}
use Rattle.std.proofs.Math.Nat.{add-mul, one-mul}
use Rattle.row_layout.specs.declared.column.Part.TheVariants.{Parity, Content, Missing}
use Rattle.row_layout.specs.Layout.{Layout, IsLayout, content_columns, whole_rows, left_over, rows_of, columns_of}
use Rattle.row_layout.specs.Layout.{columns_in, height_of, content_before, part_of}
use Rattle.row_layout.proofs.Counts.{left_over_few, rows_whole, rows_short}
use Rattle.row_layout.proofs.Once.{before_whole}

-- The first columns are parity.
pub parity_here : (layout : Layout) (row column : ℕ) → column < layout.parity → part_of layout row column ≡ Parity column
parity_here layout row column low = grind (arith, nat_tests, low)

-- Above the end of its column stands content.
pub content_here : (layout : Layout) (row column : ℕ) → layout.parity ≤ column → row < height_of layout (column - layout.parity)
    → part_of layout row column ≡ Content (content_before layout (column - layout.parity) + row)
content_here layout row column high in_it = grind (arith, nat_tests, high, in_it)

-- Below it nothing stands.
pub missing_here : (layout : Layout) (row column : ℕ) → layout.parity ≤ column → height_of layout (column - layout.parity) ≤ row
    → part_of layout row column ≡ Missing
missing_here layout row column high below = grind (arith, nat_tests, high, below)

-- Where no row is short, each column has all rows.
pub height_whole : (layout : Layout) (column : ℕ) → left_over layout ≡ 0 → height_of layout column ≡ rows_of layout
height_whole layout column none = grind (arith, nat_tests, none)

-- A column that the short row reaches has all rows.
pub height_high : (layout : Layout) (column : ℕ) → column < left_over layout → height_of layout column ≡ rows_of layout
height_high layout column high = grind (arith, nat_tests, high)

-- A later column lacks the last row.
pub height_low : (layout : Layout) (column : ℕ) → 0 < left_over layout → left_over layout ≤ column
    → height_of layout column ≡ whole_rows layout
height_low layout column some low =
    let height : height_of layout column ≡ rows_of layout - 1 = grind (arith, nat_tests, some, low) in
    omega (arith, height, rows_short layout some)

-- Columns up to the end of the short row hold all that stands before them, row by row.
pub before_first : (layout : Layout) (column : ℕ) → (left_over layout ≡ 0 → ⊥) → column ≤ left_over layout
    → content_before layout column ≡ column * rows_of layout
before_first layout zero short few = omega arith
before_first layout (suc column) short few =
    omega (arith, before_first layout column short (omega (arith, few)), height_high layout column (omega (arith, few)), add-mul column 1 (rows_of layout), one-mul (rows_of layout))

-- The columns after that hold one row less each.
pub before_rest : (layout : Layout) (more : ℕ) → 0 < left_over layout
    → content_before layout (left_over layout + more) ≡ left_over layout * rows_of layout + more * (rows_of layout - 1)
before_rest layout zero short =
    let here : left_over layout + 0 ≡ left_over layout = omega arith in
    ap (content_before layout) here ∙ before_first layout (left_over layout) (λ none. omega (arith, none, short)) (omega arith) ∙ omega arith
before_rest layout (suc more) short =
    let plus : suc (left_over layout + more) ≡ left_over layout + suc more = omega arith in
    let same : content_before layout (suc (left_over layout + more)) ≡ content_before layout (left_over layout + suc more) = ap (content_before layout) plus in
    let next : content_before layout (suc (left_over layout + more)) ≡ content_before layout (left_over layout + more) + height_of layout (left_over layout + more) = refl in
    omega (arith, same, next, before_rest layout more short, height_low layout (left_over layout + more) short (omega arith), rows_short layout short, add-mul more 1 (rows_of layout - 1), one-mul (rows_of layout - 1))

-- Where all columns before have all rows, the content before is a product.
pub before_high : (layout : Layout) (column left_over_is rows : ℕ) → left_over_is ≡ left_over layout → rows ≡ rows_of layout
    → (left_over_is ≡ 0) ⊎ ((left_over_is ≡ 0 → ⊥) × (column < left_over_is)) → column * rows ≡ content_before layout column
before_high layout column left_over_is rows left is either =
    ap (λ (k : ℕ). column * k) is
    ∙ ⊎_elim (λ none. sym (before_whole layout column (sym left ∙ none))) (λ high. sym (before_first layout column (λ none. high.0 (left ∙ none)) (omega (arith, left, high.1)))) either

-- Where some lack the last row, it is two.
pub before_low : (layout : Layout) (column left_over_is rows : ℕ) → left_over_is ≡ left_over layout → rows ≡ rows_of layout
    → (left_over_is ≡ 0 → ⊥) × (left_over_is ≤ column)
    → left_over_is * rows + (column - left_over_is) * (rows - 1) ≡ content_before layout column
before_low layout column left_over_is rows left is low =
    let some : 0 < left_over layout = nonzero (left_over layout) (λ none. low.0 (left ∙ none)) in
    let plus : left_over layout + (column - left_over_is) ≡ column = omega (arith, left, low.1) in
    ap (λ (k : ℕ). k * rows + (column - left_over_is) * (rows - 1)) left
    ∙ ap (λ (k : ℕ). left_over layout * k + (column - left_over_is) * (k - 1)) is
    ∙ sym (before_rest layout (column - left_over_is) some) ∙ ap (content_before layout) plus
  where
    nonzero : (n : ℕ) → (n ≡ 0 → ⊥) → 0 < n
    nonzero zero none = absurd (none refl)
    nonzero (suc n) none = omega arith

-- No row is wider than the layout.
pub columns_few : (layout : Layout) → IsLayout layout → columns_of layout ≤ layout.width
columns_few layout is =
    ⊎_elim (λ none. let none_whole : whole_rows layout ≡ 0 = omega arith in
    let columns : columns_of layout ≡ left_over layout + layout.parity = grind (arith, nat_tests, none_whole) in
    omega (arith, columns, left_over_few layout is, is.width)) (λ some. let columns : columns_of layout ≡ layout.width = grind (arith, nat_tests, some) in
    omega (arith, columns)) (cases_lt (whole_rows layout) 1)

-- A whole row goes over the whole width.
pub whole_row_in : (layout : Layout) (row : ℕ) → row < whole_rows layout → columns_in layout row ≡ layout.width
whole_row_in layout row whole = grind (arith, nat_tests, whole)

pub last_row_in : (layout : Layout) (row : ℕ) → whole_rows layout ≤ row → columns_in layout row ≡ left_over layout + layout.parity
last_row_in layout row last = grind (arith, nat_tests, last)

-- The last row is short only where sectors are left over.
pub last_row_is : (layout : Layout) (row : ℕ) → row < rows_of layout → whole_rows layout ≤ row
    → (row ≡ whole_rows layout) × (0 < left_over layout)
last_row_is layout row in_it last =
    ⊎_elim (λ none. let zero_left : left_over layout ≡ 0 = omega arith in
    absurd (omega (arith, rows_whole layout zero_left, in_it, last))) (λ some. (omega (arith, rows_short layout some, in_it, last), some)) (cases_lt (left_over layout) 1)

-- A content column reaches into a row exactly where the row reaches to it.
pub reaches : (layout : Layout) (row column : ℕ) → row < rows_of layout → column < content_columns layout
    → (column + layout.parity < columns_in layout row) → row < height_of layout column
reaches layout row column row_in column_in reached =
    ⊎_elim (λ whole. ⊎_elim (λ none. let zero_left : left_over layout ≡ 0 = omega arith in
    omega (arith, height_whole layout column zero_left, row_in)) (λ some. ⊎_elim (λ high. omega (arith, height_high layout column high, row_in)) (λ low. omega (arith, height_low layout column some low, whole))
    (cases_lt column (left_over layout))) (cases_lt (left_over layout) 1))
    (λ last. let is = last_row_is layout row row_in last in
    let high : column < left_over layout = omega (arith, last_row_in layout row last, reached) in
    omega (arith, height_high layout column high, row_in)) (cases_lt row (whole_rows layout))

pub reached : (layout : Layout) (row column : ℕ) → column < content_columns layout → row < height_of layout column
    → (row < rows_of layout) × (column + layout.parity < columns_in layout row)
reached layout row column column_in in_it =
    ⊎_elim (λ none. let zero_left : left_over layout ≡ 0 = omega arith in
    let low : row < whole_rows layout = omega (arith, height_whole layout column zero_left, rows_whole layout zero_left, in_it) in
    (omega (arith, height_whole layout column zero_left, in_it), omega (arith, whole_row_in layout row low, column_in)))
    (λ some. ⊎_elim (λ high. ⊎_elim (λ whole. (omega (arith, rows_short layout some, whole), omega (arith, whole_row_in layout row whole, column_in)))
    (λ last. (omega (arith, height_high layout column high, in_it), omega (arith, last_row_in layout row last, high))) (cases_lt row (whole_rows layout)))
    (λ low. let whole : row < whole_rows layout = omega (arith, height_low layout column some low, in_it) in
    (omega (arith, rows_short layout some, whole), omega (arith, whole_row_in layout row whole, column_in)))
    (cases_lt column (left_over layout))) (cases_lt (left_over layout) 1)

-- No row is wider than the first.
pub row_few : (layout : Layout) (row : ℕ) → IsLayout layout → columns_in layout row ≤ columns_of layout
row_few layout row is =
    ⊎_elim (λ none. let none_whole : whole_rows layout ≡ 0 = omega arith in
    let columns : columns_of layout ≡ left_over layout + layout.parity = grind (arith, nat_tests, none_whole) in
    omega (arith, columns, last_row_in layout row (omega (arith, none_whole))))
    (λ some. let columns : columns_of layout ≡ layout.width = grind (arith, nat_tests, some) in
    ⊎_elim (λ whole. omega (arith, columns, whole_row_in layout row whole)) (λ last. omega (arith, columns, last_row_in layout row last, left_over_few layout is, is.width))
    (cases_lt row (whole_rows layout))) (cases_lt (whole_rows layout) 1)

-- Content stands behind the parity columns.
pub content_behind : (layout : Layout) (row column content : ℕ) → part_of layout row column ≡ Content content → layout.parity ≤ column
content_behind layout row column content here =
    ⊎_elim (λ low. let parity : part_of layout row column ≡ Parity column = parity_here layout row column low in absurd cc) (λ high. high) (cases_lt column layout.parity)
