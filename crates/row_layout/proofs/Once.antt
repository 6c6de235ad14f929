-- Each content sector of a block stands in one column of one row, and in no other.
use Rattle.std.proofs.Common.{◌≡◌, ℕ, zero, suc, ◌+◌, ◌-◌, ◌*◌, ◌<◌, ◌≤◌, refl, arith, ap, ⊎_elim}
use Rattle.std.proofs.lemmas.Bool.{cases_lt}
use Rattle.std.proofs.Math.Nat.{div-add-mod, add-mul, one-mul, mul-add, mul_comm, mod-lt}
use Rattle.std.proofs.lemmas.Bool.Decides.{nat_tests}
use Rattle.row_layout.specs.Layout.{Layout, IsLayout, content_columns, whole_rows, left_over, rows_of, height_of}
use Rattle.row_layout.specs.Layout.{content_before}

-- A content sector stands here, in a column without the parity ones.
pub record IsContentAt (layout : Layout) (content row column : ℕ) : Type 0 where
  pub column_in : column < content_columns layout
  pub row_in : row < height_of layout column
  pub here : content ≡ content_before layout column + row

before_grows_by : (layout : Layout) (column more : ℕ) → content_before layout column ≤ content_before layout (column + more)
before_grows_by layout column zero =
    let plus : column ≡ column + 0 = omega arith in
    let same : content_before layout column ≡ content_before layout (column + 0) = ap (content_before layout) plus in omega (arith, same)
before_grows_by layout column (suc more) =
    let next : content_before layout (suc (column + more)) ≡ content_before layout (column + more) + height_of layout (column + more) = refl in
    let plus : suc (column + more) ≡ column + suc more = omega arith in
    let same : content_before layout (suc (column + more)) ≡ content_before layout (column + suc more) = ap (content_before layout) plus in
    omega (arith, next, same, before_grows_by layout column more)

-- Of two columns the later one begins after all of the earlier one.
later_column : (layout : Layout) (early late : ℕ) → early < late → content_before layout early + height_of layout early ≤ content_before layout late
later_column layout early late before =
    let plus : suc early + (late - suc early) ≡ late = omega (arith, before) in
    let same : content_before layout (suc early + (late - suc early)) ≡ content_before layout late = ap (content_before layout) plus in
    let next : content_before layout (suc early) ≡ content_before layout early + height_of layout early = refl in
    omega (arith, same, next, before_grows_by layout (suc early) (late - suc early))

-- A content sector stands in one place at most.
pub once : (layout : Layout) (content row column row' column' : ℕ)
    → IsContentAt layout content row column → IsContentAt layout content row' column' → (row ≡ row') × (column ≡ column')
once layout content row column row' column' one other =
    ⊎_elim (λ less. absurd (omega (arith, one.row_in, one.here, other.here, later_column layout column column' less)))
    (λ rest. ⊎_elim (λ more. absurd (omega (arith, other.row_in, one.here, other.here, later_column layout column' column more)))
    (λ at_most. let same : column ≡ column' = omega (arith, rest, at_most) in
    let before : content_before layout column ≡ content_before layout column' = ap (content_before layout) same in
    (omega (arith, one.here, other.here, before), same)) (cases_lt column' column)) (cases_lt column column')

-- What is below the sum of the first columns stands in one of them.
found : (layout : Layout) (content columns : ℕ) → columns ≤ content_columns layout → content < content_before layout columns
    → (row : ℕ) × (column : ℕ) × IsContentAt layout content row column
found layout content zero few below = absurd (omega (arith, below))
found layout content (suc columns) few below =
    ⊎_elim (λ less. found layout content columns (omega (arith, few)) less)
    (λ more. (
      content - content_before layout columns,
      columns,
      record { column_in = omega (arith, few); row_in = omega (arith, below, more); here = omega (arith, more) },
    ))
    (cases_lt content (content_before layout columns))

-- Where no row is short, each column before has all rows.
pub before_whole : (layout : Layout) (columns : ℕ) → left_over layout ≡ 0 → content_before layout columns ≡ columns * rows_of layout
before_whole layout zero whole = omega arith
before_whole layout (suc columns) whole =
    let height : height_of layout columns ≡ rows_of layout = grind (arith, nat_tests, whole) in
    omega (arith, before_whole layout columns whole, height, add-mul columns 1 (rows_of layout), one-mul (rows_of layout))

-- Where one is, the columns from the short row's end on lack one.
before_short : (layout : Layout) (columns : ℕ) → 0 < left_over layout
    → content_before layout columns + (columns - left_over layout) ≡ columns * (whole_rows layout + 1)
before_short layout zero short = omega (arith, short)
before_short layout (suc columns) short =
    let more : suc columns * (whole_rows layout + 1) ≡ columns * (whole_rows layout + 1) + (whole_rows layout + 1) =
    omega (arith, add-mul columns 1 (whole_rows layout + 1), one-mul (whole_rows layout + 1)) in
    let rows : rows_of layout ≡ whole_rows layout + 1 = grind (arith, nat_tests, short) in
    let high : columns < left_over layout → height_of layout columns ≡ rows_of layout = λ less. grind (arith, nat_tests, less) in
    let low : left_over layout ≤ columns → height_of layout columns ≡ rows_of layout - 1 = λ more. grind (arith, nat_tests, more, short) in
    ⊎_elim (λ less. omega (arith, before_short layout columns short, more, rows, high less, less))
    (λ after. omega (arith, before_short layout columns short, more, rows, low after, after)) (cases_lt columns (left_over layout))

-- The content columns hold all content.
pub before_all : (layout : Layout) → IsLayout layout → content_before layout (content_columns layout) ≡ layout.sectors
before_all layout is =
    let some : 0 < content_columns layout = omega (arith, is.width) in
    let split : content_columns layout * whole_rows layout + left_over layout ≡ layout.sectors = div-add-mod layout.sectors (content_columns layout) in
    let under : left_over layout < content_columns layout = mod-lt layout.sectors some in
    let one_more : content_columns layout * (whole_rows layout + 1) ≡ content_columns layout * whole_rows layout + content_columns layout =
    omega (arith, mul-add (content_columns layout) (whole_rows layout) 1, mul_comm (content_columns layout) 1, one-mul (content_columns layout)) in
    ⊎_elim (λ none. let zero_left : left_over layout ≡ 0 = omega (arith, none) in
    let rows : rows_of layout ≡ whole_rows layout = grind (arith, nat_tests, zero_left) in
    let spread : content_columns layout * rows_of layout ≡ content_columns layout * whole_rows layout = ap (λ (k : ℕ). content_columns layout * k) rows in
    omega (arith, before_whole layout (content_columns layout) zero_left, spread, split, zero_left)) (λ short. omega (arith, before_short layout (content_columns layout) short, split, under, one_more)) (cases_lt (left_over layout) 1)

-- Each content sector stands somewhere.
pub somewhere : (layout : Layout) (content : ℕ) → IsLayout layout → content < layout.sectors
    → (row : ℕ) × (column : ℕ) × IsContentAt layout content row column
somewhere layout content is below =
    found layout content (content_columns layout) (omega arith) (omega (arith, before_all layout is, below))
