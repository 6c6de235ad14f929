-- Each content sector stands once, what is missing lies behind a row's end, and a row's columns are
-- apart.
use Rattle.std.proofs.Common.{◌≡◌, ◌≢◌, ◌↔◌, ℕ, ◌+◌, ◌-◌, ◌*◌, ◌/◌, ◌%◌, ◌<◌, ◌≤◌, sym, ◌∙◌, arith, ap, ⊎_elim}
use Rattle.std.proofs.lemmas.Bool.{cases_lt}
use Rattle.std.proofs.Math.Nat.{add-mul, mul-add, mul_comm, one-mul, mul-le-mul_right, mul-le-mul_left, div-add-mod}
use Rattle.row_layout.specs.declared.column.Part.{Part}
use Rattle.row_layout.specs.declared.column.Part.TheVariants.{Parity, Content, Missing}
use Rattle.row_layout.specs.Layout.{Layout, IsLayout, IsColumn, content_columns, whole_rows, rows_of, columns_of}
use Rattle.row_layout.specs.Layout.{columns_in, total_of, height_of, content_before, part_of, sector_of}
use Rattle.row_layout.specs.Standing.{IsOnlyPlace, StandsOnce}
use Rattle.row_layout.proofs.Counts.{split, rows_short}
use Rattle.row_layout.proofs.Once.{IsContentAt, once, somewhere}
use Rattle.row_layout.proofs.Parts.{parity_here, content_here, missing_here, columns_few, whole_row_in, last_row_in}
use Rattle.row_layout.proofs.Parts.{last_row_is, reaches, reached}

content_number : (content other : ℕ) → (◌≡◌ {A = Part} (Content content) (Content other)) → content ≡ other
content_number content other same = cc

-- A column that holds a content sector lies behind the parity and above its end.
placed : (layout : Layout) (content row column : ℕ) → IsLayout layout → column < columns_of layout → part_of layout row column ≡ Content content
    → (layout.parity ≤ column) × IsContentAt layout content row (column - layout.parity)
placed layout content row column is column_in here =
    ⊎_elim (λ low. let parity : part_of layout row column ≡ Parity column = parity_here layout row column low in absurd cc)
    (λ high. ⊎_elim (λ above. (
      high,
      record {
        column_in = omega (arith, columns_few layout is, column_in, high, is.width);
        row_in = above;
        here = content_number content (content_before layout (column - layout.parity) + row) (sym here ∙ content_here layout row column high above);
      },
    ))
    (λ below. let none : part_of layout row column ≡ Missing = missing_here layout row column high below in absurd cc)
    (cases_lt row (height_of layout (column - layout.parity)))) (cases_lt column layout.parity)

-- A content sector's place is its only one.
pub only_place : (layout : Layout) (content row column : ℕ) → IsLayout layout → IsContentAt layout content row column
    → IsOnlyPlace layout content row (column + layout.parity)
only_place layout content row column is at =
    let back : column + layout.parity - layout.parity ≡ column = omega arith in
    let within = reached layout row column at.column_in at.row_in in
    record {
      within = record { row_in = within.0; column_in = within.1 };
      here = content_here layout row (column + layout.parity) (omega arith) (rw back at.row_in)
          ∙ ap (λ (k : ℕ). Content (content_before layout k + row)) back ∙ ap Content (sym at.here);
      only = λ other_row other_column row_in column_in there.
          let other = placed layout content other_row other_column is column_in there in
          let same = once layout content other_row (other_column - layout.parity) row column other.1 at in
          (same.0, omega (arith, other.0, same.1));
    }

-- Each content sector stands in one column of one row.
pub stands_once : (layout : Layout) (content : ℕ) → IsLayout layout → content < layout.sectors → StandsOnce layout content
stands_once layout content is below =
    let found = somewhere layout content is below in
    record { row = found.0; column = found.1 + layout.parity; place = only_place layout content found.0 found.1 is found.2 }

-- What is missing lies behind the row's end.
pub missing_behind : (layout : Layout) (row column : ℕ) → IsLayout layout → row < rows_of layout → column < columns_of layout
    → (part_of layout row column ≡ Missing) ↔ (columns_in layout row ≤ column)
missing_behind layout row column is row_in column_in = (behind, missing)
  where
    short : columns_in layout row ≤ column → layout.parity ≤ column
    short behind =
        ⊎_elim (λ whole. omega (arith, whole_row_in layout row whole, is.width, behind)) (λ last. omega (arith, last_row_in layout row last, behind)) (cases_lt row (whole_rows layout))

    behind : part_of layout row column ≡ Missing → columns_in layout row ≤ column
    behind none =
        ⊎_elim (λ inside. ⊎_elim (λ low. let parity : part_of layout row column ≡ Parity column = parity_here layout row column low in absurd cc)
        (λ high. let above : row < height_of layout (column - layout.parity) =
        reaches layout row (column - layout.parity) row_in (omega (arith, columns_few layout is, column_in, high, is.width)) (omega (arith, inside, high)) in
        let there : part_of layout row column ≡ Content (content_before layout (column - layout.parity) + row) = content_here layout row column high above in absurd cc)
        (cases_lt column layout.parity)) (λ outside. outside) (cases_lt column (columns_in layout row))

    missing : columns_in layout row ≤ column → part_of layout row column ≡ Missing
    missing outside =
        let high : layout.parity ≤ column = short outside in
        ⊎_elim (λ above. let within = reached layout row (column - layout.parity) (omega (arith, columns_few layout is, column_in, high, is.width)) above in
        absurd (omega (arith, within.1, high, outside)))
        (λ below. missing_here layout row column high below) (cases_lt row (height_of layout (column - layout.parity)))

-- The parity and the content of the whole rows before one.
rows_before : (layout : Layout) (row : ℕ) → IsLayout layout → row * layout.width ≡ row * content_columns layout + row * layout.parity
rows_before layout row is =
    let both : layout.width ≡ content_columns layout + layout.parity = omega (arith, is.width) in
    ap (λ (k : ℕ). row * k) both ∙ mul-add row (content_columns layout) layout.parity

-- The sectors of a block follow on each other, and end with the last row.
pub inside : (layout : Layout) (row column : ℕ) → IsLayout layout → IsColumn layout row column
    → sector_of layout row column < layout.start + total_of layout
inside layout row column is within =
    ⊎_elim (λ whole. let width : columns_in layout row ≡ layout.width = whole_row_in layout row whole in
    let next : (row + 1) * layout.width ≡ row * layout.width + layout.width = omega (arith, add-mul row 1 layout.width, one-mul layout.width) in
    let content : (row + 1) * content_columns layout ≤ whole_rows layout * content_columns layout = mul-le-mul_right (content_columns layout) (omega (arith, whole)) in
    let parity : (row + 1) * layout.parity ≤ rows_of layout * layout.parity = mul-le-mul_right layout.parity (omega (arith, within.row_in)) in
    omega (arith, within.column_in, width, next, content, parity, rows_before layout (row + 1) is, split layout, mul_comm (content_columns layout) (whole_rows layout), mul_comm layout.parity (rows_of layout)))
    (λ last. let at = last_row_is layout row within.row_in last in
    let here : row * layout.width ≡ whole_rows layout * layout.width = ap (λ (k : ℕ). k * layout.width) at.0 in
    let rows : layout.parity * rows_of layout ≡ layout.parity * whole_rows layout + layout.parity * 1 =
    ap (λ (k : ℕ). layout.parity * k) (rows_short layout at.1) ∙ mul-add layout.parity (whole_rows layout) 1 in
    omega (arith, within.column_in, last_row_in layout row last, here, rows, rows_before layout (whole_rows layout) is, split layout, mul_comm (content_columns layout) (whole_rows layout), mul_comm layout.parity (whole_rows layout)))
    (cases_lt row (whole_rows layout))

-- Numbers with the same remainder are at least the divisor apart.
remainder_apart : (width low high : ℕ) → low < high → low % width ≡ high % width → low + width ≤ high
remainder_apart width low high less same =
    ⊎_elim (λ more. let step : width * (low / width + 1) ≤ width * (high / width) = mul-le-mul_left width (omega (arith, more)) in
    let next : width * (low / width + 1) ≡ width * (low / width) + width * 1 = mul-add width (low / width) 1 in
    omega (arith, step, next, same, div-add-mod low width, div-add-mod high width))
    (λ few. let step : width * (high / width) ≤ width * (low / width) = mul-le-mul_left width few in
    absurd (omega (arith, step, same, less, div-add-mod low width, div-add-mod high width)))
    (cases_lt (low / width) (high / width))

-- The columns of a row stand on different devices, at each width that has room for the row.
pub columns_apart : (layout : Layout) (width row column other : ℕ) → columns_of layout ≤ width → column < columns_of layout → other < columns_of layout
    → other ≢ column → sector_of layout row other % width ≢ sector_of layout row column % width
columns_apart layout width row column other room column_in other_in differ same =
    ⊎_elim (λ less. omega (arith, remainder_apart width (sector_of layout row other) (sector_of layout row column) (omega (arith, less)) same, room, column_in))
    (λ rest. ⊎_elim (λ more. omega (arith, remainder_apart width (sector_of layout row column) (sector_of layout row other) (omega (arith, more)) (sym same), room, other_in))
    (λ at_most. differ (omega (arith, rest, at_most))) (cases_lt column other))
    (cases_lt other column)

-- What isn't missing stands among the block's sectors.
pub inside_named : (layout : Layout) (row column sector : ℕ) (part : Part) → IsLayout layout → row < rows_of layout
    → sector ≡ sector_of layout row column → (part ≡ Missing) ↔ (columns_in layout row ≤ column) → part ≢ Missing
    → sector < layout.start + total_of layout
inside_named layout row column sector part is row_in at missing there =
    ⊎_elim (λ less. rw at (inside layout row column is (record { row_in = row_in; column_in = less })))
    (λ behind. absurd (there (missing.1 behind))) (cases_lt column (columns_in layout row))
