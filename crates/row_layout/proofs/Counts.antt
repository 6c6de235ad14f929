-- How many rows and sectors a block has at most, and which columns of a row are missing.
use Rattle.std.proofs.Common.{◌≡◌, ℕ, ◌+◌, ◌*◌, ◌<◌, ◌≤◌, ◌∙◌, arith, ap, ⊎_elim}
use Rattle.std.proofs.lemmas.Bool.{cases_lt}
use Rattle.std.proofs.lemmas.Bool.Decides.{nat_tests}
use Rattle.std.proofs.Math.Nat.{div-add-mod, mul_comm, mod-lt, le-mul_of_pos_right}
use Rattle.row_layout.specs.Layout.{Layout, IsLayout, content_columns, whole_rows, left_over, rows_of}

-- The whole rows and the sectors left over are the content.
pub split : (layout : Layout) → content_columns layout * whole_rows layout + left_over layout ≡ layout.sectors
split layout = div-add-mod layout.sectors (content_columns layout)

pub left_over_few : (layout : Layout) → IsLayout layout → left_over layout < content_columns layout
left_over_few layout is = mod-lt layout.sectors (omega (arith, is.width))

pub rows_whole : (layout : Layout) → left_over layout ≡ 0 → rows_of layout ≡ whole_rows layout
rows_whole layout none = grind (arith, nat_tests, none)

pub rows_short : (layout : Layout) → 0 < left_over layout → rows_of layout ≡ whole_rows layout + 1
rows_short layout some = grind (arith, nat_tests, some)

-- A row holds at least one sector.
whole_rows_few : (layout : Layout) → IsLayout layout → whole_rows layout ≤ content_columns layout * whole_rows layout
whole_rows_few layout is =
    omega (arith, le-mul_of_pos_right {m = content_columns layout} (whole_rows layout) (omega (arith, is.width)), mul_comm (content_columns layout) (whole_rows layout))

-- There are no more rows than sectors.
pub rows_few : (layout : Layout) → IsLayout layout → rows_of layout ≤ layout.sectors
rows_few layout is =
    ⊎_elim (λ none. let zero_left : left_over layout ≡ 0 = omega arith in
    omega (arith, rows_whole layout zero_left, split layout, whole_rows_few layout is)) (λ some. omega (arith, rows_short layout some, split layout, whole_rows_few layout is)) (cases_lt (left_over layout) 1)

-- There is a row.
pub rows_some : (layout : Layout) → IsLayout layout → 0 < rows_of layout
rows_some layout is =
    ⊎_elim (λ none. let zero_left : left_over layout ≡ 0 = omega arith in
    ⊎_elim (λ no_row. let no_rows : whole_rows layout ≡ 0 = omega arith in
    let nothing : content_columns layout * whole_rows layout ≡ 0 = ap (λ (k : ℕ). content_columns layout * k) no_rows ∙ omega arith in
    absurd (omega (arith, split layout, nothing, is.content)))
    (λ row. omega (arith, rows_whole layout zero_left)) (cases_lt (whole_rows layout) 1)) (λ some. omega (arith, rows_short layout some)) (cases_lt (left_over layout) 1)
