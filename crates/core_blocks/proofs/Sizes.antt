-- A block takes no more sectors where its rows are wider.
use Rattle.std.proofs.Common.{◌≡◌, ⊎_elim, ℕ, ◌+◌, ◌*◌, ◌/◌, ◌<◌, ◌≤◌, ap, arith, ◌∙◌}
use Rattle.std.proofs.Math.Nat.{mod-lt, mul-add, mul-le-mul_left, mul-le-mul_right, le_of_mul-le-mul_left}
use Rattle.std.proofs.Math.Nat.{lt_of_mul-lt-mul_left, div-mul-le_self}
use Rattle.std.proofs.lemmas.Bool.{cases_lt}
use Rattle.std.proofs.lemmas.Nat.{le-div}
use Rattle.row_layout.specs.Layout.{Layout, content_columns, whole_rows, left_over, rows_of, total_of}
use Rattle.row_layout.proofs.Counts.{split, rows_whole, rows_short}
use Rattle.reconstruct.specs.Rows.{sectors_for}
use Rattle.core_blocks.specs.Usage.{size_at}

-- The rows of a layout hold its content,
rows_hold : (layout : Layout) → 0 < content_columns layout
    → layout.sectors ≤ content_columns layout * rows_of layout
rows_hold layout some = ⊎_elim
    (λ none. let zero_left : left_over layout ≡ 0 = omega (arith, none) in
    let rows : content_columns layout * rows_of layout ≡ content_columns layout * whole_rows layout =
    ap (λ (n : ℕ). content_columns layout * n) (rows_whole layout zero_left) in
    omega (arith, rows, split layout, zero_left))
    (λ left. let few = mod-lt layout.sectors some in
    let rows : content_columns layout * rows_of layout ≡ content_columns layout * whole_rows layout + content_columns layout * 1 =
    ap (λ (n : ℕ). content_columns layout * n) (rows_short layout (omega (arith, left)))
    ∙ mul-add (content_columns layout) (whole_rows layout) 1 in
    omega (arith, rows, split layout, few))
    (cases_lt (left_over layout) 1)

-- and are no more than any number of rows that does.
rows_least : (layout : Layout) (rows : ℕ) → 0 < content_columns layout
    → layout.sectors ≤ content_columns layout * rows → rows_of layout ≤ rows
rows_least layout rows some hold = ⊎_elim
    (λ none. let zero_left : left_over layout ≡ 0 = omega (arith, none) in
    let few : whole_rows layout ≤ rows =
    le_of_mul-le-mul_left (let all = split layout in omega (arith, all, hold)) some in
    let same = rows_whole layout zero_left in omega (arith, same, few))
    (λ left. let few : whole_rows layout < rows =
    lt_of_mul-lt-mul_left (content_columns layout) (let all = split layout in omega (arith, all, hold, left)) in
    let same = rows_short layout (omega (arith, left)) in omega (arith, same, few))
    (cases_lt (left_over layout) 1)

module _ (parity narrow wide sectors : ℕ) (some : parity < narrow) (wider : narrow ≤ wide) where
  abbrev at : ℕ → Layout
  at width = record { start = 0; sectors = sectors; parity = parity; width = width }

  rows_shrink : rows_of (at wide) ≤ rows_of (at narrow)
  rows_shrink = rows_least (at wide) (rows_of (at narrow)) (omega (arith, some, wider))
      (let hold = rows_hold (at narrow) (omega (arith, some)) in
      let more : content_columns (at narrow) * rows_of (at narrow) ≤ content_columns (at wide) * rows_of (at narrow) =
      mul-le-mul_right (rows_of (at narrow)) (omega (arith, wider)) in
      omega (arith, hold, more))

  total_shrinks : total_of (at wide) ≤ total_of (at narrow)
  total_shrinks = let less : parity * rows_of (at wide) ≤ parity * rows_of (at narrow) =
      mul-le-mul_left parity rows_shrink in omega (arith, less)

pub size_shrinks : (parity narrow wide len : ℕ) → parity < narrow → narrow ≤ wide
    → size_at parity wide len ≤ size_at parity narrow len
size_shrinks parity narrow wide len some wider =
    let small : ℕ = total_of (at parity narrow wide (sectors_for len) some wider wide) + parity in
    let large : ℕ = total_of (at parity narrow wide (sectors_for len) some wider narrow) + parity in
    let total = total_shrinks parity narrow wide (sectors_for len) some wider in
    let fewer : small / (parity + 1) ≤ large / (parity + 1) =
    le-div (small / (parity + 1)) large (parity + 1) (omega arith)
    (let below = div-mul-le_self small (parity + 1) in omega (arith, below, total)) in
    mul-le-mul_right (parity + 1) fewer
