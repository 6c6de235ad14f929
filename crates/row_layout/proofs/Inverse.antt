-- Where a content sector stands, from its number.
use Rattle.std.proofs.Common.{◌≡◌, ℕ, zero, suc, ◌+◌, ◌-◌, ◌*◌, ◌/◌, ◌%◌, ◌<◌, ◌≤◌, ◌⊎◌, refl, sym, ◌∙◌, arith, ap}
use Rattle.std.proofs.Common.{⊎_elim}
use Rattle.std.proofs.lemmas.Nat.{div-add-mod', div_below, mod_below}
use Rattle.std.proofs.Math.Nat.{add-mul, mul-add, mul-one}
use Rattle.row_layout.specs.Layout.{Layout, IsLayout, content_columns, whole_rows, left_over, rows_of}
use Rattle.row_layout.proofs.Counts.{split, left_over_few, rows_whole, rows_short, rows_some}
use Rattle.row_layout.proofs.Once.{IsContentAt, before_whole}
use Rattle.row_layout.specs.Standing.{IsOnlyPlace}
use Rattle.row_layout.proofs.Laws.{only_place}
use Rattle.row_layout.proofs.Parts.{before_first, before_rest, height_whole, height_high, height_low}

-- The place of a content sector, behind the parity columns.
pub record IsHolder (layout : Layout) (content row column : ℕ) : Type 0 where
  pub place : IsOnlyPlace layout content row column
  pub behind_parity : layout.parity ≤ column

held : (layout : Layout) (content row column : ℕ) → IsLayout layout → IsContentAt layout content row column
    → IsHolder layout content row (layout.parity + column)
held layout content row column is at =
    let plus : column + layout.parity ≡ layout.parity + column = omega arith in
    record { place = rw (← plus) (only_place layout content row column is at); behind_parity = omega arith }

-- The rows of columns that have all of them are counted off.
counted_off : (content rows : ℕ) → content ≡ content / rows * rows + content % rows
counted_off content rows = sym (div-add-mod' content rows)

-- Where no row is short, a content sector stands in the column that its number divided by the rows is.
pub holder_whole : (layout : Layout) (content : ℕ) → IsLayout layout → left_over layout ≡ 0 → content < layout.sectors
    → IsContentAt layout content (content % rows_of layout) (content / rows_of layout)
holder_whole layout content is none below =
    let some : 0 < rows_of layout = rows_some layout is in
    let all : layout.sectors ≡ content_columns layout * rows_of layout =
    sym (split layout) ∙ omega (arith, none) ∙ ap (λ (k : ℕ). content_columns layout * k) (sym (rows_whole layout none)) in
    record {
      column_in = div_below content (rows_of layout) (content_columns layout) some (omega (arith, below, all));
      row_in = omega (arith, mod_below content (rows_of layout) some, height_whole layout (content / rows_of layout) none);
      here = counted_off content (rows_of layout) ∙ ap (λ (k : ℕ). k + content % rows_of layout) (sym (before_whole layout (content / rows_of layout) none));
    }

-- So it is among the columns that the short row reaches.
pub holder_first : (layout : Layout) (content : ℕ) → IsLayout layout → 0 < left_over layout → content < left_over layout * rows_of layout
    → IsContentAt layout content (content % rows_of layout) (content / rows_of layout)
holder_first layout content is short below =
    let some : 0 < rows_of layout = rows_some layout is in
    let high : content / rows_of layout < left_over layout = div_below content (rows_of layout) (left_over layout) some below in
    record {
      column_in = omega (arith, high, left_over_few layout is);
      row_in = omega (arith, mod_below content (rows_of layout) some, height_high layout (content / rows_of layout) high);
      here = counted_off content (rows_of layout)
          ∙ ap (λ (k : ℕ). k + content % rows_of layout) (sym (before_first layout (content / rows_of layout) (λ none. omega (arith, none, short)) (omega (arith, high))));
    }

-- Behind them the columns have a row less.
pub holder_rest : (layout : Layout) (content behind : ℕ) → IsLayout layout → 0 < left_over layout → content < layout.sectors
    → content ≡ left_over layout * rows_of layout + behind
    → (0 < rows_of layout - 1) × IsContentAt layout content (behind % (rows_of layout - 1)) (left_over layout + behind / (rows_of layout - 1))
holder_rest layout content behind is short below from =
    let less : rows_of layout - 1 ≡ whole_rows layout = omega (arith, rows_short layout short) in
    let first : left_over layout * rows_of layout ≡ left_over layout * whole_rows layout + left_over layout =
    ap (λ (k : ℕ). left_over layout * k) (rows_short layout short) ∙ mul-add (left_over layout) (whole_rows layout) 1 ∙ omega (arith, mul-one (left_over layout)) in
    let columns : content_columns layout ≡ left_over layout + (content_columns layout - left_over layout) = omega (arith, left_over_few layout is) in
    let all : content_columns layout * whole_rows layout ≡ left_over layout * whole_rows layout + (content_columns layout - left_over layout) * whole_rows layout =
    ap (λ (k : ℕ). k * whole_rows layout) columns ∙ add-mul (left_over layout) (content_columns layout - left_over layout) (whole_rows layout) in
    let rest : behind < (content_columns layout - left_over layout) * whole_rows layout = omega (arith, below, from, first, all, split layout) in
    let some : 0 < whole_rows layout = positive (whole_rows layout) rest in
    let column : behind / whole_rows layout < content_columns layout - left_over layout =
    div_below behind (whole_rows layout) (content_columns layout - left_over layout) some rest in
    let row : behind % whole_rows layout < whole_rows layout = mod_below behind (whole_rows layout) some in
    rw less (
      omega (arith, some),
      record {
        column_in = omega (arith, column);
        row_in = omega (arith, row, height_low layout (left_over layout + behind / whole_rows layout) short (omega arith));
        here = from ∙ ap (λ (k : ℕ). left_over layout * rows_of layout + k) (counted_off behind (whole_rows layout))
            ∙ sum (left_over layout * rows_of layout) (behind / whole_rows layout * whole_rows layout) (behind % whole_rows layout)
            ∙ ap (λ (k : ℕ). left_over layout * rows_of layout + behind / whole_rows layout * k + behind % whole_rows layout) (sym less)
            ∙ ap (λ (k : ℕ). k + behind % whole_rows layout) (sym (before_rest layout (behind / whole_rows layout) short));
      },
    )
  where
    positive : (whole : ℕ) → behind < (content_columns layout - left_over layout) * whole → 0 < whole
    positive zero low = absurd (omega (arith, low))
    positive (suc whole) low = omega arith

    sum : (a b c : ℕ) → a + (b + c) ≡ a + b + c
    sum a b c = omega arith

nonzero : (n : ℕ) → (n ≡ 0 → ⊥) → 0 < n
nonzero zero none = absurd (none refl)
nonzero (suc n) none = omega arith

-- The place by numbers that were computed.
pub holder_in_high : (layout : Layout) (content left rows parity : ℕ) → IsLayout layout → left ≡ left_over layout → rows ≡ rows_of layout
    → parity ≡ layout.parity → content < layout.sectors → (left ≡ 0) ⊎ ((left ≡ 0 → ⊥) × (content < left * rows))
    → IsHolder layout content (content % rows) (parity + content / rows)
holder_in_high layout content left rows parity is left_is rows_is parity_is below either =
    rw (rows_is, parity_is) (held layout content (content % rows_of layout) (content / rows_of layout) is at)
  where
    at : IsContentAt layout content (content % rows_of layout) (content / rows_of layout)
    at = ⊎_elim (λ none. holder_whole layout content is (sym left_is ∙ none) below)
        (λ short. holder_first layout content is (nonzero (left_over layout) (λ none. short.0 (left_is ∙ none)))
        (omega (arith, short.1, ap (λ (k : ℕ). k * rows) left_is, ap (λ (k : ℕ). left_over layout * k) rows_is))) either

pub holder_in_low : (layout : Layout) (content left rows parity : ℕ) → IsLayout layout → left ≡ left_over layout → rows ≡ rows_of layout
    → parity ≡ layout.parity → content < layout.sectors → (left ≡ 0 → ⊥) × (left * rows ≤ content)
    → IsHolder layout content ((content - left * rows) % (rows - 1)) (parity + left + (content - left * rows) / (rows - 1))
holder_in_low layout content left rows parity is left_is rows_is parity_is below low =
    rw (left_is, rows_is, parity_is) (rw (plus layout.parity (left_over layout) ((content - left_over layout * rows_of layout) / (rows_of layout - 1)))
    (held layout content ((content - left_over layout * rows_of layout) % (rows_of layout - 1)) (left_over layout + (content - left_over layout * rows_of layout) / (rows_of layout - 1)) is at.1))
  where
    plus : (a b c : ℕ) → a + b + c ≡ a + (b + c)
    plus a b c = omega arith

    short : 0 < left_over layout
    short = nonzero (left_over layout) (λ none. low.0 (left_is ∙ none))

    high : left_over layout * rows_of layout ≤ content
    high = omega (arith, low.1, ap (λ (k : ℕ). k * rows) left_is, ap (λ (k : ℕ). left_over layout * k) rows_is)

    at : (0 < rows_of layout - 1) × IsContentAt layout content ((content - left_over layout * rows_of layout) % (rows_of layout - 1)) (left_over layout + (content - left_over layout * rows_of layout) / (rows_of layout - 1))
    at = holder_rest layout content (content - left_over layout * rows_of layout) is short below (omega (arith, high))
