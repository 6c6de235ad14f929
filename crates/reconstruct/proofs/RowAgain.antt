-- The columns of a row of a block: parity, and the content that it is of.
use Rattle.std.proofs.Common.{◌≡◌, ℕ, zero, suc, ◌+◌, ◌-◌, ◌*◌, ◌<◌, List, [], ◌∷◌, ◌++◌, length, Bool, true, false}
use Rattle.std.proofs.Common.{refl, sym, ◌∙◌, ap, arith, ⊎_elim, length-append}
use Rattle.std.specs.Prelude.{take, drop, replicate, slice_index, slice_index_or, nat_lt, if◌then◌else◌}
use Rattle.std.proofs.lemmas.Bool.{cases_lt}
use Rattle.std.proofs.lemmas.List.{get_or_append_left, get_or-append-add, get_or_push, get_or-take, get_or-drop}
use Rattle.std.proofs.lemmas.List.{get_or_past, length-take, length-replicate}
use Rattle.gf_parity.specs.Parity.{parity_column}
use Rattle.gf_solve.specs.Row.{IsSector, AreSectors}
use Rattle.row_layout.specs.declared.column.Part.TheVariants.{Content, Missing}
use Rattle.row_layout.specs.Layout.{Layout, columns_of, height_of, content_before}
use Rattle.row_layout.proofs.Parts.{parity_here}
use Rattle.reconstruct.specs.Columns.{zero_sector, content_sector, content_bytes, row_contents, part_bytes}
use Rattle.reconstruct.specs.Columns.{column_bytes}
use Rattle.reconstruct.specs.Lost.{AreBytes}
use Rattle.reconstruct.proofs.Contents.{length-row_contents, row_contents-at, row_holds}

-- ---- sectors

zeros_below : (count at : ℕ) → slice_index (replicate count 0) at < 256
zeros_below zero at = omega arith
zeros_below (suc count) zero = omega arith
zeros_below (suc count) (suc at) = zeros_below count at

missing_sector : IsSector zero_sector
unfolding zero_sector
missing_sector = record { wide = length-replicate {A = ℕ} 512 0; bytes = λ at. zeros_below 512 at }

sector_of_bytes : (bytes : List ℕ) (number : ℕ) → AreBytes bytes → IsSector (content_sector bytes number)
unfolding content_sector
sector_of_bytes bytes number all = record {
  wide = length-take 512 whole ∙ omega (arith, length-append (drop (512 * number) bytes) (replicate 512 0), length-replicate {A = ℕ} 512 0);
  bytes = λ at. ⊎_elim (λ low. rw (get_or-take 512 whole at 0 low) (inside at)) (λ past. rw (get_or_past (take 512 whole) at 0 (omega (arith, past, length-take 512 whole))) (omega arith)) (cases_lt at 512);
}
  where
    whole : List ℕ
    whole = drop (512 * number) bytes ++ replicate 512 0

    inside : (at : ℕ) → slice_index (drop (512 * number) bytes ++ replicate 512 0) at < 256
    inside at =
        ⊎_elim (λ front. rw (get_or_append_left (drop (512 * number) bytes) (replicate 512 0) 0 at front) (rw (get_or-drop (512 * number) bytes at 0) (all (512 * number + at))))
        (λ behind. let shift : at ≡ length (drop (512 * number) bytes) + (at - length (drop (512 * number) bytes)) = omega (arith, behind) in
        rw shift (rw (get_or-append-add (drop (512 * number) bytes) (replicate 512 0) (at - length (drop (512 * number) bytes)) 0) (zeros_below 512 (at - length (drop (512 * number) bytes)))))
        (cases_lt at (length (drop (512 * number) bytes)))

-- ---- the row

-- the first parity columns of some content
pub parity_list : ℕ → List (List ℕ) → List (List ℕ)
parity_list zero content = []
parity_list (suc which) content = parity_list which content ++ parity_column which content ∷ []

length-parity_list : (parity : ℕ) (content : List (List ℕ)) → length (parity_list parity content) ≡ parity
unfolding parity_list
length-parity_list zero content = refl
length-parity_list (suc which) content =
    length-append (parity_list which content) (parity_column which content ∷ []) ∙ omega (arith, length-parity_list which content)

parity_list-at : (parity : ℕ) (content : List (List ℕ)) (which : ℕ) → which < parity → slice_index_or (parity_list parity content) which [] ≡ parity_column which content
unfolding parity_list
parity_list-at zero content which low = absurd (omega (arith, low))
parity_list-at (suc parity) content which low =
    ⊎_elim (λ before. get_or_append_left (parity_list parity content) (parity_column parity content ∷ []) [] which (omega (arith, before, length-parity_list parity content))
    ∙ parity_list-at parity content which before)
    (λ last. let here : parity ≡ which = omega (arith, last, low) in
    get_or_push (parity_list parity content) (parity_column parity content) [] which (length-parity_list parity content ∙ here) ∙ ap (λ (k : ℕ). parity_column k content) here)
    (cases_lt which parity)

-- the content columns of a row
pub content_of_row : Layout → List ℕ → ℕ → List (List ℕ)
content_of_row layout bytes row = row_contents layout bytes row (columns_of layout - layout.parity)

-- all columns of a row
pub block_row : Layout → List ℕ → ℕ → List (List ℕ)
block_row layout bytes row = parity_list layout.parity (content_of_row layout bytes row) ++ content_of_row layout bytes row

pub block_row-at : (layout : Layout) (bytes : List ℕ) (row column : ℕ) → column < columns_of layout
    → slice_index_or (block_row layout bytes row) column [] ≡ column_bytes layout bytes row column
unfolding block_row content_of_row
block_row-at layout bytes row column low =
    row_holds layout bytes row (parity_list layout.parity (content_of_row layout bytes row)) (content_of_row layout bytes row)
    (length-parity_list layout.parity (content_of_row layout bytes row)) refl (λ which few. parity_list-at layout.parity (content_of_row layout bytes row) which few) column low

content_column_sector : (layout : Layout) (bytes : List ℕ) (row columns column : ℕ) → AreBytes bytes → column < columns
    → IsSector (slice_index_or (row_contents layout bytes row columns) column [])
content_column_sector layout bytes row columns column all low =
    rw (row_contents-at layout bytes row columns column low) (of_part (nat_lt row (height_of layout column)) (content_before layout column + row))
  where
    of_part : (test : Bool) (number : ℕ) → IsSector (content_bytes bytes (if test then Content number else Missing))
    of_part true number = sector_of_bytes bytes number all
    of_part false number = missing_sector

-- The content columns of a row are sectors.
pub content_sectors : (layout : Layout) (bytes : List ℕ) (row : ℕ) → AreBytes bytes → AreSectors (content_of_row layout bytes row)
unfolding content_of_row
content_sectors layout bytes row all = record {
  each = λ column low. content_column_sector layout bytes row (columns_of layout - layout.parity) column all
      (omega (arith, low, length-row_contents layout bytes row (columns_of layout - layout.parity)));
}

-- How many they are, and what stands in each, and in each parity column.
pub length-content_of_row : (layout : Layout) (bytes : List ℕ) (row : ℕ) → length (content_of_row layout bytes row) ≡ columns_of layout - layout.parity
unfolding content_of_row
length-content_of_row layout bytes row = length-row_contents layout bytes row (columns_of layout - layout.parity)

pub content_of_row-at : (layout : Layout) (bytes : List ℕ) (row column : ℕ) → layout.parity + column < columns_of layout
    → slice_index_or (content_of_row layout bytes row) column [] ≡ column_bytes layout bytes row (layout.parity + column)
unfolding block_row
content_of_row-at layout bytes row column low =
    let shift : layout.parity + column ≡ length (parity_list layout.parity (content_of_row layout bytes row)) + column =
    omega (arith, length-parity_list layout.parity (content_of_row layout bytes row)) in
    sym (get_or-append-add (parity_list layout.parity (content_of_row layout bytes row)) (content_of_row layout bytes row) column [])
    ∙ ap (λ (k : ℕ). slice_index_or (block_row layout bytes row) k []) (sym shift) ∙ block_row-at layout bytes row (layout.parity + column) low

pub parity_of_row : (layout : Layout) (bytes : List ℕ) (row which : ℕ) → which < layout.parity
    → column_bytes layout bytes row which ≡ parity_column which (content_of_row layout bytes row)
unfolding column_bytes content_of_row
parity_of_row layout bytes row which low = ap (part_bytes layout bytes row) (parity_here layout row which low)
