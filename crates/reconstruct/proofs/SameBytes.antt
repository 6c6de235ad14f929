-- Bytes that are filled up with zeros are the same block.
use Rattle.std.proofs.Common.{◌≡◌, ℕ, zero, suc, ◌+◌, ◌-◌, ◌*◌, ◌<◌, List, [], ◌∷◌, ◌++◌, length, Bool, refl, sym}
use Rattle.std.proofs.Common.{◌∙◌, ap, arith, ⊎_elim}
use Rattle.std.specs.Prelude.{drop, replicate, slice_index}
use Rattle.std.proofs.lemmas.Bool.{cases_lt}
use Rattle.std.proofs.lemmas.Grind.{same_number_lists}
use Rattle.std.proofs.lemmas.List.{get_or_append_left, get_or-append-add, get_or-take, get_or-drop, get_or_past}
use Rattle.gf_parity.specs.Parity.{parity_column}
use Rattle.gf_solve.proofs.Restored.{zero_there}
use Rattle.row_layout.specs.declared.column.Part.{Part}
use Rattle.row_layout.specs.declared.column.Part.TheVariants.{Parity, Content, Missing}
use Rattle.row_layout.specs.Layout.{Layout, columns_of, part_of, content_part}
use Rattle.reconstruct.specs.Columns.{content_sector, content_bytes, row_contents, part_bytes, column_bytes}
use Rattle.reconstruct.specs.Solved.{Columns, IsSolution}
use Rattle.reconstruct.proofs.Cutting.{length-content_sector}

-- Zeros behind bytes change no byte.
pub zeros_behind : (bytes : List ℕ) (count at : ℕ) → slice_index (bytes ++ replicate count 0) at ≡ slice_index bytes at
zeros_behind bytes count at =
    ⊎_elim (λ inside. get_or_append_left bytes (replicate count 0) 0 at inside)
    (λ behind. let shift : at ≡ length bytes + (at - length bytes) = omega (arith, behind) in
    ap (slice_index (bytes ++ replicate count 0)) shift ∙ get_or-append-add bytes (replicate count 0) (at - length bytes) 0
    ∙ zero_there count (at - length bytes) ∙ sym (get_or_past bytes at 0 behind)) (cases_lt at (length bytes))

-- A sector's byte is the block's there, or zero behind its end.
sector_at : (bytes : List ℕ) (number at : ℕ) → at < 512 → slice_index (content_sector bytes number) at ≡ slice_index bytes (512 * number + at)
unfolding content_sector
sector_at bytes number at low =
    get_or-take 512 (drop (512 * number) bytes ++ replicate 512 0) at 0 low ∙ zeros_behind (drop (512 * number) bytes) 512 at ∙ get_or-drop (512 * number) bytes at 0

-- the same bytes at each place, zeros behind the end
pub record AreAlike (a b : List ℕ) : Type 0 where
  pub at : (place : ℕ) → slice_index a place ≡ slice_index b place

module _ (layout : Layout) (a b : List ℕ) (alike : AreAlike a b) where
  same_sector : (number : ℕ) → content_sector a number ≡ content_sector b number
  same_sector number =
      same_number_lists (content_sector a number) (content_sector b number) (length-content_sector a number ∙ sym (length-content_sector b number))
      (λ at below. let low : at < 512 = omega (arith, below, length-content_sector a number) in
      sector_at a number at low ∙ alike.at (512 * number + at) ∙ sym (sector_at b number at low))

  same_content : (part : Part) → content_bytes a part ≡ content_bytes b part
  same_content (Content number) = same_sector number
  same_content (Parity which) = refl
  same_content Missing = refl

  same_contents : (row columns : ℕ) → row_contents layout a row columns ≡ row_contents layout b row columns
  same_contents row zero = refl
  same_contents row (suc column) =
      ap (λ (k : List (List ℕ)). k ++ content_bytes a (content_part layout row column) ∷ []) (same_contents row column)
      ∙ ap (λ (k : List ℕ). row_contents layout b row column ++ k ∷ []) (same_content (content_part layout row column))

  same_part : (row : ℕ) (part : Part) → part_bytes layout a row part ≡ part_bytes layout b row part
  same_part row (Parity which) = ap (parity_column which) (same_contents row (columns_of layout - layout.parity))
  same_part row (Content number) = same_sector number
  same_part row Missing = refl

  same_column : (row column : ℕ) → column_bytes layout a row column ≡ column_bytes layout b row column
  unfolding column_bytes
  same_column row column = same_part row (part_of layout row column)

  -- So one solves where the other does.
  pub solution_alike : (columns : Columns) (lost : ℕ → ℕ → Bool) (len other : ℕ) → length b ≡ other → IsSolution layout columns lost len a
      → IsSolution layout columns lost other b
  solution_alike columns lost len other long solution = record {
    wide = long;
    content = λ row column within behind there. solution.content row column within behind there ∙ same_column row column;
    parity = λ row which row_in serves. solution.parity row which row_in serves ∙ same_column row which;
  }
