-- Masks of what a choice of suspects adds to what is lost.
use Rattle.std.proofs.Common.{◌≡◌, ℕ, ◌+◌, ◌<◌, List, [], ◌∷◌, ◌++◌, length, ◌∙◌, ap, arith, ⊎_elim}
use Rattle.std.specs.Prelude.{slice_index, bit_or, ◌||◌}
use Rattle.std.proofs.lemmas.Bool.{cases_lt}
use Rattle.std.proofs.lemmas.List.{get_or_append_left, get_or_push}
use Rattle.gf_solve.specs.Row.{is_masked}
use Rattle.row_layout.specs.Layout.{Layout, columns_in, end_of, sector_of}
use Rattle.reconstruct.specs.declared.pair.Pair.{Pair}
use Rattle.reconstruct.specs.Suspects.{is_suspect}
use Rattle.reconstruct.proofs.Masks.{masked_or}

-- One row more has a mask.
pub one_row_masked : (layout : Layout) (pair : Pair) (lost old new : List ℕ) (done suspects : ℕ) → length old ≡ done
    → new ≡ old ++ bit_or (slice_index lost done) suspects ∷ []
    → ((row column : ℕ) → row < done → column < columns_in layout row
    → is_masked (slice_index old row) column
    ≡ (is_masked (slice_index lost row) column || is_suspect (end_of layout row) (sector_of layout row column) pair))
    → ((column : ℕ) → column < columns_in layout done
    → is_masked suspects column ≡ is_suspect (end_of layout done) (sector_of layout done column) pair)
    → (row column : ℕ) → row < done + 1 → column < columns_in layout row
    → is_masked (slice_index new row) column
    ≡ (is_masked (slice_index lost row) column || is_suspect (end_of layout row) (sector_of layout row column) pair)
one_row_masked layout pair lost old new done suspects long new_is so_far here row column low inside =
    ap (λ (k : List ℕ). is_masked (slice_index k row) column) new_is
    ∙ ⊎_elim (λ before.
    ap (λ (k : ℕ). is_masked k column)
    (get_or_append_left old (bit_or (slice_index lost done) suspects ∷ []) 0 row (omega (arith, before, long)))
    ∙ so_far row column before inside)
    (λ last. at_last (omega (arith, last, low)))
    (cases_lt row done)
  where
    at_last : done ≡ row → is_masked (slice_index (old ++ bit_or (slice_index lost done) suspects ∷ []) row) column
        ≡ (is_masked (slice_index lost row) column || is_suspect (end_of layout row) (sector_of layout row column) pair)
    at_last same =
        let inside_done : column < columns_in layout done = rw same inside in
        ap (λ (k : ℕ). is_masked k column)
        (get_or_push old (bit_or (slice_index lost done) suspects) 0 row (long ∙ same))
        ∙ masked_or (slice_index lost done) suspects column
        ∙ ap (λ t. is_masked (slice_index lost done) column || t) (here column inside_done)
        ∙ ap (λ (k : ℕ). is_masked (slice_index lost k) column
        || is_suspect (end_of layout k) (sector_of layout k column) pair) same
