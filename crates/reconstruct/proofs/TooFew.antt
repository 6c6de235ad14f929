-- What is lost stays lost in each choice.
use Rattle.std.proofs.Common.{◌≡◌, ℕ, ◌<◌, ◌≤◌, List, Bool, true, false, refl, arith}
use Rattle.std.specs.Prelude.{slice_index, ◌||◌}
use Rattle.gf_solve.specs.Row.{is_masked, count_lost}
use Rattle.gf_solve.proofs.Counting.{count_mono}
use Rattle.row_layout.specs.Layout.{Layout, rows_of, columns_in}
use Rattle.reconstruct.specs.declared.pair.Pair.{Pair}
use Rattle.reconstruct.specs.Rows.{Rows}
use Rattle.reconstruct.specs.Lost.{HasTooFew}
use Rattle.reconstruct.specs.Suspects.{Choice}
use Rattle.reconstruct.specs.Solved.{question_with, lost_by_choice, ChoiceGives}

-- Law: Where some row has lost more columns than it has parity, no choice gives any bytes.
pub too_few_gives_none : (layout : Layout) (rows : Rows) (masks : List ℕ) (len : ℕ) (sha : List ℕ)
    (suspects : List Pair) (row : ℕ) → row < rows_of layout → HasTooFew layout masks row
    → (choice : Choice) (bytes : List ℕ)
    → ChoiceGives (question_with layout rows masks len sha suspects) choice bytes → ⊥
too_few_gives_none layout rows masks len sha suspects row row_in few choice bytes given =
    given.told.enough (record { row = row; row_in = row_in; many = omega (arith, few, counted) })
  where
    stays : (masked suspected : Bool) → masked ≡ true → (masked || suspected) ≡ true
    stays true suspected is = refl
    stays false suspected is = absurd cc

    counted : count_lost (is_masked (slice_index masks row)) 0 (columns_in layout row)
        ≤ count_lost (lost_by_choice (question_with layout rows masks len sha suspects) choice row) 0
        (columns_in layout row)
    counted =
        count_mono (is_masked (slice_index masks row))
        (lost_by_choice (question_with layout rows masks len sha suspects) choice row) 0 (columns_in layout row)
        (λ column from below masked. stays _ _ masked)
