-- Two readings of a block that have the same columns tell the same.
use Rattle.std.proofs.Common.{◌≡◌, ℕ, ◌<◌, ◌≤◌, List, Bool, sym, ◌∙◌, arith}
use Rattle.row_layout.specs.Layout.{Layout, IsLayout, rows_of, columns_of, columns_in}
use Rattle.row_layout.proofs.Parts.{row_few}
use Rattle.reconstruct.specs.declared.pair.Pair.{Pair}
use Rattle.reconstruct.specs.Rows.{Rows, column_at}
use Rattle.reconstruct.specs.Suspects.{Choice}
use Rattle.reconstruct.specs.Solved.{columns_with, TellsBytes, question_with, ChoiceGives, IsDecoded, IsDamaged}
use Rattle.reconstruct.proofs.Choices.{parity_in_row}

-- The same columns stand in both rows, as far as the layout has any.
pub record HaveSameColumns (layout : Layout) (one other : Rows) : Type 0 where
  pub at : (row column : ℕ) → row < rows_of layout → column < columns_of layout
      → column_at one row column ≡ column_at other row column

-- the same, told from the other side
same_back : (layout : Layout) (one other : Rows) → HaveSameColumns layout one other → HaveSameColumns layout other one
same_back layout one other same = record { at = λ row column row_in low. sym (same.at row column row_in low) }

-- They tell the same bytes.
tells_same : (layout : Layout) (one other : Rows) (masks : List ℕ) (lost : ℕ → ℕ → Bool) (len : ℕ) (sha bytes : List ℕ)
    → IsLayout layout → HaveSameColumns layout one other → TellsBytes layout (columns_with one masks) lost len sha bytes
    → TellsBytes layout (columns_with other masks) lost len sha bytes
tells_same layout one other masks lost len sha bytes is same told = record {
  enough = told.enough;
  whole = told.whole;
  solves = record {
    wide = told.solves.wide;
    content = λ row column within behind there.
        sym (same.at row column within.row_in (omega (arith, within.column_in, row_few layout row is)))
        ∙ told.solves.content row column within behind there;
    parity = λ row which row_in serves.
        let room : layout.parity ≤ columns_in layout row = parity_in_row layout row is row_in in
        sym (same.at row which row_in (omega (arith, serves.among, room, row_few layout row is)))
        ∙ told.solves.parity row which row_in serves;
  };
  are_bytes = told.are_bytes;
  begins = told.begins;
  digest = told.digest;
}

module _ (layout : Layout) (masks : List ℕ) (len : ℕ) (sha : List ℕ) (suspects : List Pair) (is : IsLayout layout) where
  gives_same : (one other : Rows) (choice : Choice) (bytes : List ℕ) → HaveSameColumns layout one other
      → ChoiceGives (question_with layout one masks len sha suspects) choice bytes
      → ChoiceGives (question_with layout other masks len sha suspects) choice bytes
  gives_same one other choice bytes same given =
      record { choice_is = given.choice_is; told = tells_same layout one other masks _ len sha bytes is same given.told }

  -- Law: Of rows that have the same columns the same is decoded.
  pub decoded_same : (one other : Rows) (bytes : List ℕ) → HaveSameColumns layout one other
      → IsDecoded (question_with layout one masks len sha suspects) bytes
      → IsDecoded (question_with layout other masks len sha suspects) bytes
  decoded_same one other bytes same decoded = record {
    choice = decoded.choice;
    given = gives_same one other decoded.choice bytes same decoded.given;
    alone = λ wrong given.
        decoded.alone wrong (gives_same other one decoded.choice wrong (same_back layout one other same) given);
    first = λ choice wrong before given.
        decoded.first choice wrong before (gives_same other one choice wrong (same_back layout one other same) given);
  }

  -- Law: Of rows that have the same columns both are damaged or none.
  pub damaged_same : (one other : Rows) → HaveSameColumns layout one other
      → IsDamaged (question_with layout one masks len sha suspects)
      → IsDamaged (question_with layout other masks len sha suspects)
  damaged_same one other same damaged choice bytes given =
      damaged choice bytes (gives_same other one choice bytes (same_back layout one other same) given)
