-- What is decoded of the columns that were read of a block.
use Rattle.std.proofs.Common.{◌≡◌, ℕ, List, [], length, subst}
use Rattle.sha2.specs.Sha256.{sha256}
use Rattle.row_layout.specs.Layout.{Layout, IsLayout}
use Rattle.reconstruct.specs.Rows.{sectors_for}
use Rattle.reconstruct.specs.Lost.{AreBytes, IsLeftOver}
use Rattle.reconstruct.specs.Suspects.{suspects_of}
use Rattle.reconstruct.specs.Solved.{question_with, IsDecoded, IsDamaged}
use Rattle.reconstruct.specs.Covered.{IsChoiceAsked, Covers}
use Rattle.reconstruct.proofs.Covered.{first_choice, covered_undamaged, decoded_long, left_covered}
use Rattle.reconstruct.proofs.TooFew.{too_few_gives_none}
use Rattle.reconstruct.proofs.SameColumns.{HaveSameColumns, decoded_same, damaged_same}
use Rattle.core_client.specs.declared.columns_read.ColumnsRead.{ColumnsRead}
use Rattle.core_client.specs.declared.widths.Widths.{Widths}
use Rattle.core_client.specs.Got.{HasLostFew}
use Rattle.core_client.specs.Asked.{question_of}

module _ (layout : Layout) (read : ColumnsRead) (len : ℕ) (digest : List ℕ) (widths : Widths)
    (sectors : sectors_for len ≡ layout.sectors) where
  -- Law: What is decoded has the length and digest that were asked for.
  pub decoded_fits : (bytes : List ℕ) → IsDecoded (question_of layout read len digest widths) bytes
      → (length bytes ≡ len) × (sha256 bytes ≡ digest)
  decoded_fits bytes decoded =
      (decoded_long (question_of layout read len digest widths) bytes sectors decoded, decoded.given.told.digest)

  -- Law: Where some row has lost more columns than it has parity, the block is damaged.
  pub many_damaged : (HasLostFew layout read → ⊥) → IsDamaged (question_of layout read len digest widths)
  many_damaged many choice bytes given = many (record {
    each = λ row row_in few.
        too_few_gives_none layout read.rows read.lost.items len digest (suspects_of widths.births widths.to widths.mark)
        row row_in few choice bytes given;
  })

  module _ (content : List ℕ) (is : IsLayout layout) (left : IsLeftOver layout content read.rows read.lost.items)
      (few : HasLostFew layout read) (long : length content ≡ len) (all : AreBytes content)
      (digest_is : sha256 content ≡ digest) where
    asked : IsChoiceAsked (question_of layout read len digest widths) content
    asked = record { layout = is; sectors = sectors; len = long; are_bytes = all; digest = digest_is }

    covered : Covers (question_of layout read len digest widths) [] content
    covered =
        left_covered layout read.rows read.lost.items len digest (suspects_of widths.births widths.to widths.mark)
        content is left few.each

    -- Law: Where the columns are left of a block, and few lost of each row, what is decoded is the block.
    pub left_decoded : (bytes : List ℕ) → IsDecoded (question_of layout read len digest widths) bytes
        → bytes ≡ content
    left_decoded bytes decoded =
        first_choice (question_of layout read len digest widths) content bytes asked covered decoded

    -- Law: A block of which such columns are left is not damaged.
    pub left_undamaged : IsDamaged (question_of layout read len digest widths) → ⊥
    left_undamaged damaged =
        covered_undamaged (question_of layout read len digest widths) [] content asked covered damaged

-- Two readings lost the same columns, and got the same.
pub record AreAlike (layout : Layout) (one other : ColumnsRead) : Type 0 where
  pub lost : one.lost.items ≡ other.lost.items
  pub columns : HaveSameColumns layout one.rows other.rows

module _ (layout : Layout) (one other : ColumnsRead) (len : ℕ) (digest : List ℕ) (widths : Widths)
    (is : IsLayout layout) (alike : AreAlike layout one other) where
  -- Law: Of two readings that lost and got the same, the same is decoded.
  pub decoded_alike : (bytes : List ℕ) → IsDecoded (question_of layout one len digest widths) bytes
      → IsDecoded (question_of layout other len digest widths) bytes
  decoded_alike bytes decoded =
      subst (λ (masks : List ℕ). IsDecoded (question_with layout other.rows masks len digest
      (suspects_of widths.births widths.to widths.mark)) bytes) alike.lost
      (decoded_same layout one.lost.items len digest (suspects_of widths.births widths.to widths.mark) is one.rows
      other.rows bytes alike.columns decoded)

  -- Law: Of two readings that lost and got the same, both are damaged or none.
  pub damaged_alike : IsDamaged (question_of layout one len digest widths)
      → IsDamaged (question_of layout other len digest widths)
  damaged_alike damaged =
      subst (λ (masks : List ℕ). IsDamaged (question_with layout other.rows masks len digest
      (suspects_of widths.births widths.to widths.mark))) alike.lost
      (damaged_same layout one.lost.items len digest (suspects_of widths.births widths.to widths.mark) is one.rows
      other.rows alike.columns damaged)
