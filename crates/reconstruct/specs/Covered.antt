-- A choice that covers all that is wrong or lost of a block.
use Rattle.std.specs.Prelude.{◌≡◌, ℕ, List, length, false}
use Rattle.sha2.specs.Sha256.{sha256}
use Rattle.row_layout.specs.Layout.{IsLayout, IsColumn}
use Rattle.reconstruct.specs.Columns.{column_bytes}
use Rattle.reconstruct.specs.Rows.{sectors_for}
use Rattle.reconstruct.specs.Lost.{AreBytes}
use Rattle.reconstruct.specs.Suspects.{Choice, IsSuspectChoice}
use Rattle.reconstruct.specs.Solved.{Question, IsPassedOver, lost_by_choice}

-- The question is asked of the block of these bytes.
pub record IsChoiceAsked (question : Question) (content : List ℕ) : Type 0 where
  pub layout : IsLayout question.layout
  pub sectors : sectors_for question.len ≡ question.layout.sectors
  pub len : length content ≡ question.len
  pub are_bytes : AreBytes content
  pub digest : sha256 content ≡ question.sha

-- The choice leaves enough columns of each row, and those are the block's.
pub record Covers (question : Question) (choice : Choice) (content : List ℕ) : Type 0 where
  pub choice_is : IsSuspectChoice question.suspects question.layout.parity choice
  pub enough : IsPassedOver question.layout (lost_by_choice question choice) → ⊥
  pub right : (row column : ℕ) → IsColumn question.layout row column → lost_by_choice question choice row column ≡ false
      → question.columns.read row column ≡ column_bytes question.layout content row column
