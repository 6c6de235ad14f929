-- The bytes that the columns of a block tell, for each choice of what is lost.
use Rattle.std.specs.Prelude.{◌≡◌, ℕ, ◌-◌, ◌/◌, ◌%◌, ◌^◌, ◌*◌, ◌<◌, ◌≤◌, List, take, length, slice_index, Bool, false}
use Rattle.std.specs.Prelude.{◌||◌, ◌==◌}
use Rattle.sha2.specs.Sha256.{sha256}
use Rattle.gf_solve.specs.Row.{is_masked, count_lost}
use Rattle.gf_solve.specs.Serving.{Serves}
use Rattle.row_layout.specs.Layout.{Layout, IsColumn, rows_of, end_of, sector_of, columns_in}
use Rattle.reconstruct.specs.declared.pair.Pair.{Pair}
use Rattle.reconstruct.specs.Columns.{column_bytes}
use Rattle.reconstruct.specs.Rows.{Rows, column_at}
use Rattle.reconstruct.specs.Lost.{AreBytes}
use Rattle.reconstruct.specs.Suspects.{Choice, IsSuspectChoice, IsTriedBefore, suspects_sector}

-- A block's columns as they were read, by row and column; `lost` has a mask of columns for each
-- row.
pub record Columns : Type 0 where
  pub read : ℕ → ℕ → List ℕ
  pub lost : ℕ → ℕ

-- columns in memory, and masks of what is lost
abbrev pub columns_with : Rows → List ℕ → Columns
columns_with rows masks = record { read = column_at rows; lost = slice_index masks }

-- what the masks alone say is lost
abbrev pub is_masked_lost : List ℕ → ℕ → ℕ → Bool
is_masked_lost masks row column = is_masked (slice_index masks row) column

-- The column couldn't be read, or a pair of the choice suspects it.
abbrev pub is_lost : Layout → Columns → List Pair → Choice → ℕ → ℕ → Bool
is_lost layout columns suspects choice row column =
    ((columns.lost row / 2 ^ column) % 2 == 1)
    || suspects_sector suspects choice (end_of layout row) (sector_of layout row column)

-- More columns of a row are lost than there is parity.
pub record IsPassedOver (layout : Layout) (lost : ℕ → ℕ → Bool) : Type 0 where
  pub row : ℕ
  pub row_in : row < rows_of layout
  pub many : layout.parity < count_lost (lost row) 0 (columns_in layout row)

-- The parity column serves for solving the row.
abbrev pub ServesRow : Layout → (ℕ → ℕ → Bool) → ℕ → ℕ → Type 0
ServesRow layout lost row which =
    Serves (lost row) layout.parity
    (count_lost (lost row) layout.parity (columns_in layout row - layout.parity)) which

-- The bytes have the length, and the content columns that are there and the parity that serves are
-- theirs.
pub record IsSolution (layout : Layout) (columns : Columns) (lost : ℕ → ℕ
    → Bool) (len : ℕ) (bytes : List ℕ) : Type 0 where
  pub wide : length bytes ≡ len
  pub content : (row column : ℕ) → IsColumn layout row column → layout.parity ≤ column
      → lost row column ≡ false
      → columns.read row column ≡ column_bytes layout bytes row column
  pub parity : (row which : ℕ) → row < rows_of layout → ServesRow layout lost row which
      → columns.read row which ≡ column_bytes layout bytes row which

-- Filled up in some way to whole sectors, the bytes are a solution.
pub record BeginsSolution (layout : Layout) (columns : Columns) (lost : ℕ → ℕ → Bool)
    (bytes : List ℕ) : Type 0 where
  pub whole : List ℕ
  pub begins : take (length bytes) whole ≡ bytes
  pub solves : IsSolution layout columns lost (512 * layout.sectors) whole

-- The columns that aren't lost are enough to tell whole sectors, and they tell these alone.
pub record TellsSectors (layout : Layout) (columns : Columns) (lost : ℕ → ℕ → Bool)
    (whole : List ℕ) : Type 0 where
  pub enough : IsPassedOver layout lost → ⊥
  pub solves : IsSolution layout columns lost (512 * layout.sectors) whole
  pub alone : (other : List ℕ) → AreBytes other
      → IsSolution layout columns lost (512 * layout.sectors) other → other ≡ whole

-- The columns that aren't lost are enough to tell whole sectors that begin with these bytes, which have the digest.
pub record TellsBytes (layout : Layout) (columns : Columns) (lost : ℕ → ℕ → Bool) (len : ℕ)
    (sha bytes : List ℕ) : Type 0 where
  pub enough : IsPassedOver layout lost → ⊥
  pub whole : List ℕ
  pub solves : IsSolution layout columns lost (512 * layout.sectors) whole
  pub are_bytes : AreBytes whole
  pub begins : take len whole ≡ bytes
  pub digest : sha256 bytes ≡ sha

-- what is asked: a block's columns, length and digest, and the suspects
pub record Question : Type 0 where
  pub layout : Layout
  pub columns : Columns
  pub len : ℕ
  pub sha : List ℕ
  pub suspects : List Pair

-- what is asked of columns in memory
abbrev pub question_with : Layout → Rows → List ℕ → ℕ → List ℕ → List Pair → Question
question_with layout rows masks len sha suspects = record {
  layout = layout;
  columns = columns_with rows masks;
  len = len;
  sha = sha;
  suspects = suspects;
}

-- what is lost for a choice
abbrev pub lost_by_choice : Question → Choice → ℕ → ℕ → Bool
lost_by_choice question choice = is_lost question.layout question.columns question.suspects choice

-- The columns that a choice leaves tell these bytes.
abbrev pub Told : Question → Choice → List ℕ → Type 0
Told question choice bytes =
    TellsBytes question.layout question.columns (lost_by_choice question choice) question.len question.sha bytes

-- A choice gives these bytes, which have the digest.
pub record ChoiceGives (question : Question) (choice : Choice) (bytes : List ℕ) : Type 0 where
  pub choice_is : IsSuspectChoice question.suspects question.layout.parity choice
  pub told : Told question choice bytes

-- the answer: the bytes of the first choice that gives any, which gives no others
pub record IsDecoded (question : Question) (bytes : List ℕ) : Type 0 where
  pub choice : Choice
  pub given : ChoiceGives question choice bytes
  pub alone : (other : List ℕ) → ChoiceGives question choice other → other ≡ bytes
  pub first : (other : Choice) (wrong : List ℕ) → IsTriedBefore other choice
      → ChoiceGives question other wrong → ⊥

-- No choice gives bytes with the digest.
abbrev pub IsDamaged : Question → Type 0
IsDamaged question = (choice : Choice) (bytes : List ℕ) → ChoiceGives question choice bytes → ⊥

-- No choice gives other bytes with the digest of these.
pub record HasNoFalseChoice (question : Question) (bytes : List ℕ) : Type 0 where
  pub none : (choice : Choice) (other : List ℕ) → ChoiceGives question choice other → other ≡ bytes
