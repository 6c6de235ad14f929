-- A row as it was, and what is left of it.
use Rattle.std.specs.Prelude.{◌≡◌, ℕ, zero, suc, ◌+◌, ◌/◌, ◌%◌, ◌^◌, ◌<◌, List, [], length, drop, slice_index}
use Rattle.std.specs.Prelude.{slice_index_or, Bool, false, ◌==◌, if◌then◌else◌}
use Rattle.gf_parity.specs.Parity.{parity_column}

-- 512 bytes
pub record IsSector (column : List ℕ) : Type 0 where
  pub wide : length column ≡ 512
  pub bytes : (at : ℕ) → slice_index column at < 256

-- Columns of 512 bytes.
pub record AreSectors (columns : List (List ℕ)) : Type 0 where
  pub each : (column : ℕ) → column < length columns → IsSector (slice_index_or columns column [])

-- The parity column of this number is that of some content columns.
abbrev pub IsParityOf : List (List ℕ) → List (List ℕ) → ℕ → Type 0
IsParityOf content parities which =
    slice_index_or parities which [] ≡ parity_column which content

-- A row: so many parity columns, and behind them the content columns whose parity they are.
pub record IsRow (parity : ℕ) (columns : List (List ℕ)) : Type 0 where
  pub sectors : AreSectors columns
  pub parities : (which : ℕ) → which < parity
      → IsParityOf (drop parity columns) columns which

-- The mask has this column.
abbrev pub is_masked : ℕ → ℕ → Bool
is_masked mask column = (mask / 2 ^ column) % 2 == 1

-- how many columns are lost, of so many from one on
abbrev pub count_lost : (ℕ → Bool) → ℕ → ℕ → ℕ
count_lost lost first zero = 0
count_lost lost first (suc more) = (if lost first then 1 else 0) + count_lost lost (first + 1) more

-- The columns that aren't lost are as they were.
pub record IsLeftOf (was : List (List ℕ)) (lost : ℕ → Bool) (columns : List (List ℕ)) : Type 0
  where
    pub long : length columns ≡ length was
    pub there : (column : ℕ) → column < length was → lost column ≡ false
        → slice_index_or columns column [] ≡ slice_index_or was column []
