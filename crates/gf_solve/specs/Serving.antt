-- Which parity columns the lost content is solved from.
use Rattle.std.specs.Prelude.{◌≡◌, ℕ, ◌+◌, ◌-◌, ◌<◌, List, [], length, slice_index_or, Bool, false}
use Rattle.gf_solve.specs.Row.{count_lost, IsParityOf}

-- Of the parity columns that aren't lost the lowest serve, one for each lost content column.
pub record Serves (lost : ℕ → Bool) (parity gaps which : ℕ) : Type 0 where
  pub among : which < parity
  pub there : lost which ≡ false
  pub lowest : which - count_lost lost 0 which < gaps

-- The parity columns that serve are those of some content columns.
pub record AreServingOf (content parities : List (List ℕ)) (lost : ℕ → Bool) (parity gaps : ℕ)
    : Type 0 where
  pub each : (which : ℕ) → Serves lost parity gaps which → IsParityOf content parities which

-- The content columns that aren't lost hold this content, and the parity columns that serve are its.
pub record IsServedBy (content : List (List ℕ)) (parity : ℕ) (lost : ℕ → Bool)
    (columns : List (List ℕ)) : Type 0 where
  pub long : length columns ≡ parity + length content
  pub there : (column : ℕ) → column < length content → lost (parity + column) ≡ false
      → slice_index_or columns (parity + column) [] ≡ slice_index_or content column []
  pub serving : AreServingOf content columns lost parity (count_lost lost parity (length content))
