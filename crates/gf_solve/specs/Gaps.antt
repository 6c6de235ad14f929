-- Which of a run of columns are lost, where they are few.
use Rattle.std.specs.Prelude.{◌≡◌, ◌⊎◌, ℕ, ◌<◌, List, [], length, slice_index_or, Bool, true, false}
use Rattle.gf_solve.specs.declared.gaps.Gaps.{Gaps}
use Rattle.gf_solve.specs.declared.gaps.Gaps.TheVariants.{Whole, One, Two, Three}

-- A column of the run that is one of the gaps, in their order.
abbrev pub IsGap : Gaps → ℕ → Type 0
IsGap Whole column = ⊥
IsGap (One first) column = column ≡ first
IsGap (Two first second) column = (column ≡ first) ⊎ (column ≡ second)
IsGap (Three first second third) column =
    (column ≡ first) ⊎ ((column ≡ second) ⊎ (column ≡ third))

-- The gaps go up.
abbrev pub Ascend : Gaps → Type 0
Ascend Whole = Unit {0}
Ascend (One first) = Unit {0}
Ascend (Two first second) = first < second
Ascend (Three first second third) = (first < second) × (second < third)

-- The gaps are the lost columns of those below one.
pub record AreGaps (lost : ℕ → Bool) (to : ℕ) (gaps : Gaps) : Type 0 where
  pub ascend : Ascend gaps
  pub inside : (column : ℕ) → IsGap gaps column → column < to
  pub lost_there : (column : ℕ) → IsGap gaps column → lost column ≡ true
  pub others : (column : ℕ) → column < to → (IsGap gaps column → ⊥) → lost column ≡ false

-- The columns are as they were but at some places.
pub record AgreeBut (gap : ℕ → Type 0) (was columns : List (List ℕ)) : Type 0 where
  pub long : length columns ≡ length was
  pub there : (column : ℕ) → column < length was → (gap column → ⊥)
      → slice_index_or columns column [] ≡ slice_index_or was column []
