-- The choices of one size, tried in their order.
use Rattle.std.specs.Prelude.{◌≡◌, ℕ, List, length}
use Rattle.reconstruct.specs.Suspects.{Choice, AscendFrom, IsLower}
use Rattle.reconstruct.specs.Solved.{Question, Told}

-- so many suspects, from one place of the list on, of the first `reach` ones
pub record IsPick (reach from more : ℕ) (choice : Choice) : Type 0 where
  pub many : length choice ≡ more
  pub ascending : AscendFrom from reach choice

-- the bytes of the first of these choices that tells any, which tells no others
pub record IsFirstTold (question : Question) (reach from more : ℕ) (bytes : List ℕ) : Type 0 where
  pub choice : Choice
  pub pick : IsPick reach from more choice
  pub told : Told question choice bytes
  pub alone : (other : List ℕ) → Told question choice other → other ≡ bytes
  pub first : (other : Choice) (wrong : List ℕ) → IsPick reach from more other
      → IsLower other choice → Told question other wrong → ⊥

-- None of these choices tells any.
abbrev pub NoneTold : Question → ℕ → ℕ → ℕ → Type 0
NoneTold question reach from more =
    (choice : Choice) (bytes : List ℕ) → IsPick reach from more choice → Told question choice bytes → ⊥
