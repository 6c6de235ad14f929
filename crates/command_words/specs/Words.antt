-- The commands, and how they are spelled with their options in one order.
use Rattle.std.specs.Prelude.{◌≡◌, ◌⊎◌, ℕ, ◌+◌, ◌^◌, ◌<◌, ◌≤◌, List, [], ◌∷◌, ◌++◌, Bool, if◌then◌else◌, ⊤}
use Rattle.std.specs.Prelude.{codes, decimal}

pub data Command : Type 0 where
  Create : (parity width id : ℕ) → Command
  Run : (attach scrub : Bool) → Command
  Replay : Command
  Status : Command
  Scrub : Command
  Load : (seed blocks parity width : ℕ) → Command

-- an option with its value, and a flag that may be there
abbrev pub with_value : List ℕ → ℕ → List (List ℕ)
with_value name value = name ∷ decimal value ∷ []

abbrev pub flag : Bool → List ℕ → List (List ℕ)
flag present name = if present then name ∷ [] else []

-- An option that may be left out where its value is this one.
abbrev pub IsOptional : List ℕ → ℕ → ℕ → List (List ℕ) → Type 0
IsOptional name value default words =
    (words ≡ with_value name value) ⊎ ((words ≡ []) × (value ≡ default))

-- the words of `load`
pub record IsLoadWords (words : List (List ℕ)) (seed blocks parity width : ℕ) : Type 0 where
  pub parity_words : List (List ℕ)
  pub width_words : List (List ℕ)
  pub parity_is : IsOptional (codes "--parity") parity 1 parity_words
  pub width_is : IsOptional (codes "--width") width 3 width_words
  pub spelled : words ≡ (codes "load" ∷ with_value (codes "--seed") seed)
      ++ with_value (codes "--blocks") blocks ++ parity_words ++ width_words

-- A command's words after the first one, options in this order.
abbrev pub IsSpelled : List (List ℕ) → Command → Type 0
IsSpelled words (Create parity width id) =
    words ≡ (codes "create" ∷ with_value (codes "--parity") parity)
    ++ with_value (codes "--width") width ++ with_value (codes "--id") id
IsSpelled words (Run attach scrub) =
    words ≡ (codes "run" ∷ flag attach (codes "--attach")) ++ flag scrub (codes "--scrub")
IsSpelled words Replay = words ≡ codes "replay" ∷ []
IsSpelled words Status = words ≡ codes "status" ∷ []
IsSpelled words Scrub = words ≡ codes "scrub" ∷ []
IsSpelled words (Load seed blocks parity width) = IsLoadWords words seed blocks parity width

-- Parity and width of a new pool.
abbrev pub IsSize : ℕ → ℕ → Type 0
IsSize parity width = (1 ≤ parity) × (parity ≤ 3) × (parity + 1 ≤ width) × (width ≤ 16)

-- The numbers of a command are in their ranges.
abbrev pub IsInRange : Command → Type 0
IsInRange (Create parity width id) = IsSize parity width × (id < 2 ^ 64)
IsInRange (Load seed blocks parity width) =
    IsSize parity width × (seed < 2 ^ 64) × (1 ≤ blocks) × (blocks ≤ 512)
IsInRange other = ⊤

-- The words, of which the first isn't looked at, spell this command.
pub record IsCommand (words : List (List ℕ)) (command : Command) : Type 0 where
  pub first : List ℕ
  pub rest : List (List ℕ)
  pub words_are : words ≡ first ∷ rest
  pub spelled : IsSpelled rest command
  pub in_range : IsInRange command
