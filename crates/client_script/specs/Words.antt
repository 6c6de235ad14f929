-- The parts of a line, as they are read.
use Rattle.std.specs.Prelude.{◌≡◌, ◌≢◌, ℕ, ◌^◌, ◌<◌, ◌≤◌, List, ◌∷◌, ◌++◌, length, All, Option, None, decimal, min}
use Rattle.core_state.specs.declared.answer.Kind.{Kind}
use Rattle.client_script.specs.declared.call.Fill.{Fill}
use Rattle.client_script.specs.declared.call.Fill.TheVariants.{Nothing}
use Rattle.client_script.specs.Lines.{call_text, hex_text, IsRightFill, IsRightId, IsServedKind, IsNumberText}

-- A text is cut in two at the first byte of a kind, which neither part has.
pub record IsCut (text : List ℕ) (byte : ℕ) (front back : List ℕ) : Type 0 where
  pub whole : text ≡ front ++ byte ∷ back
  pub first : All (λ other. other ≢ byte) front

-- A text begins with a number and a space.
pub record IsLedByNumber (text : List ℕ) (number : ℕ) (rest : List ℕ) : Type 0 where
  pub spelled : text ≡ decimal number ++ 32 ∷ rest
  pub fits : number < 2 ^ 64

-- A text is one number.
pub record IsNumber (text : List ℕ) (number : ℕ) : Type 0 where
  pub spelled : text ≡ decimal number
  pub fits : number < 2 ^ 64

-- A text is the number of clients, where 9 stands for all greater ones.
abbrev pub IsCount : List ℕ → ℕ → Type 0
IsCount text count = (number : ℕ) × IsNumberText text number × (count ≡ min number 9)

-- A text is two lower-case digits for each byte.
pub record IsHex (text bytes : List ℕ) : Type 0 where
  pub spelled : text ≡ hex_text bytes
  pub some : 1 ≤ length bytes
  pub few : length bytes ≤ 65536
  pub fit : All (λ byte. byte < 256) bytes

-- A text is the id, the length and the seed of a pattern.
pub record IsPattern (text : List ℕ) (id len seed : ℕ) : Type 0 where
  pub spelled : text ≡ decimal id ++ 32 ∷ (decimal len ++ 32 ∷ decimal seed)
  pub id_fits : id < 2 ^ 64
  pub some : 1 ≤ len
  pub few : len ≤ 65536
  pub seed_fits : seed < 2 ^ 64

-- A text is an id and the digits of bytes.
pub record IsHexWords (text : List ℕ) (id : ℕ) (bytes : List ℕ) : Type 0 where
  pub digits : List ℕ
  pub led : IsLedByNumber text id digits
  pub hex : IsHex digits bytes

-- These are the words of a call after its letter.
pub record IsWords (words : List ℕ) (kind : Kind) (id : Option ℕ) (fill : Fill) : Type 0 where
  pub served : IsServedKind kind
  pub some : 0 < length (call_text kind id fill)
  pub spelled : words ≡ call_text kind id fill
  pub id_fits : IsRightId id
  pub fill_fits : IsRightFill fill

-- No call has these words.
abbrev pub HasNoCall : List ℕ → Type 0
HasNoCall words = (kind : Kind) (id : Option ℕ) (fill : Fill) → IsWords words kind id fill → ⊥

-- the word of a call that has nothing else
abbrev pub IsBareWord : List ℕ → Kind → Type 0
IsBareWord word kind =
    IsServedKind kind × (0 < length (call_text kind None Nothing)) × (word ≡ call_text kind None Nothing)
