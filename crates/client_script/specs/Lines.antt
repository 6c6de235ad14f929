-- The lines of a script, one by one.
use Rattle.std.specs.Prelude.{◌≡◌, ℕ, zero, suc, ◌+◌, ◌*◌, ◌/◌, ◌%◌, ◌^◌, ◌<◌, ◌≤◌, List, [], ◌∷◌, ◌++◌, length, map}
use Rattle.std.specs.Prelude.{flat_map, Option, Some, None, ◌==◌, if◌then◌else◌, nat_lt, All, ⊤, codes, decimal}
use Rattle.std.specs.Prelude.{slice_index}
use Rattle.std.specs.Str.Parse.{IsNumeral, digits_value}
use Rattle.core_state.specs.declared.answer.Kind.{Kind}
use Rattle.core_state.specs.declared.answer.Kind.TheVariants.{Put, Get, Sum, Free, Sync, Attach, Copy, Scrub}
use Rattle.client_script.specs.declared.call.Fill.{Fill}
use Rattle.client_script.specs.declared.call.Fill.TheVariants.{Nothing, Pattern, Hex}

-- one byte more at the front of the first line
abbrev pub with_byte : ℕ → List (List ℕ) → List (List ℕ)
with_byte byte [] = (byte ∷ []) ∷ []
with_byte byte (line ∷ lines) = (byte ∷ line) ∷ lines

-- bytes as lines, each ended by a newline; the last newline may be missing
abbrev pub split_lines : List ℕ → List (List ℕ)
split_lines [] = []
split_lines (byte ∷ bytes) =
    if byte == 10 then [] ∷ split_lines bytes else with_byte byte (split_lines bytes)

-- what a line is: passed over, the number of clients, a call, or turns
pub data Line : Type 0 where
  Passed : Line
  Clients : (count : ℕ) → Line
  CallLine : (actor : ℕ) (kind : Kind) (id : Option ℕ) (fill : Fill) → Line
  Order : (actors : List ℕ) → Line

-- a client's letter
abbrev pub client_letter : ℕ → ℕ
client_letter actor = 97 + actor

-- a byte as two lower-case digits
abbrev pub hex_digit : ℕ → ℕ
hex_digit value = if nat_lt value 10 then 48 + value else 87 + value

abbrev pub hex_text : List ℕ → List ℕ
hex_text bytes = flat_map (λ byte. hex_digit (byte / 16) ∷ hex_digit (byte % 16) ∷ []) bytes

-- byte i of a pattern
abbrev pub pattern_byte : ℕ → ℕ → ℕ
pattern_byte seed i = (seed + 7 * i + i / 256) % 256

-- so many bytes of a pattern from byte i on
abbrev pub pattern_from : ℕ → ℕ → ℕ → List ℕ
pattern_from seed i zero = []
pattern_from seed i (suc more) = pattern_byte seed i ∷ pattern_from seed (i + 1) more

-- the bytes that a put is handed
abbrev pub fill_bytes : Fill → List ℕ
fill_bytes Nothing = []
fill_bytes (Pattern len seed) = pattern_from seed 0 len
fill_bytes (Hex bytes) = bytes

-- the words of a call after its letter
abbrev pub call_text : Kind → Option ℕ → Fill → List ℕ
call_text Put (Some id) (Pattern len seed) =
    codes "put " ++ decimal id ++ codes " " ++ decimal len ++ codes " " ++ decimal seed
call_text Put (Some id) (Hex bytes) = codes "puthex " ++ decimal id ++ codes " " ++ hex_text bytes
call_text Get (Some id) Nothing = codes "get " ++ decimal id
call_text Sum (Some id) Nothing = codes "sum " ++ decimal id
call_text Free (Some id) Nothing = codes "free " ++ decimal id
call_text Sync None Nothing = codes "sync"
call_text Attach None Nothing = codes "attach"
call_text Copy None Nothing = codes "copy"
call_text Scrub None Nothing = codes "scrub"
call_text kind id fill = []

-- The bytes of a put are some, not too many, and each is one.
abbrev pub IsRightFill : Fill → Type 0
IsRightFill Nothing = ⊤
IsRightFill (Pattern len seed) = (1 ≤ len) × (len ≤ 65536) × (seed < 2 ^ 64)
IsRightFill (Hex bytes) =
    (1 ≤ length bytes) × (length bytes ≤ 65536) × All (λ byte. byte < 256) bytes

-- An id is a number of 64 bits.
abbrev pub IsRightId : Option ℕ → Type 0
IsRightId None = ⊤
IsRightId (Some id) = id < 2 ^ 64

-- Calls that are carried out today.
abbrev pub IsServedKind : Kind → Type 0
IsServedKind Put = ⊤
IsServedKind Get = ⊤
IsServedKind Sum = ⊤
IsServedKind Free = ⊤
IsServedKind Sync = ⊤
IsServedKind Attach = ⊤
IsServedKind Copy = ⊤
IsServedKind kind = ⊥

-- A call is spelled so: its letter, a space, its words.
pub record IsCallText (text : List ℕ) (actor : ℕ) (kind : Kind) (id : Option ℕ) (fill : Fill) : Type
    0 where
  pub served : IsServedKind kind
  pub some : 0 < length (call_text kind id fill)
  pub spelled : text ≡ client_letter actor ∷ (32 ∷ call_text kind id fill)
  pub id_fits : IsRightId id
  pub fill_fits : IsRightFill fill

-- A number of any size is spelled so: digits without a leading zero.
pub record IsNumberText (text : List ℕ) (number : ℕ) : Type 0 where
  pub digits : IsNumeral 10 text
  pub first : slice_index text 0 ≡ 48 → length text ≡ 1
  pub value : digits_value 10 text ≡ number

-- An empty line, or one that begins with a number sign, is passed over.
abbrev pub IsPassedText : List ℕ → Type 0
IsPassedText [] = ⊤
IsPassedText (byte ∷ text) = byte ≡ 35

-- the text of a line
abbrev pub IsLineText : List ℕ → Line → Type 0
IsLineText text Passed = IsPassedText text
IsLineText text (Clients count) =
    (digits : List ℕ) × (text ≡ codes "clients " ++ digits) × IsNumberText digits count
IsLineText text (CallLine actor kind id fill) = IsCallText text actor kind id fill
IsLineText text (Order actors) =
    (0 < length actors) × (text ≡ codes "order " ++ map client_letter actors)
