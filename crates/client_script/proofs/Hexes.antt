-- What spells bytes.
use Rattle.std.proofs.Common.{◌≡◌, ℕ, zero, suc, ◌+◌, ◌*◌, ◌/◌, ◌%◌, ◌<◌, ◌≤◌, List, [], ◌∷◌, length, get_or, take}
use Rattle.std.proofs.Common.{refl, sym, ◌∙◌, ap, arith}
use Rattle.std.specs.Prelude.{All}
use Rattle.std.proofs.lemmas.List.{take_all}
use Rattle.client_script.specs.Lines.{hex_digit, hex_text}
use Rattle.client_script.specs.Words.{IsHex}

pub length_of_hex : (bytes : List ℕ) → length (hex_text bytes) ≡ 2 * length bytes
length_of_hex [] = refl
length_of_hex (byte ∷ bytes) = omega (arith, length_of_hex bytes)

-- the two digits of a byte in their places
pub high_digit : (bytes : List ℕ) (place : ℕ) → place < length bytes → get_or (hex_text bytes) (2 * place) 0 ≡ hex_digit (get_or bytes place 0 / 16)
high_digit [] place within = elim within [ ]
high_digit (byte ∷ bytes) zero within = refl
high_digit (byte ∷ bytes) (suc place) within =
    let e : 2 * suc place ≡ suc (suc (2 * place)) = omega arith in
    ap (λ n. get_or (hex_text (byte ∷ bytes)) n 0) e ∙ high_digit bytes place (omega arith)

pub low_digit : (bytes : List ℕ) (place : ℕ) → place < length bytes → get_or (hex_text bytes) (2 * place + 1) 0 ≡ hex_digit (get_or bytes place 0 % 16)
low_digit [] place within = elim within [ ]
low_digit (byte ∷ bytes) zero within = refl
low_digit (byte ∷ bytes) (suc place) within =
    let e : 2 * suc place + 1 ≡ suc (suc (2 * place + 1)) = omega arith in
    ap (λ n. get_or (hex_text (byte ∷ bytes)) n 0) e ∙ low_digit bytes place (omega arith)

-- A text of an odd length, of none, or of too many digits spells no bytes.
pub wrong_length : (text bytes : List ℕ) → IsHex text bytes → (length text ≡ 2 * length bytes) × (1 ≤ length bytes) × (length bytes ≤ 65536)
wrong_length text bytes is = (ap length is.spelled ∙ length_of_hex bytes, is.some, is.few)

-- In a text that spells bytes each two digits spell one.
pub two_digits : (text bytes : List ℕ) (place : ℕ) → IsHex text bytes → 2 * place + 1 < length text
    → (byte : ℕ) × (byte < 256) × (get_or text (2 * place) 0 ≡ hex_digit (byte / 16)) × (get_or text (2 * place + 1) 0 ≡ hex_digit (byte % 16))
two_digits text bytes place is within =
    let inside : place < length bytes = omega (arith, ap length is.spelled, length_of_hex bytes) in (
      get_or bytes place 0,
      is.fit place 0 inside,
      ap (λ (l : List ℕ). get_or l (2 * place) 0) is.spelled ∙ high_digit bytes place inside,
      ap (λ (l : List ℕ). get_or l (2 * place + 1) 0) is.spelled ∙ low_digit bytes place inside,
    )

-- All digits are read.
pub spelled_all : (text bytes : List ℕ) (places : ℕ) → length text ≡ 2 * places → 1 ≤ places → places ≤ 65536 → length bytes ≡ places → take (2 * places) text ≡ hex_text bytes → All (λ byte. byte < 256) bytes
    → IsHex text bytes
spelled_all text bytes places len some few count so_far fit = record {
  spelled = sym (take_all (2 * places) text (omega arith)) ∙ so_far;
  some = omega arith;
  few = omega arith;
  fit = fit;
}
