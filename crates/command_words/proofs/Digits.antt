-- The text of a number is no option.
use Rattle.std.proofs.Common.{◌≡◌, ℕ, ◌<◌, List, [], ◌∷◌, length, false, refl, arith, ne_eqb}
use Rattle.std.specs.Prelude.{◌^◌, decimal, ◌==◌}
use Rattle.std.specs.Str.Parse.{AllDigits}
use Rattle.std.proofs.lemmas.Fmt.{decimal_is_IsNumeral}
use Rattle.std.proofs.lemmas.Str.Parse.{digit_from_value}
use Rattle.command_words.proofs.Values.{IsPlain}

plain_digits : (text : List ℕ) → 0 < length text → AllDigits 10 text → IsPlain text
plain_digits [] some digits = absurd (omega (arith, some))
plain_digits (first ∷ rest) some digits =
    let digit = digit_from_value first digits.0 in
    let no_minus : (first == 45) ≡ false = ne_eqb first 45 (λ minus. omega (arith, digit, minus)) in
    record { dashes = rw no_minus refl; long = rw no_minus refl; short = rw no_minus refl }

pub plain_decimal : (n : ℕ) → n < 2 ^ 64 → IsPlain (decimal n)
plain_decimal n fits =
    let numeral = decimal_is_IsNumeral n fits in
    plain_digits (decimal n) numeral.0.0 numeral.0.1
