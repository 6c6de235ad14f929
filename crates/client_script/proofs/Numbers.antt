-- What spells a number.
use Rattle.std.proofs.Common.{◌≡◌, ℕ, zero, suc, ◌+◌, ◌-◌, ◌*◌, ◌^◌, ◌<◌, ◌≤◌, List, [], ◌∷◌, length, get_or, take}
use Rattle.std.proofs.Common.{refl, sym, ap, ◌∙◌, subst, arith, Bool, true, false, decimal}
use Rattle.std.specs.Prelude.{All, ◌≢◌, ◌&&◌, min}
use Rattle.std.specs.List.{list_all}
use Rattle.std.specs.Char.{is_ascii_digit, digit_value}
use Rattle.std.specs.Str.Parse.{AllDigits, digits_value, digits_value_after}
use Rattle.std.proofs.lemmas.Fmt.{decimal_is_IsNumeral, decimal_injective, decimal_digit, decimal_nonempty}
use Rattle.std.proofs.lemmas.Fmt.{first_decimal, decimal-digits_value}
use Rattle.std.proofs.lemmas.Int.Digits.{digits_value_more}
use Rattle.std.proofs.lemmas.Str.Parse.{digit_at, digit_from_value, digits_value-take-le, numerals_by_value}
use Rattle.std.proofs.lemmas.Str.Parse.{tells_digits}
use Rattle.std.proofs.lemmas.List.{get_or_default}
use Rattle.std.proofs.lemmas.Bool.Decides.{nat_tests}
use Rattle.client_script.specs.Words.{IsCut, IsNumber, IsLedByNumber, IsCount}
use Rattle.client_script.proofs.Cuts.{one_cut}

-- Digits have no space among them.
digits_have_no_space : (digits : List ℕ) → AllDigits 10 digits → All (λ byte. byte ≢ 32) digits
digits_have_no_space digits all k d within is =
    let here = digit_at digits k all within in
    let same : get_or digits k d ≡ get_or digits k 0 = get_or_default digits k d 0 within in
    omega (arith, here, same, is)

-- A number ends at the first space.
pub cut_at_number : (text : List ℕ) (number : ℕ) (rest : List ℕ) → IsLedByNumber text number rest → IsCut text 32 (decimal number) rest
cut_at_number text number rest led = record {
  whole = led.spelled;
  first = digits_have_no_space (decimal number) (decimal_is_IsNumeral number led.fits).0.1;
}

-- A text begins with one number at most.
pub one_leading : (text : List ℕ) (number other : ℕ) (rest more : List ℕ) → IsLedByNumber text number rest → IsLedByNumber text other more → (number ≡ other) × (rest ≡ more)
one_leading text number other rest more a b =
    let same = one_cut text 32 (decimal number) (decimal other) rest more (cut_at_number text number rest a) (cut_at_number text other more b) in
    (decimal_injective number other a.fits b.fits same.0, same.1)

pub one_number : (text : List ℕ) (number other : ℕ) → IsNumber text number → IsNumber text other → number ≡ other
one_number text number other a b = decimal_injective number other a.fits b.fits (sym a.spelled ∙ b.spelled)

-- A digit passes the test, and nothing else does.
digit_passes : (byte : ℕ) → 48 ≤ byte → byte ≤ 57 → is_ascii_digit byte ≡ true
digit_passes byte low high = grind (arith, nat_tests)

passed_digit : (byte : ℕ) → is_ascii_digit byte ≡ true → (48 ≤ byte) × (byte ≤ 57)
passed_digit byte passed = (grind (arith, nat_tests), grind (arith, nat_tests))

value_of_digit : (byte : ℕ) → 48 ≤ byte → byte ≤ 57 → digit_value byte ≡ byte - 48
value_of_digit byte low high = grind (arith, nat_tests)

pub tested_digits : (word : List ℕ) → AllDigits 10 word → list_all is_ascii_digit word ≡ true
tested_digits [] all = refl
tested_digits (byte ∷ word) all =
    let here = digit_from_value byte all.0 in
    let first : is_ascii_digit byte ≡ true = digit_passes byte here.0 here.1 in
    rw first (tested_digits word all.1)

both_pass : (a b : Bool) → (a && b) ≡ true → (a ≡ true) × (b ≡ true)
both_pass true true e = (refl, refl)
both_pass true false e = (refl, e)
both_pass false b e = absurd (let bad : false ≡ true = e in cc)

pub digits_tested : (word : List ℕ) → list_all is_ascii_digit word ≡ true → AllDigits 10 word
digits_tested [] passed = tt
digits_tested (byte ∷ word) passed =
    let both = both_pass (is_ascii_digit byte) (list_all is_ascii_digit word) passed in
    let here = passed_digit byte both.0 in
    let value : digit_value byte ≡ byte - 48 = value_of_digit byte here.0 here.1 in
    (omega (arith, value, here), digits_tested word both.1)

-- The digits of a number have its value.
pub digits_of_number : (word : List ℕ) (number : ℕ) → IsNumber word number
    → AllDigits 10 word × (digits_value 10 word ≡ number)
digits_of_number word number is =
    let known = decimal_is_IsNumeral number is.fits in
    let all = subst (λ (l : List ℕ). AllDigits 10 l) (sym is.spelled) known.0.1 in
    (all, ap (digits_value 10) is.spelled ∙ known.1)

-- Digits with no zero too many in front are a number.
pub number_of_digits : (word rest : List ℕ) (first : ℕ) → word ≡ first ∷ rest → (first ≡ 48 → length rest ≡ 0)
    → AllDigits 10 word → digits_value 10 word < 2 ^ 64 → IsNumber word (digits_value 10 word)
number_of_digits word rest first is lead all fits =
    let starts : get_or word 0 0 ≡ first = ap (λ (l : List ℕ). get_or l 0 0) is in
    let long : length word ≡ length rest + 1 = omega (arith, ap length is) in
    let alone : get_or word 0 0 ≡ 48 → length word ≡ 1 = λ e. omega (arith, long, lead (sym starts ∙ e)) in
    let own = numerals_by_value _ tells_digits in
    record {
      spelled = sym (decimal-digits_value own word all (omega (arith, long)) alone fits);
      fits = fits;
    }

-- Nothing is behind a zero in front of a number.
pub zero_stands_alone : (word rest : List ℕ) (number : ℕ) → word ≡ 48 ∷ rest → 0 < length rest
    → IsNumber word number → ⊥
zero_stands_alone word rest zero is more number =
    let same : 48 ∷ rest ≡ (48 + 0) ∷ [] = sym is ∙ number.spelled ∙ decimal_digit 0 (omega arith) in
    omega (arith, more, ap length same)
zero_stands_alone word rest (suc n) is more number =
    let starts : get_or (decimal (suc n)) 0 0 ≡ 48 = ap (λ (l : List ℕ). get_or l 0 0) (sym number.spelled ∙ is) in
    omega (arith, starts, first_decimal (suc n) (omega arith) number.fits)

-- A number has a digit.
pub number_is_some : (word : List ℕ) (number : ℕ) → IsNumber word number → 0 < length word
number_is_some word number is = omega (arith, decimal_nonempty number is.fits, ap length is.spelled)

-- The value of one digit more.
pub value_of_more : (word : List ℕ) (i value : ℕ) → i < length word → digits_value 10 (take i word) ≡ value
    → digits_value 10 (take (i + 1) word) ≡ value * 10 + digit_value (get_or word i 0)
value_of_more word i value within so_far =
    digits_value_more 10 word i within ∙ ap (λ v. v * 10 + digit_value (get_or word i 0)) so_far

-- A digit is below ten.
digit_is_below : (word : List ℕ) (i : ℕ) → AllDigits 10 word → i < length word → digit_value (get_or word i 0) < 10
digit_is_below word i all within =
    let here = digit_at word i all within in
    omega (arith, value_of_digit (get_or word i 0) here.0 here.1, here)

-- Digits that are too great so far stay so.
pub stays_too_great : (word : List ℕ) (i value : ℕ) → i < length word → digits_value 10 (take i word) ≡ value
    → (digit_value (get_or word i 0) < 10 → 2 ^ 64 ≤ value * 10 + digit_value (get_or word i 0))
    → AllDigits 10 word → 2 ^ 64 ≤ digits_value 10 word
stays_too_great word i value within so_far great all =
    let above = great (digit_is_below word i all within) in
    let next = value_of_more word i value within so_far in
    omega (arith, above, next, digits_value-take-le 10 word (i + 1) (omega arith))

-- What follows only adds to a number.
after_is_greater : (number : ℕ) (digits : List ℕ) → number ≤ digits_value_after 10 number digits
after_is_greater number [] = omega arith
after_is_greater number (byte ∷ digits) =
    let more : number * 10 + digit_value byte ≤ digits_value_after 10 (number * 10 + digit_value byte) digits = after_is_greater (number * 10 + digit_value byte) digits in
    omega (arith, more)

nine_of : (number : ℕ) → 9 ≤ number → 9 ≡ min number 9
nine_of number above = omega arith

-- A number of two digits or more is above 9.
pub long_number : (first second : ℕ) (rest : List ℕ) → AllDigits 10 (first ∷ second ∷ rest) → first ≢ 48 → IsCount (first ∷ second ∷ rest) 9
long_number first second rest all nonzero =
    let here = digit_from_value first all.0 in
    let value : digit_value first ≡ first - 48 = value_of_digit first here.0 here.1 in
    let more : (0 * 10 + digit_value first) * 10 + digit_value second ≤ digits_value 10 (first ∷ second ∷ rest) = after_is_greater ((0 * 10 + digit_value first) * 10 + digit_value second) rest in
    (digits_value 10 (first ∷ second ∷ rest), record { digits = (omega arith, all); first = λ e. absurd (nonzero e); value = refl }, nine_of _ (omega (arith, value, here, more, nonzero)))

pub long_count : (word rest : List ℕ) (first : ℕ) → word ≡ first ∷ rest → list_all is_ascii_digit word ≡ true → 0 < length rest → first ≢ 48 → IsCount word 9
long_count word [] first is passed some nonzero = absurd (omega (arith, some))
long_count word (second ∷ rest) first is passed some nonzero =
    subst (λ (l : List ℕ). IsCount l 9) (sym is) (long_number first second rest (subst (λ (l : List ℕ). AllDigits 10 l) is (digits_tested word passed)) nonzero)

pub counted_digits : (word : List ℕ) (count : ℕ) → IsCount word count → list_all is_ascii_digit word ≡ true
counted_digits word count is = tested_digits word is.1.digits.1
