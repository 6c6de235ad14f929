use Rattle.std.proofs.Common.{◌≡◌, ℕ, ◌<◌, ◌≤◌, ◌^◌, List, ◌∷◌, Option, Some, None, length, ap, subst, ◌∙◌, arith}
use Rattle.std.specs.Prelude.{IfSome, IfNone}
use Rattle.std.specs.Str.Parse.{AllDigits, digits_value}
use Rattle.std.proofs.lemmas.Bool.Decides.{nat_tests}
use Rattle.client_script.specs.Words.{IsNumber}
use Rattle.client_script.proofs.Cuts.{if_none}
use Rattle.client_script.proofs.Numbers.{digits_of_number, number_of_digits, zero_stands_alone, number_is_some}
use Rattle.client_script.proofs.number.number.Goals as goal
use Rattle.client_script.proofs.number.number.Goals.{else-first-eq48-via-then-first-eq48+else-not-is_empty}
use Rattle.client_script.proofs.number.number.Goals.{else-first-eq48-via-else-first-eq48}

pub returns-in_err-first-clause-none : goal.returns-in_err-first-clause-none
returns-in_err-first-clause-none c =
    let empty = c.in_err-first.ensures.cases in
    if_none c.from_residual.result _ (λ other is. omega (arith, number_is_some c.args.word.now other is, empty))

pub returns-then-not-is_empty-clause-none : goal.returns-then-not-is_empty-clause-none
returns-then-not-is_empty-clause-none c other is =
    let rest = c.in_ok-first.rest.now in
    let more : 0 < length rest = grind (arith, nat_tests, c.is_empty.ensures, c.if-not-is_empty.true) in
    let starts = c.in_ok-first.ensures.cases.0 ∙ ap (λ byte. byte ∷ rest) c.if-first-eq48.true in
    zero_stands_alone c.args.word.now rest other starts more is

-- A word that has a value and no zero too many is its number.
is_its_value : (word rest : List ℕ) (first : ℕ) (o : Option ℕ) → word ≡ first ∷ rest
    → (first ≡ 48 → length rest ≡ 0) → IfSome o (λ value. value < 2 ^ 64)
    → IfSome o (λ value. AllDigits 10 word × (digits_value 10 word ≡ value)) → IfSome o (IsNumber word)
is_its_value word rest first None is lead fits known = tt
is_its_value word rest first (Some value) is lead fits known =
    subst (IsNumber word) known.1 (number_of_digits word rest first is lead known.0 (omega (arith, known.1, fits)))

pub returns-clause-some : goal.returns-clause-some
returns-clause-some c =
    let parts = c.in_ok-first in
    let value = c.value_of in
    let lead : parts.first.now ≡ 48 → length parts.rest.now ≡ 0 = λ zeroed. elim c.else-first-eq48.branch [
      | else-first-eq48-via-then-first-eq48+else-not-is_empty w ↦
          grind (arith, nat_tests, w.is_empty.ensures, w.if-not-is_empty.false)
      | else-first-eq48-via-else-first-eq48 w ↦ absurd (w.if-first-eq48.false zeroed)
    ] in
    let starts = parts.ensures.cases.0 in
    is_its_value c.args.word.now parts.rest.now parts.first.now value.result starts lead value.ensures.fits
    value.ensures.some

-- A word with no value is no number.
has_no_value : (word : List ℕ) (o : Option ℕ) → IfNone o (AllDigits 10 word → 2 ^ 64 ≤ digits_value 10 word)
    → IfNone o ((other : ℕ) → IsNumber word other → ⊥)
has_no_value word (Some value) great = tt
has_no_value word None great = λ other is.
    let known = digits_of_number word other is in
    omega (arith, great known.0, known.1, is.fits)

pub returns-clause-none : goal.returns-clause-none
returns-clause-none c = has_no_value c.args.word.now c.value_of.result c.value_of.ensures.none
