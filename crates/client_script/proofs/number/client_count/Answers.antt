use Rattle.std.proofs.Common.{◌<◌, length, arith, sym, ◌∙◌}
use Rattle.std.proofs.lemmas.Bool.Decides.{nat_tests}
use Rattle.client_script.proofs.Numbers.{long_count, counted_digits}
use Rattle.client_script.proofs.number.client_count.Goals as goal

pub returns-then-not-is_digits-clause-none : goal.returns-then-not-is_digits-clause-none
returns-then-not-is_digits-clause-none c count is =
    let passed = counted_digits c.args.word.now count is in
    absurd (cc (passed, c.is_digits.ensures, c.if-not-is_digits.true))

pub returns-else-first-eq48-clause-some : goal.returns-else-first-eq48-clause-some
returns-else-first-eq48-clause-some c =
    let some : 0 < length c.in_ok-first.rest.now = grind (arith, nat_tests, c.is_empty.ensures, c.if-is_empty.false) in
    let passed = sym c.is_digits.ensures ∙ c.if-not-is_digits.false in
    long_count c.args.word.now c.in_ok-first.rest.now c.in_ok-first.first.now c.in_ok-first.ensures.cases.0 passed some c.if-first-eq48.false
