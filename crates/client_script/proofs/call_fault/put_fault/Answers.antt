use Rattle.std.proofs.Common.{arith}
use Rattle.client_script.proofs.Numbers.{one_number}
use Rattle.client_script.proofs.Faults.{one_word, two_words, four_words, no_bytes, many_bytes, no_number}
use Rattle.client_script.proofs.call_fault.put_fault.Goals as goal

pub returns-in_default : goal.returns-in_default
returns-in_default c = one_word _ (rw c.in_default.is at c.cut.ensures.none)

pub returns-in_default-cut : goal.returns-in_default-cut
returns-in_default-cut c = two_words _ _ _ c.in-Some.ensures.some (rw c.in_default-cut.is at c.cut-2.ensures.none)

pub returns-in_default-cut-2 : goal.returns-in_default-cut-2
returns-in_default-cut-2 c = four_words _ _ _ _ _ _ _ c.in-Some.ensures.some c.in-Some-cut.ensures.some c.in_default-cut-2.ensures.some

pub returns-in_default-number : goal.returns-in_default-number
returns-in_default-number c =
    no_number _ _ _ _ _ c.in-Some.ensures.some c.in-Some-cut.ensures.some c.in-None.ensures.none c.requires
    (λ count is. absurd ((rw c.in_default-number.is at c.number.ensures.none) count is))

pub returns-then-count-eq0 : goal.returns-then-count-eq0
returns-then-count-eq0 c =
    no_bytes _ _ _ _ _ c.in-Some.ensures.some c.in-Some-cut.ensures.some c.in-None.ensures.none _ c.in-Some-number.ensures.some c.if-count-eq0.true

pub returns-then-count-gt-MOST_BYTES : goal.returns-then-count-gt-MOST_BYTES
returns-then-count-gt-MOST_BYTES c =
    many_bytes _ _ _ _ _ c.in-Some.ensures.some c.in-Some-cut.ensures.some c.in-None.ensures.none _ c.in-Some-number.ensures.some c.if-count-gt-MOST_BYTES.true

pub returns-else-count-gt-MOST_BYTES : goal.returns-else-count-gt-MOST_BYTES
returns-else-count-gt-MOST_BYTES c =
    no_number _ _ _ _ _ c.in-Some.ensures.some c.in-Some-cut.ensures.some c.in-None.ensures.none c.requires
    (λ count is.
    let same = one_number _ _ _ is c.in-Some-number.ensures.some in
    (omega (arith, same, c.if-count-eq0.false), omega (arith, same, c.if-count-gt-MOST_BYTES.false)))
