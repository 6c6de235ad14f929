use Rattle.client_script.proofs.Faults.{no_digits, hex_id, many_digits, wrong_digits}
use Rattle.client_script.proofs.call_fault.puthex_fault.Goals as goal

pub returns-in_default : goal.returns-in_default
returns-in_default c = no_digits _ (rw c.in_default.is at c.cut.ensures.none)

pub returns-in_default-number : goal.returns-in_default-number
returns-in_default-number c = hex_id _ _ _ c.in-Some.ensures.some (rw c.in_default-number.is at c.number.ensures.none)

pub returns-then-digits : goal.returns-then-digits
returns-then-digits c = many_digits _ _ _ c.in-Some.ensures.some c.if-digits.true

pub returns-else-digits : goal.returns-else-digits
returns-else-digits c = wrong_digits _ _ _ _ c.in-Some.ensures.some c.in-Some-number.ensures.some c.requires
