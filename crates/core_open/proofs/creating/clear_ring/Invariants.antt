use Rattle.core_open.proofs.Rings.{IsCleared}
use Rattle.core_open.proofs.creating.clear_ring.Given as goal

abbrev pub invariant-loop-slot : goal.invariant-loop-slot
invariant-loop-slot g l = IsCleared l.device l.slot (g.B.Bank.disk l.fn.bank) (g.B.Bank.disk l.bank)
