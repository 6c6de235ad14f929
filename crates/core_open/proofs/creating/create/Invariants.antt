use Rattle.uberblock_ring.specs.Uberblock.{first_uber}
use Rattle.core_state.specs.Create.{rows_for}
use Rattle.core_open.proofs.Rings.{IsCreatedBelow}
use Rattle.core_open.proofs.creating.create.Given as goal

abbrev pub invariant-loop-device : goal.invariant-loop-device
invariant-loop-device g l =
    IsCreatedBelow (first_uber l.fn.pool l.fn.parity l.width (rows_for (g.B.Bank.disk l.fn.bank).sectors)) l.device
    (g.B.Bank.disk l.fn.bank) (g.B.Bank.disk l.bank)
