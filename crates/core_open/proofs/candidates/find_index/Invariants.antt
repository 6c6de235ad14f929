use Rattle.core_open.proofs.Asking.{AreAsked}
use Rattle.core_open.proofs.candidates.find_index.Given as goal

abbrev pub invariant-loop-device : goal.invariant-loop-device
invariant-loop-device g l =
    AreAsked l.silent l.device l.uber (g.B.Bank.disk l.fn.bank) (g.B.Bank.disk l.bank)
