use Rattle.core_open.proofs.Lacking.{AreAskedTo}
use Rattle.core_open.proofs.page_lack.devices_without_page.Given as goal

abbrev pub invariant-loop-device : goal.invariant-loop-device
invariant-loop-device g l =
    AreAskedTo (g.B.Bank.disk l.fn.bank) l.uber l.entries l.fn.out l.device
    (g.B.Bank.disk l.bank) l.out l.lacking
