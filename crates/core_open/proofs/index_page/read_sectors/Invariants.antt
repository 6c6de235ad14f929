use Rattle.core_open.proofs.PageReading.{IsReadTo}
use Rattle.core_open.proofs.index_page.read_sectors.Given as goal

abbrev pub invariant-loop-part : goal.invariant-loop-part
invariant-loop-part g l =
    IsReadTo (g.B.Bank.disk l.fn.bank) l.device l.first l.part (g.B.Bank.disk l.bank) l.bytes.items
