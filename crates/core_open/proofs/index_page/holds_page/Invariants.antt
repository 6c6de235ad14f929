use Rattle.block_record.specs.Page.{index_page}
use Rattle.core_open.proofs.PageReading.{IsComparedTo}
use Rattle.core_open.proofs.index_page.holds_page.Given as goal

abbrev pub invariant-loop-part : goal.invariant-loop-part
invariant-loop-part g l =
    IsComparedTo (g.B.Bank.disk l.fn.bank) l.device l.first l.part (g.B.Bank.disk l.bank)
    (index_page l.entries) l.same
