use Rattle.std.proofs.Common.{⊎_elim, ap}
use Rattle.bank_mem.specs.Record.{called_device, called_sector}
use Rattle.bank_mem.proofs.Placed.{in_row}
use Rattle.bank_mem.proofs.crash.put_settled.Goals as goal

pub put_sector-requires-clause-sector : goal.put_sector-requires-clause-sector
put_sector-requires-clause-sector c = ⊎_elim
    (λ w. in_row _ _ _ _ c.requires (ap called_device w.1) (ap called_sector w.1))
    (λ w. in_row _ _ _ _ c.requires (ap called_device w.1) (ap called_sector w.1)) c.in-Write.is
