use Rattle.std.proofs.Common.{ap}
use Rattle.bank_trait.specs.Disk.{Disk}
use Rattle.raidzx.proofs.bank.bank_over.Goals as goal

pub returns-clause-faults : goal.returns-clause-faults
returns-clause-faults g c = λ device. ap (λ (disk : Disk). disk.faults device) c.new.ensures.disk
