use Rattle.file_bank.specs.Files.{FileEndsBefore, shown}
use Rattle.file_bank.proofs.Causes.{in_bank}
use Rattle.file_bank.proofs.Joined.{read_one}
use Rattle.file_bank.proofs.bank.FileBankBank.read.Goals as goal

pub returns-clause-well : goal.returns-clause-well
returns-clause-well g c =
    read_one g.F.BlockFile.contents c.args.self.now.files.items _ _ _ _ _ _ _ _ c.requires.device
    c.index_mut.ensures.value c.read_sector-outcome.ensures.same c.note.ensures.counts

pub returns-clause-cause : goal.returns-clause-cause
returns-clause-cause g c =
    in_bank g.F.BlockFile.faults c.args.self.now.files.items _ _ _ c.requires.device
    c.index_mut.ensures.value (λ file. FileEndsBefore (shown g.F.BlockFile.contents file) c.args.sector)
    _ c.read_sector-outcome.ensures.cause
