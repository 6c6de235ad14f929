use Rattle.std.proofs.Common.{ap}
use Rattle.file_bank.specs.Files.{faults_shown}
use Rattle.file_bank.proofs.Causes.{asked}
use Rattle.file_bank.proofs.slot.sync_file.Goals as goal

pub returns-in-Some-clause-cause : goal.returns-in-Some-clause-cause
returns-in-Some-clause-cause g c =
    rw (ap (faults_shown g.F.BlockFile.faults) c.in-Some.is) (asked _ _ _ _ (λ none. cc) c.sync.ensures.counts)
