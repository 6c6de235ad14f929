use Rattle.std.proofs.Common.{refl}
use Rattle.file_bank.specs.FileBank.{disk_of}
use Rattle.file_bank.proofs.Finished.{unchanged_none}
use Rattle.file_bank.proofs.bank.FileBank.begin_round.Goals as goal

pub loop-number-init : goal.loop-number-init
loop-number-init g c = record {
  unchanged = unchanged_none (disk_of g.F.BlockFile.contents c.args.self.now);
  len = refl;
  counts = λ e. refl;
  file_faults = λ e. refl;
  lacks = λ e. (λ is. is, λ is. is);
}
