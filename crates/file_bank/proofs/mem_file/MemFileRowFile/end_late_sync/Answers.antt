use Rattle.std.proofs.Common.{refl}
use Rattle.file_bank.proofs.MemSteps.{sync_failed}
use Rattle.file_bank.proofs.mem_file.MemFileRowFile.end_late_sync.Goals as goal

pub returns-then-fails_now-clause-settled : goal.returns-then-fails_now-clause-settled
returns-then-fails_now-clause-settled c = sync_failed _ _ _ _ _ _ _ refl c.requires c.args.self.now.by
