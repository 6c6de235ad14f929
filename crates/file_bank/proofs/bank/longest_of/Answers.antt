use Rattle.std.proofs.Common.{arith}
use Rattle.file_bank.proofs.Longest.{longest_none, longest_more}
use Rattle.file_bank.proofs.bank.longest_of.Goals as goal

pub loop-file-init : goal.loop-file-init
loop-file-init g c = longest_none g.F.BlockFile.contents c.args.files.now

pub loop-file-preserved : goal.loop-file-preserved
loop-file-preserved g c =
    longest_more g.F.BlockFile.contents c.args.files.now c.loop-file.file-index c.loop-file.longest
    _ _ (omega arith) c.file-item.is c.with_file-longest.ensures c.loop-file.invariant
