-- The longest of the files that were looked at.
use Rattle.file_bank.specs.Files.{IsLongest}
use Rattle.file_bank.proofs.bank.longest_of.Given as goal

abbrev pub invariant-loop-file : goal.invariant-loop-file
invariant-loop-file g l = IsLongest g.F.BlockFile.contents l.files l.file-index l.longest
