use Rattle.block_record.specs.Index.{AreZeros}
use Rattle.block_record.proofs.read.first_nonzero.Given as goal

abbrev pub invariant-loop-at_byte : goal.invariant-loop-at_byte
invariant-loop-at_byte l = AreZeros l.bytes l.fn.first l.at_byte
