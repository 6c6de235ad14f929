use Rattle.std.proofs.Common.{◌≡◌, length}
use Rattle.block_record.specs.Index.{BeginsWith}
use Rattle.block_record.proofs.read.read_entries.Given as goal

abbrev pub invariant-loop-index : goal.invariant-loop-index
invariant-loop-index l = record {
  counted : length l.entries.items ≡ l.index;
  begins : BeginsWith l.fn.bytes l.entries.items;
}
