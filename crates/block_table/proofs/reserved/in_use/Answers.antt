use Rattle.std.proofs.Common.{arith}
use Rattle.block_table.proofs.Counts.{counted_all}
use Rattle.block_table.proofs.reserved.in_use.Goals as goal

pub returns : goal.returns
returns c = record {
  value = omega (
    arith,
    c.loop-index.invariant.counted,
    counted_all c.args.entries.now c.args.reserved.now c.loop-index.index c.requires.index (omega arith),
  );
}
