use Rattle.std.proofs.Common.{arith}
use Rattle.block_table.proofs.Tables.{empty_table}
use Rattle.block_table.proofs.table.Table.new.Goals as goal

pub invariant_of-result : goal.invariant_of-result
invariant_of-result c = (
  record { room = omega (arith, c.new.ensures.len, c.new-2.ensures.len) },
  empty_table c.new.result.items c.new-2.result.items c.new.ensures.items c.new-2.ensures.items,
)
