use Rattle.std.proofs.Common.{arith}
use Rattle.block_table.proofs.Tables.{remove_table}
use Rattle.block_table.proofs.table.Table.remove.Goals as goal

pub invariant_of-self : goal.invariant_of-self
invariant_of-self c = (
  record { room = omega (arith, c.self.invariant.0.room, c.remove.ensures.len, c.remove.ensures.capacity) },
  remove_table c.self.inside.entries.items c.remove.new.entries.items c.self.inside.reserved.items c.args.id c.self.invariant.1
      c.remove.ensures.index c.remove.ensures.change,
)
