use Rattle.std.proofs.Common.{arith}
use Rattle.block_table.proofs.Tables.{release_table}
use Rattle.block_table.proofs.table.Table.release_id.Goals as goal

pub invariant_of-self : goal.invariant_of-self
invariant_of-self c = (
  record { room = omega (arith, c.self.invariant.0.room, c.end_one.ensures.len) },
  release_table c.self.inside.entries.items c.self.inside.reserved.items c.end_one.new.reserved.items c.args.id c.self.invariant.1
      c.end_one.ensures.value,
)
