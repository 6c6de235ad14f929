use Rattle.std.proofs.Common.{arith}
use Rattle.block_table.proofs.Tables.{few_entries}
use Rattle.block_table.proofs.table.Table.len.Goals as goal

pub returns-clause-few : goal.returns-clause-few
returns-clause-few c =
    omega (arith, few_entries c.self.inside.entries.items c.self.inside.reserved.items c.self.invariant.1, c.len.ensures)
