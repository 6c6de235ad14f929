use Rattle.block_table.proofs.Tables.{few_entries}
use Rattle.core_blocks.proofs.blocks.Blocks.page.Goals as goal

pub of-requires-clause-few : goal.of-requires-clause-few
of-requires-clause-few c =
    rw c.entries.ensures.value (few_entries _ _ c.entries.ensures.table)
