use Rattle.block_table.proofs.Tables.{few_entries}
use Rattle.core_turns.proofs.open_core.Core.scrub_begin.Goals as goal

pub new-requires : goal.new-requires
new-requires c = record { few = rw c.entries.ensures.value (few_entries _ _ c.entries.ensures.table) }
