use Rattle.core_blocks.proofs.Loaded.{IsLoadedTo}
use Rattle.core_blocks.proofs.loading.table_of.Given as goal

abbrev pub invariant-loop-entry : goal.invariant-loop-entry
invariant-loop-entry l = IsLoadedTo l.entries l.entry-index l.table
