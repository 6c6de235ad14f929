use Rattle.std.proofs.Common.{◌≡◌, take}
use Rattle.block_table.specs.Table.{ids_of}
use Rattle.core_turns.proofs.scrub_run.ScrubRun.new.Given as goal

-- The ids of the entries so far.
abbrev pub invariant-loop-entry : goal.invariant-loop-entry
invariant-loop-entry l = l.ids.items ≡ ids_of (take l.entry-index l.entries)
