use Rattle.std.proofs.Common.{take}
use Rattle.core_blocks.specs.Loading.{IsTakenBy}
use Rattle.core_blocks.proofs.loading.space_of.Given as goal

abbrev pub invariant-loop-entry : goal.invariant-loop-entry
invariant-loop-entry l =
    IsTakenBy l.parity l.births l.capacity (take l.entry-index l.entries) l.space
