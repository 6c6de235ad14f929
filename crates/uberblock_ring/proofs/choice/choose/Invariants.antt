use Rattle.std.proofs.Common.{take}
use Rattle.std.specs.Option.{option_copied}
use Rattle.uberblock_ring.specs.Choice.{IsChosenOf}
use Rattle.uberblock_ring.proofs.choice.choose.Given as goal

abbrev pub invariant-loop-other : goal.invariant-loop-other
invariant-loop-other l = IsChosenOf (take l.other-index l.shown) (option_copied l.choice)
