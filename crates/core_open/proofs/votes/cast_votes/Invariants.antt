use Rattle.core_open.proofs.Casting.{AreCast}
use Rattle.core_open.proofs.votes.cast_votes.Given as goal

abbrev pub invariant-loop-device : goal.invariant-loop-device
invariant-loop-device l = AreCast l.ubers l.silent l.device l.votes.items
