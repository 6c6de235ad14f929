use Rattle.core_open.specs.Sets.{IsOutBy}
use Rattle.core_open.proofs.Gathering.{IsGathered}
use Rattle.core_open.proofs.out.devices_out.Given as goal

abbrev pub invariant-loop-device : goal.invariant-loop-device
invariant-loop-device l =
    IsGathered (IsOutBy l.devices l.rings.silent l.rings.taken l.rings.ubers.items l.candidates l.uber) l.device l.out
