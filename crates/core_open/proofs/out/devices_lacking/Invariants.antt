use Rattle.std.proofs.Common.{◌≡◌, false}
use Rattle.uberblock_ring.specs.Devices.{has_device}
use Rattle.core_open.specs.Sets.{StandOn}
use Rattle.core_open.proofs.Gathering.{IsGathered}
use Rattle.core_open.proofs.out.devices_lacking.Given as goal

abbrev pub invariant-loop-device : goal.invariant-loop-device
invariant-loop-device l = IsGathered (λ device. (has_device l.out device ≡ false) × (StandOn l.candidates device → ⊥)) l.device l.lacking
