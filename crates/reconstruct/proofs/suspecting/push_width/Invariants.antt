use Rattle.std.proofs.Common.{◌≡◌, ◌++◌}
use Rattle.reconstruct.specs.Suspects.{pairs_of_width}
use Rattle.reconstruct.proofs.suspecting.push_width.Given as goal

-- the devices so far
abbrev pub invariant-loop-device : goal.invariant-loop-device
invariant-loop-device l = l.pairs.items ≡ l.fn.pairs.items ++ pairs_of_width l.mark l.width l.device
