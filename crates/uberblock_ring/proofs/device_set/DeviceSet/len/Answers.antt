use Rattle.std.proofs.Common.{◌∙◌, ap, arith, ℕ}
use Rattle.std.specs.Prelude.{count_ones}
use Rattle.uberblock_ring.proofs.DeviceSets.{ones_all, ones_count}
use Rattle.uberblock_ring.proofs.device_set.DeviceSet.len.Goals as goal

pub returns-clause-value : goal.returns-clause-value
returns-clause-value c =
    ap (λ (n : ℕ). count_ones n) c.self.view_is ∙ ones_all c.args.self.now (omega (arith, c.self.invariant, c.self.view_is))

pub returns-clause-below : goal.returns-clause-below
returns-clause-below c width below inside = ap (λ (n : ℕ). count_ones n) c.self.view_is ∙ ones_count c.args.self.now width below
