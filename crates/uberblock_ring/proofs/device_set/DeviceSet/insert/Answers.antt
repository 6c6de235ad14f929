use Rattle.std.proofs.Common.{◌*◌, ◌^◌, arith}
use Rattle.std.proofs.Math.Nat.{mod-lt}
use Rattle.std.proofs.lemmas.Nat.{or_lt}
use Rattle.uberblock_ring.proofs.device_set.DeviceSet.insert.Goals as goal

pub invariant_of-self : goal.invariant_of-self
invariant_of-self c = or_lt 64 c.self.inside.bits _ c.self.invariant (mod-lt (1 * 2 ^ c.args.device) (omega arith))
