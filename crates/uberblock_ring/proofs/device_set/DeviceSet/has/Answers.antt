use Rattle.std.proofs.Common.{◌∙◌, sym, arith}
use Rattle.std.proofs.lemmas.Bool.{le-ltb}
use Rattle.uberblock_ring.proofs.DeviceSets.{none_above}
use Rattle.uberblock_ring.proofs.device_set.DeviceSet.has.Goals as goal

pub returns-else-device-lt64 : goal.returns-else-device-lt64
returns-else-device-lt64 c = record {
  value = le-ltb c.args.device 64 c.if-device-lt64.false
      ∙ sym (none_above c.args.self.now 64 c.args.device (omega (arith, c.self.invariant, c.self.view_is)) c.if-device-lt64.false);
}
