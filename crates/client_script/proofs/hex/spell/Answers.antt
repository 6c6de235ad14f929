use Rattle.std.proofs.Common.{◌∙◌, arith}
use Rattle.client_script.proofs.HexLanes.{sixteen_more}
use Rattle.client_script.proofs.hex.spell.Goals as goal

pub loop-done-preserved : goal.loop-done-preserved
loop-done-preserved c = record {
  within = omega (arith, c.loop-done-test.true);
  long = c.spell_lanes.ensures.long ∙ c.loop-done.invariant.long;
  so_far = sixteen_more c.args.bytes.now c.loop-done.digits c.spell_lanes.new.digits c.loop-done.done c.loop-done.invariant.so_far c.spell_lanes.ensures.spelled;
}
