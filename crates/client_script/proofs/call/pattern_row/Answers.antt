use Rattle.std.proofs.Common.{◌∙◌, arith}
use Rattle.std.proofs.Math.ListN.{length-set}
use Rattle.client_script.proofs.Patterns.{row_set}
use Rattle.client_script.proofs.call.pattern_row.Goals as goal

pub loop-place-preserved : goal.loop-place-preserved
loop-place-preserved c = record {
  long = length-set c.loop-place.row c.loop-place.place _ ∙ c.loop-place.invariant.long;
  each = row_set c.loop-place.row c.args.first c.loop-place.place c.loop-place.invariant.long
      (omega (arith, c.loop-place-test.true, c.loop-place.auto.place-end)) c.loop-place.invariant.each;
}
