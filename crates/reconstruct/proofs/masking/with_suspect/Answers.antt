use Rattle.std.proofs.Common.{arith}
use Rattle.reconstruct.proofs.Suspected.{one_row_masked}
use Rattle.reconstruct.proofs.masking.with_suspect.Goals as goal

pub loop-row-preserved : goal.loop-row-preserved
loop-row-preserved c = record {
  long = omega (arith, c.loop-row.invariant.long, c.in_ok-push.ensures.len);
  value =
      one_row_masked c.args.layout.now c.args.pair.now c.args.lost.now c.loop-row.masks.items c.push.new.self.items c.loop-row.row c.suspect_mask.result
      c.loop-row.invariant.long c.in_ok-push.ensures.items c.loop-row.invariant.value c.suspect_mask.ensures;
}
