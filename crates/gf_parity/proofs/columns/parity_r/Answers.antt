use Rattle.std.proofs.Common.{arith}
use Rattle.gf_parity.specs.Parity.{parity_byte, bytes_at}
use Rattle.gf_parity.proofs.Horner.{is_parity_column_whole}
use Rattle.gf_parity.proofs.Lanewise.{one_more_stored}
use Rattle.gf_parity.proofs.columns.parity_r.Goals as goal

pub loop-part-preserved : goal.loop-part-preserved
loop-part-preserved c = record {
  long = c.store.array_long;
  bytes = one_more_stored 64 c.loop-part.part c.loop-part.out c.store.new.out c.r_from.result (λ place. parity_byte 2 (bytes_at place c.args.content.now))
      c.loop-part.invariant.bytes c.store.ensures.before c.store.ensures.lanes c.r_from.ensures.lanes;
}

pub returns : goal.returns
returns c = is_parity_column_whole 2 c.loop-part.out c.args.content.now c.loop-part.invariant.long (λ at low. c.loop-part.invariant.bytes at (omega (arith, low, c.loop-part-test.false)))
