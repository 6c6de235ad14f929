use Rattle.std.proofs.Common.{arith}
use Rattle.reconstruct.proofs.Readback.{one_more, one_longer, read_back, encoded_holds}
use Rattle.reconstruct.proofs.reading.content.Goals as goal

pub loop-number-preserved : goal.loop-number-preserved
loop-number-preserved c = record {
  long =
      one_longer c.loop-number.bytes.items c.extend_from_slice.new.self.items c.column-column.result.now c.args.len c.loop-number.number c.min.result
      c.loop-number.invariant.long (omega arith) (omega arith) c.column-column.ensures.wide c.in_ok-extend_from_slice.ensures.items;
  value =
      one_more c.args.layout.now c.args.rows.now c.loop-number.bytes.items c.extend_from_slice.new.self.items c.column-column.result.now c.loop-number.number
      c.holder-holder.result.row c.holder-holder.result.column c.min.result c.sectors-number-end.ensures.within.is (omega arith) (omega arith) (omega arith)
      c.column-column.ensures.value c.in_ok-extend_from_slice.ensures.items c.holder-holder.ensures.place c.loop-number.invariant.value;
  full = λ some. c.column-column.ensures.full;
}

pub returns-clause-back : goal.returns-clause-back
returns-clause-back c = λ wanted long holds.
    read_back c.args.layout.now c.args.rows.now c.loop-number.bytes.items wanted c.sectors-number-end.ensures.within.is (omega arith)
    c.loop-number.invariant.value (omega (arith, long)) holds

pub returns-clause-encoded : goal.returns-clause-encoded
returns-clause-encoded c = λ wanted long encoded.
    read_back c.args.layout.now c.args.rows.now c.loop-number.bytes.items wanted c.sectors-number-end.ensures.within.is (omega arith)
    c.loop-number.invariant.value (omega (arith, long))
    (encoded_holds c.args.layout.now wanted c.args.rows.now c.sectors-number-end.ensures.within.is encoded)
