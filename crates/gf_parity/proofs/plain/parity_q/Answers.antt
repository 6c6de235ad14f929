use Rattle.std.proofs.Common.{◌∙◌, sym}
use Rattle.gf_parity.proofs.Horner.{q_none, q_more, is_parity_column}
use Rattle.gf_parity.proofs.plain.parity_q.Goals as goal

pub loop-column-init : goal.loop-column-init
loop-column-init c = record { long = c.clear.array_long; bytes = λ at low. c.clear.ensures at low ∙ sym (q_none at) }

pub loop-column-preserved : goal.loop-column-preserved
loop-column-preserved c = record {
  long = c.double_and_add.array_long;
  bytes = λ at low.
      c.double_and_add.ensures at low
      ∙ q_more at c.loop-column.column-index _ c.args.content.now _ c.loop-column-test.true (c.loop-column.invariant.bytes at low);
}

pub returns : goal.returns
returns c =
    is_parity_column 1 c.loop-column.column-index c.loop-column.out c.args.content.now c.loop-column.invariant.long c.loop-column-test.false
    c.loop-column.invariant.bytes
