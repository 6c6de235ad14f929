use Rattle.std.proofs.Common.{◌∙◌, sym}
use Rattle.gf_parity.proofs.Horner.{p_none, p_more, is_parity_column}
use Rattle.gf_parity.proofs.plain.parity_p.Goals as goal

pub loop-column-init : goal.loop-column-init
loop-column-init c = record { long = c.clear.array_long; bytes = λ at low. c.clear.ensures at low ∙ sym (p_none at) }

pub loop-column-preserved : goal.loop-column-preserved
loop-column-preserved c = record {
  long = c.add.array_long;
  bytes = λ at low.
      c.add.ensures at low
      ∙ p_more at c.loop-column.column-index _ c.args.content.now _ c.loop-column-test.true (c.loop-column.invariant.bytes at low);
}

pub returns : goal.returns
returns c =
    is_parity_column 0 c.loop-column.column-index c.loop-column.out c.args.content.now c.loop-column.invariant.long c.loop-column-test.false
    c.loop-column.invariant.bytes
