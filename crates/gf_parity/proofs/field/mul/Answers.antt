use Rattle.std.proofs.Common.{◌≡◌, ◌∙◌, ◌/◌, sym, ap, arith}
use Rattle.gf_parity.specs.Field.{product}
use Rattle.gf_parity.proofs.Bits.{mul_more}
use Rattle.gf_parity.proofs.Laws.{product_zero}
use Rattle.gf_parity.proofs.field.mul.Goals as goal
use Rattle.gf_parity.proofs.field.mul.Goals.{then-right-bit-eq1, else-right-bit-eq1}

pub loop-bit-init : goal.loop-bit-init
loop-bit-init c = let none : c.args.right / 256 ≡ 0 = omega arith in sym (ap (product c.args.left) none ∙ product_zero c.args.left)

pub loop-bit-preserved : goal.loop-bit-preserved
loop-bit-preserved c =
    mul_more c.args.left c.args.right c.loop-bit.bit c.loop-bit.sum c.mul2.result c.if-right-bit-eq1.part (omega arith) (omega arith) c.loop-bit-test.true
    c.loop-bit.invariant c.mul2.ensures.product
    (λ one. elim c.if-right-bit-eq1.branch [ then-right-bit-eq1 w ↦ w.part-is | else-right-bit-eq1 w ↦ absurd (w.if-right-bit-eq1.false one) ])
    (λ none. elim c.if-right-bit-eq1.branch [ then-right-bit-eq1 w ↦ absurd (none w.if-right-bit-eq1.true) | else-right-bit-eq1 w ↦ w.part-is ])
