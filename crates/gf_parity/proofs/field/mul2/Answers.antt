use Rattle.std.proofs.Common.{arith, ◌∙◌}
use Rattle.gf_parity.proofs.Bits.{shifted_is_double}
use Rattle.gf_parity.proofs.Laws.{double_is_product}
use Rattle.gf_parity.proofs.field.mul2.Goals as goal
use Rattle.gf_parity.proofs.field.mul2.Goals.{then-byte-lt128, else-byte-lt128}

pub returns-clause-product : goal.returns-clause-product
returns-clause-product c =
    shifted_is_double c.args.byte c.if-byte-lt128.lost (omega arith)
    (λ few. elim c.if-byte-lt128.branch [ then-byte-lt128 w ↦ omega arith | else-byte-lt128 w ↦ omega arith ])
    (λ many. elim c.if-byte-lt128.branch [ then-byte-lt128 w ↦ omega arith | else-byte-lt128 w ↦ omega arith ])
    ∙ double_is_product c.args.byte (omega arith)
