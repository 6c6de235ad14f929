use Rattle.std.proofs.Common.{◌∙◌, arith}
use Rattle.gf_parity.proofs.Laws.{product_comm}
use Rattle.gf_solve.proofs.plain.times.Goals as goal

pub returns : goal.returns
returns c = c.mul.ensures.value ∙ product_comm c.args.byte c.args.factor (omega arith) (omega arith)
