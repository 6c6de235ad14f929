use Rattle.std.proofs.Common.{ℕ, ◌∙◌, ap, sym}
use Rattle.gf_solve.specs.Inverse.{inverse_of}
use Rattle.gf_solve.specs.Weight.{weight}
use Rattle.gf_solve.proofs.Units.{inverse_one}
use Rattle.gf_solve.proofs.singling.divisors.Goals as goal

pub returns-in-0-clause-x : goal.returns-in-0-clause-x
returns-in-0-clause-x c = sym (ap (λ (k : ℕ). inverse_of (weight k c.args.x)) c.in-0.is ∙ inverse_one)

pub returns-in-0-clause-y : goal.returns-in-0-clause-y
returns-in-0-clause-y c = sym (ap (λ (k : ℕ). inverse_of (weight k c.args.y)) c.in-0.is ∙ inverse_one)
