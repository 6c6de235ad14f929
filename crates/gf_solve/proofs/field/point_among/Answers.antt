use Rattle.std.proofs.Common.{◌∙◌, sym}
use Rattle.gf_solve.proofs.Units.{power_some}
use Rattle.gf_solve.proofs.field.point_among.Goals as goal

pub returns-clause-some : goal.returns-clause-some
returns-clause-some c = λ none. power_some _ (sym c.point.ensures ∙ none)
