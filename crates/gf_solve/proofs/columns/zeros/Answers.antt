use Rattle.gf_solve.proofs.Restored.{zero_there}
use Rattle.gf_solve.proofs.columns.zeros.Goals as goal

pub returns : goal.returns
returns c = λ at. zero_there 512 at
