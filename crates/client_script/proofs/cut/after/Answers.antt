use Rattle.std.proofs.lemmas.Slice.Eq.{strip_prefix_is}
use Rattle.std.proofs.lemmas.Bool.Decides.{Decides-eqb}
use Rattle.client_script.proofs.cut.after.Goals as goal

pub returns-in_default : goal.returns-in_default
returns-in_default c = strip_prefix_is Decides-eqb _ _ _ c.strip_prefix.ensures.cases
