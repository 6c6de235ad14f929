use Rattle.core_turns.proofs.Words.{◌∙◌, refl}
use Rattle.core_turns.proofs.putting.PutRun.fill_in.Goals as goal

pub returns-clause-ok : goal.returns-clause-ok
returns-clause-ok c = record {
  filled = c.in_ok-made.made.filled;
  rest = refl;
  made = rw (c.in_ok-made.ensures.block ∙ c.shape.ensures) at c.in_ok-made.ensures.made;
}
