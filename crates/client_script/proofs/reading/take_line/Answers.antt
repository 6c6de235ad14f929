use Rattle.std.proofs.Common.{ℕ, Option, refl, subst}
use Rattle.client_script.specs.Faults.{IsFaultOf}
use Rattle.client_script.proofs.Steps.{wrong_without_meaning}
use Rattle.client_script.proofs.reading.take_line.Goals as goal

pub returns-in-Broken : goal.returns-in-Broken
returns-in-Broken c = (
  refl,
  wrong_without_meaning _ _ (rw c.in-Broken.is at c.in_ok-read_line.ensures),
  subst (λ (clients : Option ℕ). IsFaultOf clients c.args.text.now c.line_fault.result) c.named_by.ensures c.line_fault.ensures,
)
