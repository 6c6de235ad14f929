use Rattle.client_script.proofs.Writing.{part_from_whole}
use Rattle.client_script.proofs.text_writer.hand_over.Goals as goal

pub returns-in-Ok-clause-part : goal.returns-in-Ok-clause-part
returns-in-Ok-clause-part g c = λ _. part_from_whole _ _ _ c.in-Ok.ensures.ok
