use Rattle.std.proofs.lemmas.List.{get_or-replicate}
use Rattle.client_script.proofs.script.Script.calls_in_order.Goals as goal

pub invariant_of-result : goal.invariant_of-result
invariant_of-result c = λ actor within. get_or-replicate 256 actor 0 0 within
