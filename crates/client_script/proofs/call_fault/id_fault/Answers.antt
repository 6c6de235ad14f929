use Rattle.client_script.proofs.Faults.{two_ids, wrong_id}
use Rattle.client_script.proofs.call_fault.id_fault.Goals as goal

pub returns-in-Some : goal.returns-in-Some
returns-in-Some c = two_ids _ _ _ _ c.requires.name c.in-Some.ensures.some

pub returns-in-None : goal.returns-in-None
returns-in-None c = wrong_id _ _ c.requires.name c.in-None.ensures.none c.requires.no_id
