use Rattle.core_turns.proofs.copy.Turns.{job_turn}
use Rattle.core_turns.proofs.open_core.Core.job_step.Goals as goal

pub returns-clause-goes_on : goal.returns-clause-goes_on
returns-clause-goes_on g c = job_turn c.make_job_call.ensures.is c.requires.of c.requires.left c.make_job_call.ensures.steps

pub returns-clause-out : goal.returns-clause-out
returns-clause-out g c = (returns-clause-goes_on g c).out
