use Rattle.core_turns.proofs.state.Cores.{core_out}
use Rattle.core_turns.proofs.copy.Turns.{job_below, job_steps_of}
use Rattle.core_turns.proofs.open_core.Core.make_job_call.Goals as goal

pub returns-clause-of : goal.returns-clause-of
returns-clause-of g c = job_steps_of (rw (← c.self.view_is) at c.requires.of) c.requires.left c.step.ensures.out.still
    c.step.ensures.steps (rw (← c.self.view_is) at c.requires.whole) c.step.ensures.read

pub invariant_of-self : goal.invariant_of-self
invariant_of-self g c = core_out _ _ c.self.invariant
    (job_below c.self.invariant (rw (← c.self.view_is) at c.requires.of) c.step.ensures.below) c.step.ensures.out.still
