use Rattle.core_turns.proofs.Words.{◌∙◌, job_end}
use Rattle.core_turns.proofs.copy.Turns.{job_ended_core}
use Rattle.core_turns.proofs.open_core.Core.job_end.Goals as goal

pub invariant_of-self : goal.invariant_of-self
invariant_of-self c =
    rw (c.end-self-inside.ensures.value ∙ (λ i. job_end (c.reflow-reflow.ensures.value i) (c.job.ensures.value i)))
    (job_ended_core c.self.invariant (rw (← c.self.view_is) at c.requires.of) c.end.ensures.ends)
