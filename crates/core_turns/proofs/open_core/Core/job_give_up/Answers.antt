use Rattle.core_turns.proofs.copy.Turns.{job_dropped_core}
use Rattle.core_turns.proofs.open_core.Core.job_give_up.Goals as goal

pub invariant_of-self : goal.invariant_of-self
invariant_of-self c = job_dropped_core c.self.invariant (rw (← c.self.view_is) at c.requires.of) c.end.ensures.ends

pub invariant_of-self-then-has_too_many_out : goal.invariant_of-self-then-has_too_many_out
invariant_of-self-then-has_too_many_out c =
    job_dropped_core c.self.invariant (rw (← c.self.view_is) at c.requires.of) c.end.ensures.ends

pub invariant_of-self-2 : goal.invariant_of-self-2
invariant_of-self-2 c = job_dropped_core c.self.invariant (rw (← c.self.view_is) at c.requires.of) c.end.ensures.ends
