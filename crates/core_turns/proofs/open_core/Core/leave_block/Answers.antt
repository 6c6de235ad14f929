use Rattle.core_turns.proofs.read.Turns.{read_ended}
use Rattle.core_turns.proofs.open_core.Core.leave_block.Goals as goal

pub invariant_of-self : goal.invariant_of-self
invariant_of-self c = read_ended c.self.invariant (rw (← c.self.view_is) at c.requires.of).read c.end.ensures.ends
