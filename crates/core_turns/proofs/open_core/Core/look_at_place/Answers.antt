use Rattle.core_turns.proofs.put.Goes.{put_checks_core, put_inside}
use Rattle.core_turns.proofs.open_core.Core.look_at_place.Goals as goal

pub check-run-requires-clause-inside : goal.check-run-requires-clause-inside
check-run-requires-clause-inside g c =
    let stands = rw c.if-leave_if_gone.false at c.leave_if_gone.ensures in λ filled some.
    put_inside (rw (← c.self.view_is) at (rw (← stands.1) at c.requires.of)).mend some c.self.invariant
    (rw (← c.self.view_is) at (rw (← stands.1) at c.requires.bank))

pub invariant_of-self : goal.invariant_of-self
invariant_of-self g c =
    let stands = rw c.if-leave_if_gone.false at c.leave_if_gone.ensures in put_checks_core c.self.invariant
    (rw (← c.self.view_is) at (rw (← stands.1) at c.requires.of)).mend c.check-run.ensures
