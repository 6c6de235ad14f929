use Rattle.core_turns.proofs.put.Goes.{put_inside, put_writes_core}
use Rattle.core_turns.proofs.open_core.Core.mend_place.Goals as goal

pub write_next-requires-clause-inside : goal.write_next-requires-clause-inside
write_next-requires-clause-inside g c =
    let stands = rw c.if-leave_if_gone.false at c.leave_if_gone.ensures in λ filled some.
    put_inside (rw (← c.self.view_is) at (rw (← stands.1) at c.requires.of)).mend some c.self.invariant
    (rw (← c.self.view_is) at (rw (← stands.1) at c.requires.bank))

pub invariant_of-self : goal.invariant_of-self
invariant_of-self g c =
    let stands = rw c.if-leave_if_gone.false at c.leave_if_gone.ensures in put_writes_core c.self.invariant
    (rw (← c.self.view_is) at (rw (← stands.1) at c.requires.of)).mend c.write_next.ensures
