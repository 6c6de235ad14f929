use Rattle.range_locks.proofs.InOrder.{exclusive_taken_out, not_shared, shared_taken_out}
use Rattle.range_locks.proofs.Granting.{exclusive_ends, listed_exclusive, order_of_exclusive}
use Rattle.range_locks.proofs.locks.Locks.end.Goals as goal

pub invariant_of-self : goal.invariant_of-self
invariant_of-self c = shared_taken_out _ _ _ _ c.self.invariant c.take_out.ensures.ends

pub take_out-requires-in-Exclusive-clause-listed : goal.take_out-requires-in-Exclusive-clause-listed
take_out-requires-in-Exclusive-clause-listed c = listed_exclusive _ _ _ c.self.view_is c.self.invariant _ c.in-Exclusive.is c.requires.listed

pub take_out-requires-in-Exclusive-clause-order : goal.take_out-requires-in-Exclusive-clause-order
take_out-requires-in-Exclusive-clause-order c = order_of_exclusive _ _ _ c.self.view_is c.self.invariant

pub invariant_of-self-in-Exclusive : goal.invariant_of-self-in-Exclusive
invariant_of-self-in-Exclusive c =
    exclusive_taken_out _ _ _ _ c.self.invariant (not_shared _ _ c.self.invariant.are_shared c.in-Exclusive.is) c.take_out-in-Exclusive.ensures.ends

pub returns-in-Exclusive : goal.returns-in-Exclusive
returns-in-Exclusive c = record {
  ends = exclusive_ends _ _ _ c.self.view_is c.self.invariant _ _ c.in-Exclusive.is c.take_out-in-Exclusive.ensures.ends;
}
