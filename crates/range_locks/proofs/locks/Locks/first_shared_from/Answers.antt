use Rattle.range_locks.proofs.Granting.{first_shared_of}
use Rattle.range_locks.proofs.locks.Locks.first_shared_from.Goals as goal

pub returns : goal.returns
returns c = record {
  value = first_shared_of _ _ _ c.self.view_is c.self.invariant _ _ _ c.deref.ensures.value c.first_shared_from.ensures;
}
