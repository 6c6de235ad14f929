use Rattle.range_locks.proofs.Granting.{first_in_both}
use Rattle.range_locks.proofs.locks.Locks.blocker.Goals as goal

pub returns : goal.returns
returns c = record {
  value = first_in_both _ _ _ c.self.view_is c.self.invariant _ _ _ _ _ _ _ _ c.deref.ensures.value c.deref-2.ensures.value
      c.blocker-shared.ensures c.blocker.ensures c.first_of.ensures;
}
