use Rattle.space_alloc.proofs.Beside.{kept_hold}
use Rattle.space_alloc.proofs.space.Space.hold_until.Goals as goal

pub invariant_of-self : goal.invariant_of-self
invariant_of-self c =
    kept_hold _ _ _ _ _ _ c.self.invariant c.remove.ensures c.push_reserved.ensures.items c.push_reserved.ensures.len c.push_reserved.ensures.capacity
