use Rattle.space_alloc.proofs.Beside.{held_listed, kept_until}
use Rattle.space_alloc.proofs.Steps.{frees}
use Rattle.space_alloc.proofs.space.Space.synced.Goals as goal

pub flip_until-requires-clause-entries : goal.flip_until-requires-clause-entries
flip_until-requires-clause-entries c = held_listed _ _ _ _ c.self.invariant c.deref.ensures.value

pub invariant_of-self : goal.invariant_of-self
invariant_of-self c =
    kept_until _ _ _ _ _ c.args.group _ c.deref.ensures.value c.self.invariant c.remove_until.ensures.left c.remove_until.ensures.len
    c.remove_until.ensures.capacity c.flip_until.ensures.released

pub returns : goal.returns
returns c = record { value = frees _ _ _ _ _ _ c.self.view_is c.remove_until.ensures.left }
