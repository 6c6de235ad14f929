use Rattle.std.proofs.Common.{ℕ, [], ◌∷◌, subst}
use Rattle.space_alloc.specs.Edges.{IsFlipped}
use Rattle.space_alloc.proofs.Beside.{entry_listed, kept_drop}
use Rattle.space_alloc.proofs.Steps.{is_listed}
use Rattle.space_alloc.proofs.space.Space.drop_run.Goals as goal

pub end-requires : goal.end-requires
end-requires c = (entry_listed _ _ _ _ c.self.invariant (is_listed _ _ _ _ _ _ c.self.view_is c.requires.taken)).fits

pub invariant_of-self : goal.invariant_of-self
invariant_of-self c =
    kept_drop _ _ _ _ _ _ c.self.invariant c.flip_run.ensures.rising
    (subst (λ (end : ℕ). IsFlipped c.self.inside.edges.items c.flip_run.new.edges.items (c.args.start ∷ end ∷ [])) c.end.ensures c.flip_run.ensures.flipped)
    c.flip_run.ensures.len c.flip_run.ensures.capacity c.remove.ensures
