use Rattle.core_turns.proofs.Words.{refl}
use Rattle.core_turns.proofs.attach.Turns.{join_drops_core, join_drops_more, join_goes_core, join_goes_more}
use Rattle.core_turns.proofs.attach.Turns.{join_joins_core, join_joins_more}
use Rattle.core_turns.proofs.open_core.Core.step_join.Goals as goal

pub invariant_of-self : goal.invariant_of-self
invariant_of-self g c =
    let of = rw (← c.in-Joins.ensures, ← c.self.view_is) at c.requires.of in
    join_goes_core _ c.in-Joins.join _ _ _ c.self.invariant of.0.of of.1 c.in-GoesOn.join c.in-GoesOn.ensures.steps
    c.in-GoesOn.ensures.fits.below

pub invariant_of-self-in-Joined : goal.invariant_of-self-in-Joined
invariant_of-self-in-Joined g c =
    let of = rw (← c.in-Joins.ensures, ← c.self.view_is) at c.requires.of in
    join_joins_core _ c.in-Joins.join _ _ _ c.self.invariant of.0.of of.1 c.in-Joined.commit c.in-Joined.ensures.steps
    c.in-Joined.ensures.fits.below

pub invariant_of-self-in-Dropped : goal.invariant_of-self-in-Dropped
invariant_of-self-in-Dropped g c =
    let of = rw (← c.in-Joins.ensures, ← c.self.view_is) at c.requires.of in
    join_drops_core _ c.in-Joins.join _ _ _ c.self.invariant of.0.of of.1 c.in-Dropped.commit c.in-Dropped.why
    c.in-Dropped.ensures.steps c.in-Dropped.ensures.fits.below

pub returns-in-GoesOn-clause-of : goal.returns-in-GoesOn-clause-of
returns-in-GoesOn-clause-of g c =
    let of = rw (← c.in-Joins.ensures, ← c.self.view_is) at c.requires.of in
    join_goes_more _ c.in-Joins.join _ _ _ c.self.invariant of.0.of of.1 c.in-GoesOn.join of.0.under_way
    (rw (← c.in-Joins.ensures) at c.requires.there)
    c.in-GoesOn.ensures.steps

pub returns-in-Joined-clause-of : goal.returns-in-Joined-clause-of
returns-in-Joined-clause-of g c = let of = rw (← c.in-Joins.ensures, ← c.self.view_is) at c.requires.of in (
  join_joins_more _ c.in-Joins.join _ _ _ c.self.invariant of.0.of of.1 c.in-Joined.commit of.0.under_way
      c.in-Joined.ensures.steps,
  tt,
)

pub returns-in-Dropped-clause-of : goal.returns-in-Dropped-clause-of
returns-in-Dropped-clause-of g c = let of = rw (← c.in-Joins.ensures, ← c.self.view_is) at c.requires.of in (
  join_drops_more _ c.in-Joins.join _ _ _ c.self.invariant of.0.of of.1 c.in-Dropped.commit c.in-Dropped.why
      of.0.under_way c.in-Dropped.ensures.steps,
  tt,
)

pub returns-in-GoesOn-clause-steps : goal.returns-in-GoesOn-clause-steps
returns-in-GoesOn-clause-steps g c = rw (← c.in-Joins.ensures, ← c.self.view_is) (
  record { few = rw (← c.self.view_is) at c.requires.few; steps = c.in-GoesOn.ensures.steps },
  refl,
)
