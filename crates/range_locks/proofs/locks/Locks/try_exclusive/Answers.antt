use Rattle.std.proofs.Common.{refl}
use Rattle.range_locks.specs.declared.hold.HoldKind.TheVariants.{Exclusive}
use Rattle.range_locks.specs.Holds.{IsClear}
use Rattle.range_locks.proofs.Digits.{steps_of_walk}
use Rattle.range_locks.proofs.Granting.{clear_of_none, exclusive_nonempty, exclusive_gains, exclusive_granted}
use Rattle.range_locks.proofs.Granting.{first_in_both, granted_clear, refused_by, refused_clear}
use Rattle.range_locks.proofs.locks.Locks.try_exclusive.Goals as goal

pub place_apart-at-requires-clause-nonempty : goal.place_apart-at-requires-clause-nonempty
place_apart-at-requires-clause-nonempty g c = exclusive_nonempty _ _ _ c.self.invariant c.deref.ensures.value

pub returns-in-Some-clause-cause : goal.returns-in-Some-clause-cause
returns-in-Some-clause-cause g c =
    refused_by _ _ _ _ _ _
    (first_in_both _ _ _ c.self.view_is c.self.invariant _ _ _ _ _ _ _ _ c.deref-2.ensures.value c.deref.ensures.value
    c.first_overlap-shared.ensures.first c.place_apart-at.ensures.first c.first_of.ensures) c.in-Some.is

pub returns-in-Some-clause-steps : goal.returns-in-Some-clause-steps
returns-in-Some-clause-steps g c =
    steps_of_walk _ _ _ c.self.view_is c.self.invariant _ _ _ _ _ c.deref.ensures.value c.deref-2.ensures.value
    c.place_apart-at.ensures.steps c.first_overlap-shared.ensures.steps

pub invariant_of-self : goal.invariant_of-self
invariant_of-self g c =
    let clear : IsClear c.args.self.now c.args.lo c.args.hi Exclusive = clear_of_none _ _ _ _ _
    (first_in_both _ _ _ c.self.view_is c.self.invariant _ _ _ _ _ _ _ _ c.deref-2.ensures.value c.deref.ensures.value
    c.first_overlap-shared.ensures.first c.place_apart-at.ensures.first c.first_of.ensures) c.in_default.is in
    exclusive_granted _ _ _ c.self.view_is c.self.invariant _ _ _ _ c.put_in.result refl c.requires.range clear c.deref.ensures.value
    c.place_apart-at.ensures.place c.put_in.ensures.items c.put_in.ensures.err

pub returns-clause-ok : goal.returns-clause-ok
returns-clause-ok g c =
    exclusive_gains _ _ _ c.self.view_is c.self.invariant _ _ _ c.put_in.result c.put_in.ensures.ok c.put_in.ensures.items

pub returns-clause-clear : goal.returns-clause-clear
returns-clause-clear g c = granted_clear _ _ _ _ c.put_in.result (clear_of_none _ _ _ _ _
    (first_in_both _ _ _ c.self.view_is c.self.invariant _ _ _ _ _ _ _ _ c.deref-2.ensures.value c.deref.ensures.value
    c.first_overlap-shared.ensures.first c.place_apart-at.ensures.first c.first_of.ensures) c.in_default.is)

pub returns-clause-cause : goal.returns-clause-cause
returns-clause-cause g c = refused_clear _ _ _ _ c.put_in.result (clear_of_none _ _ _ _ _
    (first_in_both _ _ _ c.self.view_is c.self.invariant _ _ _ _ _ _ _ _ c.deref-2.ensures.value c.deref.ensures.value
    c.first_overlap-shared.ensures.first c.place_apart-at.ensures.first c.first_of.ensures) c.in_default.is)
    c.put_in.ensures.cause

pub returns-clause-steps : goal.returns-clause-steps
returns-clause-steps g c =
    steps_of_walk _ _ _ c.self.view_is c.self.invariant _ _ _ _ _ c.deref.ensures.value c.deref-2.ensures.value
    c.place_apart-at.ensures.steps c.first_overlap-shared.ensures.steps
