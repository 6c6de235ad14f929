use Rattle.space_alloc.specs.Space.{IsFirstFit}
use Rattle.space_alloc.proofs.Steps.{free_of_holds}
use Rattle.space_alloc.proofs.Taking.{is_refused, is_sorted, looks_few, takes_first}
use Rattle.space_alloc.proofs.space.Space.take.Goals as goal

pub search-found-requires-clause-sorted : goal.search-found-requires-clause-sorted
search-found-requires-clause-sorted g c =
    is_sorted _ _ _ _ _ _ _ c.self.invariant c.deref.ensures.value c.as_slices.ensures.value c.as_slices.ensures.nonempty
    c.as_slices.ensures.shared_order c.as_slices.ensures.exclusive_order

pub returns-in-Err-clause-cause : goal.returns-in-Err-clause-cause
returns-in-Err-clause-cause g c =
    is_refused _ _ _ _ _ _ _ _ _ _ c.self.view_is c.self.invariant c.deref.ensures.value c.as_slices.ensures.value c.as_slices.ensures.nonempty
    c.as_slices.ensures.are_shared c.as_slices.ensures.are_exclusive c.requires.len _ _ c.in-Err.ensures.searched c.refusal.ensures

pub returns-in-Err-clause-steps : goal.returns-in-Err-clause-steps
returns-in-Err-clause-steps g c =
    looks_few _ _ _ _ _ _ _ _ _ _ c.self.view_is c.self.invariant c.deref.ensures.value c.as_slices.ensures.value c.as_slices.ensures.nonempty
    c.as_slices.ensures.are_shared c.as_slices.ensures.are_exclusive c.requires.len _ _ c.search-found.ensures.steps

pub claim-requires-clause-free : goal.claim-requires-clause-free
claim-requires-clause-free g c =
    let fit : IsFirstFit c.args.self.now c.args.locks.now c.args.len c.in-Ok.start =
    takes_first _ _ _ _ _ _ _ _ _ _ c.self.view_is c.self.invariant c.deref.ensures.value c.as_slices.ensures.value c.as_slices.ensures.nonempty
    c.as_slices.ensures.are_shared c.as_slices.ensures.are_exclusive c.requires.len _ c.in-Ok.ensures.searched in
    free_of_holds _ _ _ _ fit.free

pub returns-then-is_err-clause-cause : goal.returns-then-is_err-clause-cause
returns-then-is_err-clause-cause g c = (
  c.in-Ok.start,
  takes_first _ _ _ _ _ _ _ _ _ _ c.self.view_is c.self.invariant c.deref.ensures.value c.as_slices.ensures.value c.as_slices.ensures.nonempty
      c.as_slices.ensures.are_shared c.as_slices.ensures.are_exclusive c.requires.len _ c.in-Ok.ensures.searched,
)

pub returns-then-is_err-clause-steps : goal.returns-then-is_err-clause-steps
returns-then-is_err-clause-steps g c =
    looks_few _ _ _ _ _ _ _ _ _ _ c.self.view_is c.self.invariant c.deref.ensures.value c.as_slices.ensures.value c.as_slices.ensures.nonempty
    c.as_slices.ensures.are_shared c.as_slices.ensures.are_exclusive c.requires.len _ _ c.search-found.ensures.steps

pub returns-clause-ok : goal.returns-clause-ok
returns-clause-ok g c =
    takes_first _ _ _ _ _ _ _ _ _ _ c.self.view_is c.self.invariant c.deref.ensures.value c.as_slices.ensures.value c.as_slices.ensures.nonempty
    c.as_slices.ensures.are_shared c.as_slices.ensures.are_exclusive c.requires.len _ c.in-Ok.ensures.searched

pub returns-clause-steps : goal.returns-clause-steps
returns-clause-steps g c =
    looks_few _ _ _ _ _ _ _ _ _ _ c.self.view_is c.self.invariant c.deref.ensures.value c.as_slices.ensures.value c.as_slices.ensures.nonempty
    c.as_slices.ensures.are_shared c.as_slices.ensures.are_exclusive c.requires.len _ _ c.search-found.ensures.steps
