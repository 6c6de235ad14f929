use Rattle.std.proofs.Common.{◌≡◌, ℕ, ◌+◌, max, sym, subst}
use Rattle.space_alloc.specs.Fit.{HasWalked}
use Rattle.space_alloc.proofs.Walking.{walk_found, walk_next, walk_pass, walk_shared}
use Rattle.space_alloc.proofs.walk.advance.Goals as goal

pub returns-then-walk-end-clause-walked : goal.returns-then-walk-end-clause-walked
returns-then-walk-end-clause-walked g c =
    walk_next _ _ _ _ _ c.requires.len c.requires.sorted _ c.requires.walked c.requires.within _ c.if-walk-end.true c.next_run.ensures.run c.next_run.ensures.none

pub returns-in-Some-clause-walked : goal.returns-in-Some-clause-walked
returns-in-Some-clause-walked g c =
    let walk = c.args.walk in
    let further : max walk.start c.in-Some.hold.hi ≡ c.max.result = sym c.max.ensures in
    subst (λ (start : ℕ). HasWalked c.args.edges.now c.args.shared.now c.args.exclusive.now c.args.capacity c.args.len
    (record walk { start = start; shared = walk.shared + 1 })) further
    (walk_shared _ _ _ _ _ c.requires.len c.requires.sorted _ c.requires.walked c.requires.within _ c.in-Some.ensures.head)

pub returns-in_default-head_below-clause-found : goal.returns-in_default-head_below-clause-found
returns-in_default-head_below-clause-found g c =
    walk_found _ _ _ _ _ c.requires.len c.requires.sorted _ c.requires.walked c.requires.within c.if-walk-end.false c.in_default.ensures.head
    c.in_default-head_below.ensures.head

pub returns-clause-walked : goal.returns-clause-walked
returns-clause-walked g c =
    walk_pass _ _ _ _ _ c.requires.len c.requires.sorted _ c.requires.walked c.requires.within _ _ c.if-walk-end.false c.in_default.ensures.head
    c.in-Some-head_below.ensures.head c.pass.ensures.ended c.pass.ensures.hinders
