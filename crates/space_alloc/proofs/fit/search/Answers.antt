use Rattle.std.proofs.Common.{sym, subst, arith}
use Rattle.space_alloc.specs.Fit.{HasWalked}
use Rattle.space_alloc.proofs.Walking.{steps_found, steps_over, walk_begins, walk_over}
use Rattle.space_alloc.proofs.fit.search.Goals as goal

pub loop-walk-init : goal.loop-walk-init
loop-walk-init g c = record {
  walked = subst (HasWalked c.args.edges.now c.args.shared.now c.args.exclusive.now c.args.capacity c.args.len) (sym c.begin-walk.ensures.value)
      (walk_begins _ _ _ _ _ c.requires.len c.requires.sorted);
  steps = omega (arith, c.begin-walk.ensures.steps);
}

pub returns-in-None-clause-steps : goal.returns-in-None-clause-steps
returns-in-None-clause-steps g c begins all =
    steps_found _ _ _ _ _ c.requires.len c.requires.sorted _ _ _ _ begins (omega (arith, c.in-Some.ensures, c.requires.len)) c.loop-walk.invariant.walked all
    c.loop-walk.invariant.steps c.in-None.ensures.found_steps

pub returns-clause-searched : goal.returns-clause-searched
returns-clause-searched g c =
    walk_over _ _ _ _ _ c.requires.len c.requires.sorted _ c.loop-walk.invariant.walked (omega (arith, c.in-Some.ensures, c.loop-walk-test.false))

pub returns-clause-steps : goal.returns-clause-steps
returns-clause-steps g c begins all =
    steps_over _ _ _ _ _ c.requires.len c.requires.sorted _ _ _ begins (omega (arith, c.in-Some.ensures, c.requires.len)) c.loop-walk.invariant.walked all
    c.loop-walk.invariant.steps
