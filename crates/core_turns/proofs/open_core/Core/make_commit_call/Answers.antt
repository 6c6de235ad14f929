use Rattle.core_turns.proofs.Words.{sym, refl}
use Rattle.core_turns.proofs.sync.Goes.{commit_fits, commit_stays, step_core}
use Rattle.core_turns.proofs.state.Cores.{few_out}
use Rattle.core_turns.proofs.open_core.Core.make_commit_call.Goals as goal

pub invariant_of-self : goal.invariant_of-self
invariant_of-self g c = step_core _ c.args.run.now _ _ _ _ _ c.self.invariant (rw (← c.self.view_is) at c.requires.of)
    c.step.ensures.steps c.step.ensures.below

pub step-requires-clause-fits : goal.step-requires-clause-fits
step-requires-clause-fits g c = commit_fits _ c.args.run.now _ c.self.invariant (rw (← c.self.view_is) at c.requires.of)
    c.uber.ensures.counted (rw (← c.self.view_is) at c.requires.bank)

pub answer_group-requires-clause-of : goal.answer_group-requires-clause-of
answer_group-requires-clause-of g c = (
  c.step.new.self,
  sym c.uber-in-Ended.ensures.value,
  commit_stays _ c.args.run.now _ _ _ _ _ (rw (← c.self.view_is) at c.requires.of) c.step.ensures.steps
      c.step.ensures.gone.stay,
)

pub returns-in-Called-clause-steps : goal.returns-in-Called-clause-steps
returns-in-Called-clause-steps g c = rw (← c.self.view_is) (
  few_out c.self.view_is c.has_too_many_out.ensures.many.1 c.if-has_too_many_out.false,
  c.in-Called.ensures.steps,
  refl,
  commit_stays _ c.args.run.now _ _ _ _ _ (rw (← c.self.view_is) at c.requires.of) c.step.ensures.steps
      c.step.ensures.gone.stay,
)
