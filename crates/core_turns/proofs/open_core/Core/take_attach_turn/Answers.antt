use Rattle.core_turns.proofs.Words.{◌∙◌, ap, Some, Core}
use Rattle.core_turns.proofs.attach.Goes.{attach_too_many, stops_attach}
use Rattle.core_turns.proofs.open_core.Core.take_attach_turn.Goals as goal

pub returns-then-has_too_many_out-clause-steps : goal.returns-then-has_too_many_out-clause-steps
returns-then-has_too_many_out-clause-steps g c =
    rw (c.stop_attach-then-has_too_many_out.ensures.value ∙ ap Some c.too_many.ensures)
    (attach_too_many _ _ c.args.run.now c.stop_attach.inside.out
    (stops_attach c.args.self.now _ _ c.stop_attach-then-has_too_many_out.ensures.core)
    (c.has_too_many_out.ensures.many.0 c.if-has_too_many_out.true)
    (ap (λ (core : Core). core.pool.out) c.stop_attach.view_is))

pub returns-in-Checked-clause-steps : goal.returns-in-Checked-clause-steps
returns-in-Checked-clause-steps g c = c.begin_joining.ensures.steps (g.B.Bank.disk c.args.bank.now)

pub returns-in-Checked-clause-of : goal.returns-in-Checked-clause-of
returns-in-Checked-clause-of g c = c.begin_joining.ensures.of (g.B.Bank.disk c.args.bank.now)
    c.requires.there
