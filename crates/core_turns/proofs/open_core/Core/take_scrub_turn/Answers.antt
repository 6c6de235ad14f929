use Rattle.core_turns.proofs.open_core.Core.take_scrub_turn.Goals as goal
use Rattle.core_turns.proofs.open_core.Core.take_scrub_turn.Goals.{in-Looks, in-Mends, in-Leaves}

pub returns-in_default-clause-steps : goal.returns-in_default-clause-steps
returns-in_default-clause-steps g c = c.take_up_next.ensures.steps (g.B.Bank.disk c.args.bank.now)

pub returns-in-Finds-clause-steps : goal.returns-in-Finds-clause-steps
returns-in-Finds-clause-steps g c = c.find_in_hand.ensures.steps (g.B.Bank.disk c.args.bank.now)

pub returns-clause-steps : goal.returns-clause-steps
returns-clause-steps g c = elim c.match-stage.branch [
  | in-Looks w ↦ rw (w.self-is, w.bank-is, w.run-is) w.look_on.ensures.goes_on
  | in-Mends w ↦ rw (w.self-is, w.bank-is, w.run-is) w.mend_on.ensures.goes_on
  | in-Leaves w ↦ rw (w.self-is, w.bank-is, w.run-is) (w.leave_on.ensures.goes_on (g.B.Bank.disk c.args.bank.now))
]
