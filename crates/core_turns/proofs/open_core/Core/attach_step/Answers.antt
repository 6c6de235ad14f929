use Rattle.core_turns.proofs.Words.{turn_with}
use Rattle.core_turns.proofs.attach.Goes.{attach_bank, attach_goes, attach_there}
use Rattle.core_turns.proofs.open_core.Core.attach_step.Goals as goal

pub returns-clause-goes_on : goal.returns-clause-goes_on
returns-clause-goes_on g c = attach_goes _ _ c.args.run.now
    (turn_with c.take_attach_turn.new.run c.take_attach_turn.result) c.take_attach_turn.ensures.is
    (g.met.B.Bank.lawful c.args.bank.now) c.requires.of c.take_attach_turn.ensures.steps

pub returns-clause-out : goal.returns-clause-out
returns-clause-out g c = (returns-clause-goes_on g c).out

pub returns-clause-bank : goal.returns-clause-bank
returns-clause-bank g c = attach_bank _ _ (returns-clause-goes_on g c) c.requires.bank
    (attach_there _ _ c.args.run.now (turn_with c.take_attach_turn.new.run c.take_attach_turn.result)
    c.requires.of c.requires.there c.take_attach_turn.ensures.steps)
