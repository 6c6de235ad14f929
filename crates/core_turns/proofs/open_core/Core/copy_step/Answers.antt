use Rattle.core_turns.proofs.Words.{turn_with}
use Rattle.core_turns.proofs.sync.Goes.{turn_bank}
use Rattle.core_turns.proofs.copy.Rounds.{copy_goes}
use Rattle.core_turns.proofs.open_core.Core.copy_step.Goals as goal

pub returns-clause-goes_on : goal.returns-clause-goes_on
returns-clause-goes_on g c = copy_goes _ _ c.args.round.now
    (turn_with c.take_copy_turn.new.round c.take_copy_turn.result) c.take_copy_turn.ensures.is
    (g.met.B.Bank.lawful c.args.bank.now) c.requires.of c.take_copy_turn.ensures.steps

pub returns-clause-bank : goal.returns-clause-bank
returns-clause-bank g c = turn_bank _ _ (returns-clause-goes_on g c) c.requires.bank
