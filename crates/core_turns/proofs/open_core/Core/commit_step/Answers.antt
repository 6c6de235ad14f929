use Rattle.core_turns.proofs.Words.{turn_with}
use Rattle.core_turns.proofs.sync.Goes.{commit_goes, turn_bank}
use Rattle.core_turns.proofs.open_core.Core.commit_step.Goals as goal

pub returns-clause-goes_on : goal.returns-clause-goes_on
returns-clause-goes_on g c = commit_goes _ _ c.args.run.now
    (turn_with c.make_commit_call.new.run c.make_commit_call.result)
    c.make_commit_call.ensures.is (g.met.B.Bank.lawful c.args.bank.now) c.requires.of c.make_commit_call.ensures.steps

pub returns-clause-out : goal.returns-clause-out
returns-clause-out g c = (returns-clause-goes_on g c).out

pub returns-clause-bank : goal.returns-clause-bank
returns-clause-bank g c = turn_bank _ _ (returns-clause-goes_on g c) c.requires.bank
