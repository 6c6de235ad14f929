use Rattle.core_turns.proofs.Words.{turn_with}
use Rattle.core_turns.proofs.sync.Goes.{turn_bank}
use Rattle.core_turns.proofs.put.Goes.{put_goes_on, put_more}
use Rattle.core_turns.proofs.open_core.Core.put_write.Goals as goal

pub returns-clause-of : goal.returns-clause-of
returns-clause-of g c = put_more _ _ (turn_with c.make_next_write.new.run c.make_next_write.result) c.requires.of
    c.requires.under_way c.make_next_write.ensures.writes

pub returns-clause-goes_on : goal.returns-clause-goes_on
returns-clause-goes_on g c = put_goes_on (turn_with c.make_next_write.new.run c.make_next_write.result) c.make_next_write.ensures.is
    c.requires.of c.make_next_write.ensures.writes

pub returns-clause-bank : goal.returns-clause-bank
returns-clause-bank g c = turn_bank _ _ (returns-clause-goes_on g c) c.requires.bank

pub returns-clause-out : goal.returns-clause-out
returns-clause-out g c = (returns-clause-goes_on g c).out
