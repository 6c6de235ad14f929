use Rattle.core_turns.proofs.Words.{None, Some, turn_with}
use Rattle.core_turns.proofs.sync.Goes.{turn_bank}
use Rattle.core_turns.proofs.scrub.Runs.{scrub_ended, scrub_goes_on, scrub_more}
use Rattle.core_turns.proofs.open_core.Core.scrub_step.Goals as goal

pub returns-in-None-clause-goes_on : goal.returns-in-None-clause-goes_on
returns-in-None-clause-goes_on g c = scrub_goes_on _ _ c.args.run.now (turn_with c.take_scrub_turn.new.run None)
    c.take_scrub_turn.ensures.is c.requires.of c.in-None.ensures.steps

pub returns-in-None-clause-of : goal.returns-in-None-clause-of
returns-in-None-clause-of g c = scrub_more _ _ c.args.run.now (turn_with c.take_scrub_turn.new.run None)
    c.requires.of c.in-None.ensures.steps

pub returns-in-None-clause-bank : goal.returns-in-None-clause-bank
returns-in-None-clause-bank g c = turn_bank _ _ (returns-in-None-clause-goes_on g c) c.requires.bank

pub returns-in-Some-clause-goes_on : goal.returns-in-Some-clause-goes_on
returns-in-Some-clause-goes_on g c =
    let goes = scrub_goes_on _ _ c.args.run.now (turn_with c.take_scrub_turn.new.run (Some c.in-Some.answer))
    c.take_scrub_turn.ensures.is c.requires.of c.in-Some.ensures.steps in
    scrub_ended _ _ _ (rw (← c.self.view_is) at goes)

pub returns-in-Some-clause-bank : goal.returns-in-Some-clause-bank
returns-in-Some-clause-bank g c = turn_bank _ _ (returns-in-Some-clause-goes_on g c) c.requires.bank
