use Rattle.std.proofs.Common.{rules}
use Rattle.mark_choice.proofs.Clear.{choice_clear}
use Rattle.mark_choice.proofs.choosing.choose.Goals as goal

pub returns-in-Moved-clause-choice : goal.returns-in-Moved-clause-choice
returns-in-Moved-clause-choice c = search rules

pub returns-in-Moved-clause-clear : goal.returns-in-Moved-clause-clear
returns-in-Moved-clause-clear c =
    choice_clear c.args.reflow.now c.args.done c.args.locks.now c.moved_to.result (returns-in-Moved-clause-choice c)
