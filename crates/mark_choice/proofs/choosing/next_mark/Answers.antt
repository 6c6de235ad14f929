use Rattle.std.proofs.Common.{rules}
use Rattle.mark_choice.proofs.Clear.{next_mark_clear}
use Rattle.mark_choice.proofs.choosing.next_mark.Goals as goal

pub returns-in-Some-clause-value : goal.returns-in-Some-clause-value
returns-in-Some-clause-value c = search rules

pub returns-in-None-clause-value : goal.returns-in-None-clause-value
returns-in-None-clause-value c = search rules

pub returns-in-Some-clause-clear : goal.returns-in-Some-clause-clear
returns-in-Some-clause-clear c =
    next_mark_clear c.args.locks.now c.args.mark c.args.done c.min.result (returns-in-Some-clause-value c)

pub returns-in-None-clause-clear : goal.returns-in-None-clause-clear
returns-in-None-clause-clear c =
    next_mark_clear c.args.locks.now c.args.mark c.args.done c.args.done (returns-in-None-clause-value c)
