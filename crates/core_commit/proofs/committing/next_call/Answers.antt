use Rattle.std.proofs.Common.{sym, ◌∙◌}
use Rattle.core_commit.proofs.Running.{none_left}
use Rattle.core_commit.proofs.committing.next_call.Goals as goal

pub returns-clause-none : goal.returns-clause-none
returns-clause-none c none few = none_left c.args.out c.args.calls.now (sym c.next.ensures.value ∙ none)
