use Rattle.core_turns.proofs.Words.{Done}
use Rattle.core_turns.proofs.read.Laws.{get_tells}
use Rattle.core_turns.proofs.open_core.Core.get_end.Goals as goal

pub returns-clause-tells : goal.returns-clause-tells
returns-clause-tells c = λ content disk holds. get_tells content _ _ disk c.args.run.now
    (Done c.release_and_tell.result) c.requires.kind holds c.release_and_tell.ensures
