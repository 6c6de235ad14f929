use Rattle.core_turns.proofs.read.Laws.{went_solves}
use Rattle.core_turns.proofs.read.Turns.{went_of}
use Rattle.core_turns.proofs.getting.GetRun.solve.Goals as goal

pub returns-clause-keeps : goal.returns-clause-keeps
returns-clause-keeps c = went_solves _ _ c.solve_columns_read.result c.solve_columns_read.ensures.ok

pub returns-clause-of : goal.returns-clause-of
returns-clause-of c = went_of c.solve_columns_read.result c.solve_columns_read.ensures.ok c.solve_columns_read.ensures.err
