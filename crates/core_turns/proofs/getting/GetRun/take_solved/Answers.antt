use Rattle.core_turns.proofs.Words.{to_solve_of}
use Rattle.core_turns.proofs.read.Laws.{solved_alike}
use Rattle.core_turns.proofs.getting.GetRun.take_solved.Goals as goal

pub returns-clause-solves : goal.returns-clause-solves
returns-clause-solves c = λ _. record {
  rest = search;
  solved = solved_alike c.args.from.block (to_solve_of c.args.self.now) c.args.from.solved c.layout.ensures.is
      (rw (c.layout.ensures.value, c.columns.ensures.value) at (c.is_alike.ensures.0 c.if-not-is_alike.false))
      c.requires.solved;
}
