use Rattle.std.proofs.Common.{◌≡◌, ◌∙◌, length, sym, arith}
use Rattle.reconstruct.proofs.SolvedRows.{all_replaced}
use Rattle.reconstruct.proofs.Solution.{left_solves, holds_solution, begins_solution}
use Rattle.reconstruct.proofs.decoding.decode.Goals as goal

pub returns-clause-serves : goal.returns-clause-serves
returns-clause-serves c = λ wanted all solution.
    let whole : length c.solve_rows.new.columns ≡ c.in_ok-columns.columns.len = omega arith in
    c.in_ok-content.ensures.back wanted solution.wide
    (holds_solution c.args.layout.now c.args.lost.now c.args.rows.now c.of-solved.result _ c.solve_rows.new.columns c.solve_rows.ensures.within.is c.requires.shape
    c.of-solved.ensures.shape (sym (c.deref_mut.ensures.value ∙ c.in_ok-columns.ensures.items ∙ c.columns.ensures.value))
    (c.of-solved.ensures.columns ∙ all_replaced c.in_ok-columns.columns.len c.solve_rows.new.columns c.in_ok-columns.columns.items whole)
    c.solve_rows.ensures.solved c.args.len wanted all solution)

pub returns-clause-solves : goal.returns-clause-solves
returns-clause-solves c =
    let whole : length c.solve_rows.new.columns ≡ c.in_ok-columns.columns.len = omega arith in
    begins_solution c.args.layout.now c.args.lost.now c.args.rows.now c.of-solved.result _ c.solve_rows.new.columns
    c.solve_rows.ensures.within.is c.requires.shape c.of-solved.ensures.shape
    (sym (c.deref_mut.ensures.value ∙ c.in_ok-columns.ensures.items ∙ c.columns.ensures.value))
    (c.of-solved.ensures.columns
    ∙ all_replaced c.in_ok-columns.columns.len c.solve_rows.new.columns c.in_ok-columns.columns.items whole)
    c.solve_rows.ensures.solved c.in_ok-content.ensures.full c.in_ok-content.field-0.items
    (omega (arith, c.requires.len, c.in_ok-content.ensures.len)) c.in_ok-content.ensures.value

pub returns-clause-back : goal.returns-clause-back
returns-clause-back c = λ wanted long all left.
    returns-clause-serves c wanted all (left_solves c.args.layout.now wanted c.args.lost.now c.args.rows.now c.args.len c.solve_rows.ensures.within.is long left)
