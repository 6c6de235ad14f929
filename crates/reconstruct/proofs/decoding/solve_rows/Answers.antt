use Rattle.std.proofs.Common.{◌∙◌, arith}
use Rattle.row_layout.specs.Layout.{columns_of}
use Rattle.reconstruct.proofs.SolvedRows.{one_more_solved, behind_more}
use Rattle.reconstruct.proofs.decoding.solve_rows.Goals as goal

pub loop-row-preserved : goal.loop-row-preserved
loop-row-preserved c = record {
  solved =
      one_more_solved c.args.layout.now c.args.lost.now c.loop-row.row c.args.columns.now c.loop-row.columns c.solve_row_among.new.columns (omega arith) (omega arith)
      c.loop-row.invariant.solved c.loop-row.invariant.later c.solve_row_among.ensures.before c.solve_row_among.ensures.here;
  later = λ place high.
      c.solve_row_among.ensures.behind place (behind_more (columns_of c.args.layout.now) c.loop-row.row place high)
      ∙ c.loop-row.invariant.later place (omega (arith, behind_more (columns_of c.args.layout.now) c.loop-row.row place high));
}
