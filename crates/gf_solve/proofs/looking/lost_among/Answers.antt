use Rattle.std.proofs.Common.{◌∙◌, ◌+◌, ℕ, sym, ap, arith}
use Rattle.gf_solve.specs.Row.{is_masked}
use Rattle.gf_solve.proofs.Counting.{count_more_lost, count_more_there}
use Rattle.gf_solve.proofs.looking.lost_among.Goals as goal
use Rattle.gf_solve.proofs.looking.lost_among.Goals.{then-is_lost, else-is_lost}

pub loop-column-preserved : goal.loop-column-preserved
loop-column-preserved c =
    elim c.if-is_lost.branch [
      | then-is_lost w ↦ record {
        counted = w.count-is ∙ ap (λ (k : ℕ). k + 1) c.loop-column.invariant.counted
            ∙ count_more_lost (is_masked c.args.lost) c.loop-column.column (sym c.is_lost.ensures ∙ w.if-is_lost.true);
        few = omega arith;
      }
      | else-is_lost w ↦ record {
        counted = w.count-is ∙ c.loop-column.invariant.counted
            ∙ count_more_there (is_masked c.args.lost) c.loop-column.column (sym c.is_lost.ensures ∙ w.if-is_lost.false);
        few = omega arith;
      }
    ]
