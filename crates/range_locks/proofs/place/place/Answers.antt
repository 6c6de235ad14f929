use Rattle.std.proofs.Common.{length, refl, sym, subst, arith}
use Rattle.range_locks.specs.Order.{LeavesDigits}
use Rattle.range_locks.proofs.Halving.{between_up, between_down, digits_up, digits_down}
use Rattle.range_locks.proofs.Searching.{not_false}
use Rattle.range_locks.proofs.place.place.Goals as goal

pub loop-low-preserved-then-passes : goal.loop-low-preserved-then-passes
loop-low-preserved-then-passes g c = record {
  between = between_up _ _ _ _ _ _ c.requires.order c.loop-low.invariant.between (omega arith) (omega arith) (c.passes.ensures.0 c.if-passes.true);
  steps = subst (LeavesDigits (length c.args.holds.now) _ _ _) (sym c.tick.ensures)
      (digits_up _ _ _ _ _ _ c.loop-low.invariant.steps c.loop-low-test.true refl);
}

pub loop-low-preserved : goal.loop-low-preserved
loop-low-preserved g c = record {
  between = between_down _ _ _ _ _ _ c.requires.order c.loop-low.invariant.between (omega arith) (omega arith)
      (λ passed. not_false (c.if-passes.ensures.1 passed));
  steps = subst (LeavesDigits (length c.args.holds.now) _ _ _) (sym c.tick.ensures)
      (digits_down _ _ _ _ _ _ c.loop-low.invariant.steps c.loop-low-test.true refl);
}
