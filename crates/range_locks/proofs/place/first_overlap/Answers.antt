use Rattle.std.proofs.Common.{List, None, subst, arith}
use Rattle.std.proofs.lemmas.List.{take_all}
use Rattle.range_locks.specs.declared.hold.Hold.{Hold}
use Rattle.range_locks.specs.declared.hold.HoldKind.TheVariants.{Exclusive}
use Rattle.range_locks.specs.Holds.{IsClear}
use Rattle.range_locks.proofs.Ordered.{overlap_here}
use Rattle.range_locks.proofs.Searching.{not_false, first_passes_at}
use Rattle.range_locks.proofs.place.first_overlap.Goals as goal

pub returns-then-blocks-clause-first : goal.returns-then-blocks-clause-first
returns-then-blocks-clause-first g c =
    overlap_here _ _ _ _ _ c.requires.order c.loop-hold-test.true c.loop-hold.invariant.clear (c.blocks-in-loop-hold.ensures.value.0 c.if-blocks.true)

pub loop-hold-preserved : goal.loop-hold-preserved
loop-hold-preserved g c = record {
  clear = first_passes_at _ _ _ _ None _ _ c.loop-hold-test.true c.loop-hold.invariant.clear
      (λ blocks. not_false (c.if-blocks.ensures.value.1 blocks));
  steps = omega (arith, c.tick.ensures, c.loop-hold.invariant.steps);
}

pub returns-clause-first : goal.returns-clause-first
returns-clause-first g c =
    subst (λ (seen : List Hold). IsClear seen c.args.lo c.args.hi Exclusive) (take_all _ _ c.loop-hold-test.false) c.loop-hold.invariant.clear
