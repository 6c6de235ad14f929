use Rattle.std.proofs.Common.{◌+◌, List, take, refl, sym, subst}
use Rattle.std.specs.Prelude.{Option}
use Rattle.std.proofs.lemmas.List.{take_all}
use Rattle.range_locks.specs.declared.hold.Hold.{Hold}
use Rattle.range_locks.specs.Holds.{IsFirst}
use Rattle.range_locks.proofs.Searching.{not_false, first_passes_at, first_takes_at}
use Rattle.range_locks.proofs.find.blocker.Goals as goal
use Rattle.range_locks.proofs.find.blocker.Goals.{then-blocks, else-blocks}

pub loop-hold-preserved : goal.loop-hold-preserved
loop-hold-preserved c = elim c.if-blocks.branch [
  | then-blocks w ↦ subst (λ (first : Option Hold). IsFirst (take (c.loop-hold.hold-index + 1) c.args.holds.now) c.args.lo c.args.hi c.args.kind first)
      (sym w.first-is)
      (first_takes_at _ _ _ _ _ _ _ _ c.loop-hold-test.true c.loop-hold.invariant (w.if-blocks.ensures.value.0 refl) w.earlier.ensures)
  | else-blocks w ↦ subst (λ (first : Option Hold). IsFirst (take (c.loop-hold.hold-index + 1) c.args.holds.now) c.args.lo c.args.hi c.args.kind first)
      (sym w.first-is)
      (first_passes_at _ _ _ _ _ _ _ c.loop-hold-test.true c.loop-hold.invariant (λ blocks. not_false (w.if-blocks.ensures.value.1 blocks)))
]

pub returns : goal.returns
returns c =
    subst (λ (seen : List Hold). IsFirst seen c.args.lo c.args.hi c.args.kind c.loop-hold.first)
    (take_all _ _ c.loop-hold-test.false) c.loop-hold.invariant
