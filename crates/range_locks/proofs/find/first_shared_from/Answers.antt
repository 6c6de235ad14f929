use Rattle.std.proofs.Common.{ℕ, ◌+◌, List, take, refl, sym, subst}
use Rattle.std.specs.Prelude.{Option}
use Rattle.std.proofs.lemmas.List.{take_all}
use Rattle.range_locks.specs.declared.hold.Hold.{Hold}
use Rattle.range_locks.specs.Holds.{IsFirstSharedFrom}
use Rattle.range_locks.proofs.Searching.{not_false, shared_passes_at, shared_takes_at}
use Rattle.range_locks.proofs.find.first_shared_from.Goals as goal
use Rattle.range_locks.proofs.find.first_shared_from.Goals.{then-is_shared_from, else-is_shared_from}

pub loop-hold-preserved : goal.loop-hold-preserved
loop-hold-preserved c = elim c.if-is_shared_from.branch [
  | then-is_shared_from w ↦ subst (λ (first : Option ℕ). IsFirstSharedFrom (take (c.loop-hold.hold-index + 1) c.args.holds.now) c.args.from first)
      (sym w.first-is)
      (shared_takes_at _ _ _ _ _ _ c.loop-hold-test.true c.loop-hold.invariant (w.if-is_shared_from.ensures.value.0 refl) w.lesser.ensures)
  | else-is_shared_from w ↦ subst (λ (first : Option ℕ). IsFirstSharedFrom (take (c.loop-hold.hold-index + 1) c.args.holds.now) c.args.from first)
      (sym w.first-is)
      (shared_passes_at _ _ _ _ _ c.loop-hold-test.true c.loop-hold.invariant (λ shared. not_false (w.if-is_shared_from.ensures.value.1 shared)))
]

pub returns : goal.returns
returns c =
    subst (λ (seen : List Hold). IsFirstSharedFrom seen c.args.from c.loop-hold.first)
    (take_all _ _ c.loop-hold-test.false) c.loop-hold.invariant
