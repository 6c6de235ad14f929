use Rattle.std.proofs.Common.{List, subst}
use Rattle.range_locks.specs.declared.hold.Hold.{Hold}
use Rattle.range_locks.specs.declared.bound.Bound.TheVariants.{Before}
use Rattle.range_locks.specs.Order.{IsPlace}
use Rattle.range_locks.proofs.Kept.{ends_at_place}
use Rattle.range_locks.proofs.edit.take_out.Goals as goal

pub returns : goal.returns
returns c =
    let place : IsPlace c.args.holds.now.items (Before c.args.hold.now) c.position-at.result =
    subst (λ (holds : List Hold). IsPlace holds (Before c.args.hold.now) c.position-at.result) c.deref.ensures.value c.position-at.ensures in
    record { ends = ends_at_place _ _ _ _ c.requires.kind c.requires.order c.requires.listed place c.remove.ensures.items }
