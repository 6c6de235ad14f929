use Rattle.std.proofs.Common.{Bool, sym, subst}
use Rattle.std.specs.Prelude.{◌↔◌, IsTrue}
use Rattle.attach_ring.specs.Ring.{IsTakenSlot}
use Rattle.attach_ring.proofs.Told.{taken_by}
use Rattle.attach_ring.proofs.taken.is_taken.Goals as goal

pub returns : goal.returns
returns c = subst (λ (found : Bool). IsTrue found ↔ IsTakenSlot c.args.slot c.args.bytes.now) (sym c.is_some.ensures)
    (taken_by c.args.bytes.now c.args.slot c.uber_in_slot.result c.uber_in_slot.ensures.number c.uber_in_slot.ensures.some
    c.uber_in_slot.ensures.none)
