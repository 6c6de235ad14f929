use Rattle.std.proofs.Common.{Option, Some, None}
use Rattle.std.specs.Prelude.{IfNone}
use Rattle.attach_ring.specs.Ring.{IsTakenSlot}
use Rattle.attach_ring.specs.declared.taken.SlotUber.{SlotUber}
use Rattle.attach_ring.proofs.Told.{free_by}
use Rattle.attach_ring.proofs.taken.uber_in_slot.Goals as goal

pub returns-in_err-uber-clause-none : goal.returns-in_err-uber-clause-none
returns-in_err-uber-clause-none c = by c.from_residual.result (free_by c.args.bytes.now c.args.slot c.u32_at-number.result
    c.u32_at-number.type_inv c.u32_at-number.ensures c.in_err-uber.ensures.none)
  where
    by : (result : Option SlotUber) → (IsTakenSlot c.args.slot c.args.bytes.now → ⊥)
        → IfNone result (IsTakenSlot c.args.slot c.args.bytes.now → ⊥)
    by (Some slot_uber) free = tt
    by None free = free
