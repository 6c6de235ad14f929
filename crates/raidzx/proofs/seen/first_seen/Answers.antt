use Rattle.std.proofs.Common.{ℕ, Option, Some, None, arith, inr, below_more}
use Rattle.std.specs.Prelude.{IfNone}
use Rattle.core_open.proofs.Unchanged.{unchanged_then}
use Rattle.raidzx.specs.declared.seen.Seen.{Seen}
use Rattle.raidzx.specs.Rings.{SlotShowsNone}
use Rattle.raidzx.proofs.Slots.{none_told, read_before, shows_told, stopped_before}
use Rattle.raidzx.proofs.seen.first_seen.Goals as goal

if_none : (result : Option Seen) (P : Type 0) → P → IfNone result P
if_none (Some seen) P holds = tt
if_none None P holds = holds

pub loop-slot-preserved : goal.loop-slot-preserved
loop-slot-preserved g c =
    let old = g.B.Bank.disk c.args.bank.now in
    let so_far = c.loop-slot.invariant in
    let device = c.args.device in
    let slot = c.loop-slot.slot in
    let read = c.in_ok-bytes.ensures in
    record {
      unchanged = unchanged_then so_far.unchanged read.unchanged;
      none = below_more (λ (earlier : ℕ). SlotShowsNone old device c.args.first c.args.end earlier) slot so_far.none
          (none_told old device slot c.args.first c.args.end c.in_ok-bytes.bytes
          (read_before old _ so_far.unchanged device slot c.in_ok-bytes.bytes read.bytes) c.in_default.ensures.none);
    }

pub returns-in_err-bytes-clause-none : goal.returns-in_err-bytes-clause-none
returns-in_err-bytes-clause-none g c = if_none c.from_residual.result _
    (stopped_before (g.B.Bank.disk c.args.bank.now) _ c.loop-slot.invariant.unchanged
    (g.B.Bank.disk c.read_slot.new.bank) c.args.device c.loop-slot.slot c.args.first c.args.end c.loop-slot.invariant.none c.in_err-bytes.ensures.none)

pub returns-in-Some-clause-some : goal.returns-in-Some-clause-some
returns-in-Some-clause-some g c =
    let old = g.B.Bank.disk c.args.bank.now in
    let so_far = c.loop-slot.invariant in
    let device = c.args.device in
    let slot = c.loop-slot.slot in
    let read = c.in_ok-bytes.ensures in
    record {
      slot = slot;
      in_ring = omega arith;
      on_device = omega (arith, read.on_device, so_far.unchanged.goes_on.later.sectors);
      shows = shows_told old device slot c.args.first c.args.end c.in_ok-bytes.bytes c.in-Some.seen
          (read_before old _ so_far.unchanged device slot c.in_ok-bytes.bytes read.bytes) c.in-Some.ensures.some;
      before = so_far.none;
    }

pub returns-clause-none : goal.returns-clause-none
returns-clause-none g c = inr (λ slot in_ring on_device. c.loop-slot.invariant.none slot (omega arith))
