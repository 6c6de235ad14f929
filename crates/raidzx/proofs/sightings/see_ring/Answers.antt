use Rattle.std.proofs.Common.{ℕ, refl, ◌∙◌, ap, arith}
use Rattle.uberblock_ring.specs.Devices.{with_device}
use Rattle.core_open.proofs.Unchanged.{unchanged_none, unchanged_then}
use Rattle.raidzx.proofs.Slots.{read_before, unread_before}
use Rattle.raidzx.proofs.Seeing.{sees_more, sees_none, sees_part, sees_ring}
use Rattle.raidzx.proofs.sightings.see_ring.Goals as goal

pub loop-slot-init : goal.loop-slot-init
loop-slot-init g c = record {
  unchanged = unchanged_none (g.B.Bank.disk c.args.bank.now);
  unread = refl;
  sees = sees_none (g.B.Bank.disk c.args.bank.now) c.args.place c.args.sightings.now.list.items;
}

pub loop-slot-preserved : goal.loop-slot-preserved
loop-slot-preserved g c =
    let old = g.B.Bank.disk c.args.bank.now in
    let place = c.args.place in
    let slot = c.loop-slot.slot in
    let so_far = c.loop-slot.invariant in
    let read = c.in-Some.ensures in
    record {
      unchanged = unchanged_then so_far.unchanged read.unchanged;
      unread = so_far.unread;
      sees = sees_more old place slot c.in-Some.bytes
          (read_before old _ so_far.unchanged place slot c.in-Some.bytes read.bytes)
          (omega (arith, c.requires.device), c.requires.looked_at) (omega arith)
          (omega (arith, read.on_device, so_far.unchanged.goes_on.later.sectors)) c.args.sightings.now.list.items
          c.loop-slot.sightings.list.items c.note_slot.new.list.items so_far.sees c.in_ok-note_slot.ensures;
    }

pub returns-in_default-clause-seen : goal.returns-in_default-clause-seen
returns-in_default-clause-seen g c =
    let old = g.B.Bank.disk c.args.bank.now in
    let mid = g.B.Bank.disk c.loop-slot.bank in
    let so_far = c.loop-slot.invariant in
    sees_part old (g.B.Bank.disk c.read_slot.new.bank) c.args.place c.loop-slot.slot c.args.sightings.now
    (record { list = c.loop-slot.sightings.list; unread = c.insert.new.self }) (omega arith)
    (c.insert.ensures.value ∙ ap (λ (set : ℕ). with_device set c.args.place) so_far.unread)
    so_far.sees (unread_before old mid so_far.unchanged (g.B.Bank.disk c.read_slot.new.bank) c.args.place
    c.loop-slot.slot c.in_default.ensures.none)

pub returns-clause-seen : goal.returns-clause-seen
returns-clause-seen g c =
    sees_ring (g.B.Bank.disk c.args.bank.now) (g.B.Bank.disk c.loop-slot.bank) c.args.place c.loop-slot.slot
    c.args.sightings.now c.loop-slot.sightings (omega arith) c.loop-slot.invariant.unread c.loop-slot.invariant.sees
