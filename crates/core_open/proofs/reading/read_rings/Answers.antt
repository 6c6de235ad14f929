use Rattle.std.proofs.Common.{◌≤◌, ◌<◌, ◌+◌, sym, subst, arith}
use Rattle.std.proofs.lemmas.List.Sorted.{All-permutation}
use Rattle.uberblock_ring.specs.Valid.{IsRightUber}
use Rattle.core_state.specs.Shown.{Shape, read_devices}
use Rattle.core_open.specs.declared.ring_uber.RingUber.{RingUber}
use Rattle.core_open.specs.RingUbers.{AreShown, AreTaken}
use Rattle.core_open.specs.Holds.{shape_of}
use Rattle.core_open.proofs.Failures.{failed_more}
use Rattle.core_open.proofs.ReadTo.{right_wider, shown_sorted}
use Rattle.core_open.proofs.Taken.{taken_within}
use Rattle.core_open.proofs.Unchanged.{holds_then, shape_then, unchanged_then}
use Rattle.core_open.proofs.reading.read_rings.Goals as goal

pub loop-device-preserved : goal.loop-device-preserved
loop-device-preserved g c =
    let old = g.B.Bank.disk c.args.bank.now in
    let mid = g.B.Bank.disk c.loop-device.bank in
    let device = c.loop-device.device in
    let so_far = c.loop-device.invariant in
    let ring = c.in_ok-read_ring.ensures in
    let low : device < read_devices (shape_of old) = omega arith in
    let ubers = c.read_ring.new.rings.ubers.items in
    record {
      unchanged = unchanged_then so_far.unchanged ring.unchanged;
      silent = failed_more old mid (g.B.Bank.disk c.read_ring.new.bank) c.loop-device.rings.silent c.read_ring.new.rings.silent
          device so_far.silent so_far.unchanged ring.unchanged low ring.silent;
      right = ring.right;
      order = ring.order;
      shown = λ image holds.
          subst (λ (shape : Shape). AreShown shape c.read_ring.new.rings.silent image (device + 1) ubers) (shape_then so_far.unchanged)
          (ring.shown image (holds_then so_far.unchanged holds)
          (subst (λ (shape : Shape). AreShown shape c.loop-device.rings.silent image device c.loop-device.rings.ubers.items)
          (sym (shape_then so_far.unchanged)) (so_far.shown image holds)));
      taken = λ image holds.
          subst (λ (shape : Shape). AreTaken shape c.read_ring.new.rings.silent image (device + 1) c.read_ring.new.rings.taken)
          (shape_then so_far.unchanged)
          (ring.taken image (holds_then so_far.unchanged holds)
          (subst (λ (shape : Shape). AreTaken shape c.loop-device.rings.silent image device c.loop-device.rings.taken)
          (sym (shape_then so_far.unchanged)) (so_far.taken image holds)));
    }

pub returns-clause-right : goal.returns-clause-right
returns-clause-right g c =
    let devices = read_devices (shape_of (g.B.Bank.disk c.args.bank.now)) in
    let below : c.loop-device.device ≤ devices = omega arith in
    All-permutation (λ (ring_uber : RingUber). (ring_uber.device < devices) × IsRightUber ring_uber.uber)
    c.loop-device.rings.ubers.items c.sort_by_group.new.ubers.items c.in_ok-sort_by_group.ensures.same
    (right_wider c.loop-device.device devices c.loop-device.rings.ubers.items below c.loop-device.invariant.right)

pub returns-clause-shown : goal.returns-clause-shown
returns-clause-shown g c = λ image holds.
    let shape = shape_of (g.B.Bank.disk c.args.bank.now) in
    let whole : read_devices shape ≤ c.loop-device.device = omega arith in
    shown_sorted shape c.loop-device.rings.silent image c.loop-device.device
    c.loop-device.rings.ubers.items c.sort_by_group.new.ubers.items c.in_ok-sort_by_group.ensures.same whole
    (c.loop-device.invariant.shown image holds)

pub returns-clause-taken : goal.returns-clause-taken
returns-clause-taken g c = λ image holds.
    let shape = shape_of (g.B.Bank.disk c.args.bank.now) in
    let whole : read_devices shape ≤ c.loop-device.device = omega arith in
    let silent = c.loop-device.rings.silent in
    taken_within shape silent silent image c.loop-device.device (read_devices shape) c.loop-device.rings.taken (λ device has. has)
    whole (c.loop-device.invariant.taken image holds)
