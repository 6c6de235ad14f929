use Rattle.std.proofs.Common.{ℕ, ◌+◌, ◌<◌, ◌≤◌, List, Option, None, Some, sym, ◌∙◌, ap, subst, arith}
use Rattle.std.specs.Prelude.{IfSome, min}
use Rattle.bank_trait.specs.Disk.{Image}
use Rattle.uberblock_ring.specs.Devices.{with_device}
use Rattle.uberblock_ring.specs.Valid.{IsRightUber}
use Rattle.attach_ring.specs.declared.taken.SlotUber.{SlotUber}
use Rattle.core_state.specs.Shown.{Shape, read_devices}
use Rattle.core_open.specs.declared.reading.Rings.{Rings}
use Rattle.core_open.specs.declared.ring_uber.RingUber.{RingUber}
use Rattle.core_open.specs.RingUbers.{AreShown, AreTaken, HasSlotUber}
use Rattle.core_open.specs.Holds.{HoldsImage, shape_of}
use Rattle.core_open.proofs.ReadTo.{IsReading, read_fails, reading_past}
use Rattle.core_open.proofs.Taken.{IsTakenTo, reading_noted, shows_nothing, taken_ends, taken_fails, taken_past}
use Rattle.core_open.proofs.Taken.{taking_noted}
use Rattle.core_open.proofs.Unchanged.{holds_then, shape_then}
use Rattle.core_open.proofs.reading.read_ring.Goals as goal
use Rattle.core_open.proofs.reading.read_ring.Goals.{in-Some+in_ok-note, in_default-found}

pub returns-in_default-clause-shown : goal.returns-in_default-clause-shown
returns-in_default-clause-shown g c = λ image holds shown.
    subst (λ (silent : ℕ). AreShown (shape_of (g.B.Bank.disk c.args.bank.now)) silent image (c.args.device + 1) c.loop-slot.rings.ubers.items)
    (ap (λ (silent : ℕ). with_device silent c.args.device) (sym c.loop-slot.invariant.same) ∙ sym c.insert.ensures.value)
    (read_fails _ _ image c.args.device c.loop-slot.slot _ (c.loop-slot.invariant.reading.shown image holds shown))

pub returns-in_default-clause-taken : goal.returns-in_default-clause-taken
returns-in_default-clause-taken g c = λ image holds shown.
    subst (λ (silent : ℕ). AreTaken (shape_of (g.B.Bank.disk c.args.bank.now)) silent image (c.args.device + 1) c.loop-slot.rings.taken)
    (ap (λ (silent : ℕ). with_device silent c.args.device) (sym c.loop-slot.invariant.same) ∙ sym c.insert.ensures.value)
    (taken_fails _ c.args.rings.now.silent image c.args.device c.loop-slot.slot _ (c.loop-slot.invariant.taking image holds shown))

pub returns-clause-taken : goal.returns-clause-taken
returns-clause-taken g c = λ image holds shown.
    let shape = shape_of (g.B.Bank.disk c.args.bank.now) in
    let whole : min shape.sectors 32 ≤ c.loop-slot.slot = omega arith in
    subst (λ (silent : ℕ). AreTaken shape silent image (c.args.device + 1) c.loop-slot.rings.taken) (sym c.loop-slot.invariant.same)
    (taken_ends shape c.args.rings.now.silent image c.args.device c.loop-slot.slot c.loop-slot.rings.taken whole
    (c.loop-slot.invariant.taking image holds shown))

pub loop-slot-preserved : goal.loop-slot-preserved
loop-slot-preserved g c =
    let device = c.args.device in
    let slot = c.loop-slot.slot in
    let silent = c.args.rings.now.silent in
    let old = g.B.Bank.disk c.args.bank.now in
    let mid = g.B.Bank.disk c.loop-slot.bank in
    let new = g.B.Bank.disk c.read_slot.new.bank in
    let before = c.args.rings.now.ubers.items in
    let ubers = c.loop-slot.rings.ubers.items in
    let so_far = c.loop-slot.invariant in
    let same = c.in-Ok.ensures.unchanged in
    elim c.match-found.branch [
      | in-Some+in_ok-note w ↦
          let shape_is = shape_then so_far.reading.unchanged in
          let low : device < read_devices (shape_of mid) =
          subst (λ (s : Shape). device < read_devices s) (sym shape_is) c.requires.device in
          let slot_in : slot < 32 = omega arith in
          let sector_in : slot < mid.sectors = omega (arith, so_far.reading.unchanged.goes_on.later.sectors) in
          let has : (image : Image) → HoldsImage mid image → HasSlotUber image device slot (Some w.in-Some.ring_uber) =
          subst (λ (found : Option SlotUber). (image : Image) → HoldsImage mid image → HasSlotUber image device slot found)
          w.in-Some.is c.in-Ok.ensures.has in
          record {
            reading =
                subst (λ (after : List RingUber). IsReading device (slot + 1) silent old new before after)
                (sym (ap (λ (r : Rings). r.ubers.items) w.rings-is))
                (reading_noted device slot silent old mid new before ubers so_far.reading same low sector_in w.in-Some.ring_uber has
                (subst (λ (found : Option SlotUber). IfSome found (λ ring_uber. IsRightUber ring_uber.uber)) w.in-Some.is c.in-Ok.ensures.right)
                w.note.new.rings.ubers.items w.in_ok-note.ensures.listed);
            taking = λ image holds shown. subst (λ (taken : ℕ). IsTakenTo (shape_of old) silent image device (slot + 1) taken)
                (sym (ap (λ (r : Rings). r.taken) w.rings-is ∙ w.in_ok-note.ensures.taken))
                (taking_noted device slot silent old mid new before ubers so_far.reading same low sector_in w.in-Some.ring_uber has
                slot_in c.loop-slot.rings.taken image holds (so_far.taking image holds shown));
            same = ap (λ (r : Rings). r.silent) w.rings-is ∙ w.in_ok-note.ensures.silent ∙ so_far.same;
          }
      | in_default-found w ↦
          let free : (image : Image) → HoldsImage mid image → HasSlotUber image device slot None =
          subst (λ (found : Option SlotUber). (image : Image) → HoldsImage mid image → HasSlotUber image device slot found)
          w.in_default-found.is c.in-Ok.ensures.has in
          record {
            reading =
                subst (λ (ubers : List RingUber). IsReading device (slot + 1) silent old new before ubers)
                (sym (ap (λ (r : Rings). r.ubers.items) w.rings-is))
                (reading_past device slot silent old mid new before ubers so_far.reading same
                (λ image holds. shows_nothing (shape_of mid) image device slot (free image holds)));
            taking = λ image holds shown. subst (λ (taken : ℕ). IsTakenTo (shape_of old) silent image device (slot + 1) taken)
                (sym (ap (λ (r : Rings). r.taken) w.rings-is))
                (taken_past (shape_of old) silent image device slot c.loop-slot.rings.taken (so_far.taking image holds shown)
                (free image (holds_then so_far.reading.unchanged holds)));
            same = ap (λ (r : Rings). r.silent) w.rings-is ∙ so_far.same;
          }
    ]
