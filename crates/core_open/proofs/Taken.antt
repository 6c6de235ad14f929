-- Which devices show an uberblock, of whatever pool and for whatever number, as their rings are read.
use Rattle.std.proofs.Common.{◌≡◌, ◌≢◌, ◌⊎◌, inl, inr, ⊎_elim, ℕ, ◌+◌, ◌<◌, ◌≤◌, List, None, Some, true, false, sym}
use Rattle.std.proofs.Common.{◌∙◌, subst, arith}
use Rattle.std.specs.Prelude.{min}
use Rattle.std.proofs.lemmas.Bool.{cases_Bool, cases_eq, cases_lt, false≢true, true≢false}
use Rattle.bank_trait.specs.Disk.{Image, Disk, Unchanged}
use Rattle.uberblock_ring.specs.Devices.{has_device, IsWithin, with_device}
use Rattle.uberblock_ring.specs.Uberblock.{slot_of}
use Rattle.uberblock_ring.specs.Valid.{IsRightUber, IsValidIn}
use Rattle.uberblock_ring.proofs.DeviceSets.{has_with, none_in, others_with}
use Rattle.uberblock_ring.proofs.OneSpelling.{valid_tells}
use Rattle.attach_ring.specs.declared.taken.SlotUber.{SlotUber}
use Rattle.attach_ring.specs.Ring.{IsTakenSlot}
use Rattle.core_state.specs.Shown.{Shape, read_devices}
use Rattle.core_state.specs.Choosing.{IsTakenDevice}
use Rattle.core_open.specs.RingUbers.{AreTaken, HasSlotUber, IsListedFor, ShowsIn}
use Rattle.core_open.specs.declared.ring_uber.RingUber.{RingUber}
use Rattle.core_open.specs.Holds.{HoldsImage, shape_of}
use Rattle.core_open.proofs.ReadTo.{IsReading, reading_more, reading_past}
use Rattle.core_open.proofs.Unchanged.{holds_then, shape_then}

-- A slot that has no uberblock shows no uberblock of the device.
pub shows_nothing : (shape : Shape) (image : Image) (device slot : ℕ) → HasSlotUber image device slot None
    → ShowsIn shape image device slot None
shows_nothing shape image device slot free uber shows same =
    let low : device < 16 = omega (arith, shows.device_in) in
    free (record {
      uber = uber;
      number = device;
      fits = omega (arith, low);
      valid = subst (λ (at : ℕ). IsValidIn uber device at (image device at)) same shows.valid;
    })

module _ (shape : Shape) (image : Image) (device slot : ℕ) (device_in : device < read_devices shape)
    (sector_in : slot < shape.sectors) (ring_uber : SlotUber) (has : HasSlotUber image device slot (Some ring_uber)) where
  -- An uberblock for the device itself is one that it shows,
  pub shows_own : ring_uber.number ≡ device → ShowsIn shape image device slot (Some ring_uber.uber)
  shows_own own =
      let here : IsValidIn ring_uber.uber device slot (image device slot) =
      subst (λ (number : ℕ). IsValidIn ring_uber.uber number slot (image device slot)) own has.1 in
      let at : slot ≡ slot_of ring_uber.uber.group = here.slot_is in (
        record {
          device_in = device_in;
          slot_in = omega (arith, sector_in, at);
          valid = subst (λ (s : ℕ). IsValidIn ring_uber.uber device s (image device s)) at here;
        },
        sym at,
      )

  -- and beside one for another it shows none there.
  pub shows_no_other : ring_uber.number ≢ device → ShowsIn shape image device slot None
  shows_no_other other uber shows same =
      let low : device < 16 = omega (arith, shows.device_in) in
      other (valid_tells ring_uber.uber uber ring_uber.number device slot slot (image device slot) has.0
      (omega (arith, low)) has.1 (subst (λ (at : ℕ). IsValidIn uber device at (image device at)) same shows.valid)).1

  -- Either takes the device.
  pub takes : slot < 32 → IsTakenDevice shape image device
  takes slot_in = record {
    device_in = device_in;
    slot = slot;
    slot_in = slot_in;
    sector_in = sector_in;
    taken = record { uber = ring_uber.uber; number = ring_uber.number; fits = has.0; valid = has.1 };
  }

-- The rings of the devices below this one are read, and of this one the slots below this one.
pub record IsTakenTo (shape : Shape) (silent : ℕ) (image : Image) (device slot taken : ℕ) : Type 0 where
  pub each : (other : ℕ) → has_device taken other ≡ true → IsTakenDevice shape image other
  pub every : (other : ℕ) (shows : IsTakenDevice shape image other)
      → (other < device) ⊎ ((other ≡ device) × (shows.slot < slot)) → has_device silent other ≡ false
      → has_device taken other ≡ true

-- No device was read yet.
pub taken_none : (shape : Shape) (image : Image) → AreTaken shape 0 image 0 0
taken_none shape image = record {
  each = λ device has. absurd (true≢false (sym has ∙ none_in device));
  every = λ device low. absurd (omega (arith, low));
}

module _ (shape : Shape) (silent : ℕ) (image : Image) (device : ℕ) where
  -- No slot of the next one was,
  pub taken_begins : (taken : ℕ) → AreTaken shape silent image device taken
      → IsTakenTo shape silent image device 0 taken
  taken_begins taken shown = record {
    each = shown.each;
    every = λ other shows there works. ⊎_elim
        (λ (low : other < device). shown.every other low works shows)
        (λ (here : (other ≡ device) × (shows.slot < 0)). absurd (omega (arith, here.1)))
        there;
  }

  -- a slot that shows none,
  pub taken_past : (slot taken : ℕ) → IsTakenTo shape silent image device slot taken
      → HasSlotUber image device slot None
      → IsTakenTo shape silent image device (slot + 1) taken
  taken_past slot taken so_far free = record {
    each = so_far.each;
    every = λ other shows there works. ⊎_elim
        (λ (low : other < device). so_far.every other shows (inl low) works)
        (λ (here : (other ≡ device) × (shows.slot < slot + 1)). ⊎_elim
        (λ (before : shows.slot < slot). so_far.every other shows (inr (here.0, before)) works)
        (λ (above : slot ≤ shows.slot).
        let same : shows.slot ≡ slot = omega (arith, above, here.1) in
        absurd (free (subst (λ (s : ℕ). IsTakenSlot s (image device s)) same
        (subst (λ (d : ℕ). IsTakenSlot shows.slot (image d shows.slot)) here.0 shows.taken))))
        (cases_lt shows.slot slot))
        there;
  }

  -- and one that shows one.
  pub taken_more : (slot taken : ℕ) → IsTakenTo shape silent image device slot taken
      → IsTakenDevice shape image device
      → IsTakenTo shape silent image device (slot + 1) (with_device taken device)
  taken_more slot taken so_far takes_it = record {
    each = λ other has. ⊎_elim
        (λ (same : other ≡ device). subst (IsTakenDevice shape image) (sym same) takes_it)
        (λ (apart : other ≢ device). so_far.each other (sym (others_with taken device other apart) ∙ has))
        (cases_eq other device);
    every = λ other shows there works. ⊎_elim
        (λ (same : other ≡ device). subst (λ (d : ℕ). has_device (with_device taken device) d ≡ true) (sym same)
        (has_with taken device))
        (λ (apart : other ≢ device). others_with taken device other apart ∙ ⊎_elim
        (λ (low : other < device). so_far.every other shows (inl low) works)
        (λ (here : (other ≡ device) × (shows.slot < slot + 1)). absurd (apart here.0))
        there)
        (cases_eq other device);
  }

  -- All slots of the device were read,
  pub taken_ends : (slot taken : ℕ) → min shape.sectors 32 ≤ slot
      → IsTakenTo shape silent image device slot taken
      → AreTaken shape silent image (device + 1) taken
  taken_ends slot taken whole so_far = record {
    each = so_far.each;
    every = λ other low works shows. so_far.every other shows
        (⊎_elim
        (λ (before : other < device). inl before)
        (λ (above : device ≤ other).
        inr (omega (arith, low, above), omega (arith, whole, shows.slot_in, shows.sector_in)))
        (cases_lt other device))
        works;
  }

  -- or it is silent from here on.
  pub taken_fails : (slot taken : ℕ) → IsTakenTo shape silent image device slot taken
      → AreTaken shape (with_device silent device) image (device + 1) taken
  taken_fails slot taken so_far = record {
    each = so_far.each;
    every = λ other low works shows.
        let apart : other ≢ device = λ same. false≢true
        (sym works ∙ subst (λ d. has_device (with_device silent device) d ≡ true) (sym same)
        (has_with silent device)) in
        so_far.every other shows (inl (omega (arith, low, apart)))
        (sym (others_with silent device other apart) ∙ works);
  }

-- It is so with fewer devices that are read, and with more that are silent.
pub taken_within : (shape : Shape) (before after : ℕ) (image : Image) (devices fewer taken : ℕ)
    → IsWithin before after → fewer ≤ devices → AreTaken shape before image devices taken
    → AreTaken shape after image fewer taken
taken_within shape before after image devices fewer taken within less shown = record {
  each = shown.each;
  every = λ device low works shows. shown.every device (omega (arith, low, less)) (⊎_elim
      (λ quiet. absurd (false≢true (sym works ∙ within device quiet)))
      (λ answers. answers)
      (cases_Bool (has_device before device))) shows;
}

-- A slot was read that has an uberblock, for whichever device.
module _ (device slot silent : ℕ) (old mid new : Disk) (before ubers : List RingUber)
    (so_far : IsReading device slot silent old mid before ubers) (same : Unchanged mid new)
    (device_in : device < read_devices (shape_of mid)) (sector_in : slot < mid.sectors) (ring_uber : SlotUber)
    (has : (image : Image) → HoldsImage mid image → HasSlotUber image device slot (Some ring_uber)) where
  -- It is listed where it is for the device itself,
  pub reading_noted : IsRightUber ring_uber.uber → (after : List RingUber) → IsListedFor device ring_uber ubers after
      → IsReading device (slot + 1) silent old new before after
  reading_noted right after listed = ⊎_elim
      (λ own. subst (IsReading device (slot + 1) silent old new before) (sym own.1)
      (reading_more device slot silent old mid new before ubers so_far same ring_uber.uber right
      (λ image holds. shows_own (shape_of mid) image device slot device_in sector_in ring_uber (has image holds) own.0)))
      (λ other. subst (IsReading device (slot + 1) silent old new before) (sym other.1)
      (reading_past device slot silent old mid new before ubers so_far same
      (λ image holds. shows_no_other (shape_of mid) image device slot device_in sector_in ring_uber (has image holds)
      other.0)))
      listed

  -- and takes the device in any case.
  pub taking_noted : slot < 32 → (taken : ℕ) → (image : Image) → HoldsImage old image
      → IsTakenTo (shape_of old) silent image device slot taken
      → IsTakenTo (shape_of old) silent image device (slot + 1) (with_device taken device)
  taking_noted slot_in taken image holds taking = taken_more (shape_of old) silent image device slot taken taking
      (takes (shape_of old) image device slot
      (subst (λ (s : Shape). device < read_devices s) (shape_then so_far.unchanged) device_in)
      (subst (λ (s : Shape). slot < s.sectors) (shape_then so_far.unchanged) sector_in)
      ring_uber (has image (holds_then so_far.unchanged holds)) slot_in)
