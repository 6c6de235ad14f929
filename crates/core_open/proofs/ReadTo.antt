-- How the uberblocks are listed, slot by slot and device by device.
use Rattle.std.proofs.Common.{◌≡◌, ◌≢◌, ◌⊎◌, inl, inr, ⊎_elim, ℕ, ◌+◌, ◌<◌, ◌≤◌, List, [], ◌∷◌, ◌++◌, None, Some, true}
use Rattle.std.proofs.Common.{false, sym, ◌∙◌, subst, arith}
use Rattle.std.specs.Prelude.{All, Contains, min}
use Rattle.std.proofs.lemmas.Bool.{cases_lt, false≢true}
use Rattle.std.proofs.lemmas.List.Elements.{All-nil, All-push, Contains-append_left, Contains-push}
use Rattle.std.proofs.lemmas.List.Quantifiers.{all_pairs_push}
use Rattle.std.specs.List.Sorted.{IsPermutation}
use Rattle.std.proofs.lemmas.List.Sorted.{All-permutation, Contains-permutation}
use Rattle.bank_trait.specs.Disk.{Image, Disk, Unchanged}
use Rattle.uberblock_ring.specs.Devices.{has_device, with_device}
use Rattle.uberblock_ring.specs.Uberblock.{Uber, slot_of}
use Rattle.uberblock_ring.specs.Valid.{IsRightUber, IsValidIn}
use Rattle.uberblock_ring.proofs.DeviceSets.{has_with, others_with}
use Rattle.uberblock_ring.proofs.OneSpelling.{valid_tells}
use Rattle.core_state.specs.Shown.{Shape, Shows, read_devices}
use Rattle.core_open.specs.declared.ring_uber.RingUber.{RingUber}
use Rattle.core_open.specs.RingUbers.{AreByDevice, AreRight, AreShown, ShowsIn}
use Rattle.core_open.specs.Holds.{HoldsImage, shape_of}
use Rattle.core_open.proofs.Unchanged.{holds_then, shape_then, unchanged_none, unchanged_then}

-- an uberblock on a device
abbrev pub ring_uber_on : ℕ → Uber → RingUber
ring_uber_on device uber = record { device = device; uber = uber }

-- The rings of the devices below this one are read, and of this one the slots below this one.
pub record IsReadTo (shape : Shape) (silent : ℕ) (image : Image) (device slot : ℕ) (ubers : List RingUber) : Type 0
  where
    pub each : All (λ ring_uber. Shows shape image ring_uber.device ring_uber.uber) ubers
    pub every : (other : ℕ) (uber : Uber) → (other < device) ⊎ ((other ≡ device) × (slot_of uber.group < slot))
        → has_device silent other ≡ false → Shows shape image other uber
        → Contains ubers (ring_uber_on other uber)

-- Two uberblocks that a device shows in one slot are the same.
pub shown_once : (shape : Shape) (image : Image) (device : ℕ) (one other : Uber) → Shows shape image device one
    → Shows shape image device other → slot_of one.group ≡ slot_of other.group
    → one ≡ other
shown_once shape image device one other shows also same =
    let low : device < 16 = omega (arith, shows.device_in) in
    let here : IsValidIn other device (slot_of one.group) (image device (slot_of one.group)) =
    subst (λ slot. IsValidIn other device slot (image device slot)) (sym same) also.valid in
    (valid_tells one other device device (slot_of one.group) (slot_of one.group) (image device (slot_of one.group))
    (omega (arith, low)) (omega (arith, low)) shows.valid here).0

-- No device was read yet,
pub read_none : (shape : Shape) (image : Image) → AreShown shape 0 image 0 []
read_none shape image = record {
  each = All-nil _;
  every = λ device uber low. absurd (omega (arith, low));
}

-- and no slot of this one.
pub read_begins : (shape : Shape) (silent : ℕ) (image : Image) (device : ℕ) (ubers : List RingUber)
    → AreShown shape silent image device ubers
    → IsReadTo shape silent image device 0 ubers
read_begins shape silent image device ubers shown = record {
  each = shown.each;
  every = λ other uber there. ⊎_elim
      (λ (low : other < device). shown.every other uber low)
      (λ (here : (other ≡ device) × (slot_of uber.group < 0)). absurd (omega (arith, here.1)))
      there;
}

-- A slot shows no uberblock,
pub read_past : (shape : Shape) (silent : ℕ) (image : Image) (device slot : ℕ) (ubers : List RingUber)
    → IsReadTo shape silent image device slot ubers → ShowsIn shape image device slot None
    → IsReadTo shape silent image device (slot + 1) ubers
read_past shape silent image device slot ubers so_far empty = record {
  each = so_far.each;
  every = λ other uber there works shows. ⊎_elim
      (λ (low : other < device). so_far.every other uber (inl low) works shows)
      (λ (here : (other ≡ device) × (slot_of uber.group < slot + 1)). ⊎_elim
      (λ (before : slot_of uber.group < slot). so_far.every other uber (inr (here.0, before)) works shows)
      (λ (above : slot ≤ slot_of uber.group). absurd (empty uber
      (subst (λ d. Shows shape image d uber) here.0 shows) (omega (arith, above, here.1))))
      (cases_lt (slot_of uber.group) slot))
      there;
}

-- or this one.
pub read_more : (shape : Shape) (silent : ℕ) (image : Image) (device slot : ℕ) (ubers : List RingUber) (uber : Uber)
    → IsReadTo shape silent image device slot ubers → ShowsIn shape image device slot (Some uber)
    → IsReadTo shape silent image device (slot + 1) (ubers ++ ring_uber_on device uber ∷ [])
read_more shape silent image device slot ubers uber so_far found = record {
  each = All-push (λ ring_uber. Shows shape image ring_uber.device ring_uber.uber) ubers (ring_uber_on device uber) so_far.each found.0;
  every = λ other shown there works shows. ⊎_elim
      (λ (low : other < device). listed other shown (so_far.every other shown (inl low) works shows))
      (λ (here : (other ≡ device) × (slot_of shown.group < slot + 1)). ⊎_elim
      (λ (before : slot_of shown.group < slot).
      listed other shown (so_far.every other shown (inr (here.0, before)) works shows))
      (λ (above : slot ≤ slot_of shown.group).
      let same : shown ≡ uber = shown_once shape image device shown uber
      (subst (λ d. Shows shape image d shown) here.0 shows) found.0 (omega (arith, above, here.1, found.1)) in
      let is : ring_uber_on device uber ≡ ring_uber_on other shown =
      λ i. record { device = sym here.0 i; uber = sym same i } in
      subst (λ (c : RingUber). Contains (ubers ++ ring_uber_on device uber ∷ []) c) is (Contains-push ubers (ring_uber_on device uber)))
      (cases_lt (slot_of shown.group) slot))
      there;
}
  where
    listed : (other : ℕ) (shown : Uber) → Contains ubers (ring_uber_on other shown)
        → Contains (ubers ++ ring_uber_on device uber ∷ []) (ring_uber_on other shown)
    listed other shown before =
        Contains-append_left ubers (ring_uber_on device uber ∷ []) (ring_uber_on other shown) before

-- All slots of a device were read,
pub read_ends : (shape : Shape) (silent : ℕ) (image : Image) (device slot : ℕ) (ubers : List RingUber)
    → min shape.sectors 32 ≤ slot → IsReadTo shape silent image device slot ubers
    → AreShown shape silent image (device + 1) ubers
read_ends shape silent image device slot ubers whole so_far = record {
  each = so_far.each;
  every = λ other uber low works shows. ⊎_elim
      (λ (before : other < device). so_far.every other uber (inl before) works shows)
      (λ (above : device ≤ other). so_far.every other uber
      (inr (omega (arith, low, above), omega (arith, whole, shows.slot_in))) works shows)
      (cases_lt other device);
}

-- or it is silent from here on.
pub read_fails : (shape : Shape) (silent : ℕ) (image : Image) (device slot : ℕ) (ubers : List RingUber)
    → IsReadTo shape silent image device slot ubers
    → AreShown shape (with_device silent device) image (device + 1) ubers
read_fails shape silent image device slot ubers so_far = record {
  each = so_far.each;
  every = λ other uber low works shows.
      let apart : other ≢ device = λ same. false≢true
      (sym works ∙ subst (λ d. has_device (with_device silent device) d ≡ true) (sym same) (has_with silent device)) in
      so_far.every other uber (inl (omega (arith, low, apart)))
      (sym (others_with silent device other apart) ∙ works) shows;
}

-- The uberblocks read from a device so far, slot by slot, beside those from before it.
pub record IsReading (device slot silent : ℕ) (old new : Disk) (before ubers : List RingUber) : Type 0 where
  pub unchanged : Unchanged old new
  pub right : AreRight (device + 1) ubers
  pub order : AreByDevice ubers
  pub shown : (image : Image) → HoldsImage old image → AreShown (shape_of old) silent image device before
      → IsReadTo (shape_of old) silent image device slot ubers

-- They are so below a higher device too.
pub right_wider : (devices more : ℕ) (ubers : List RingUber) → devices ≤ more → AreRight devices ubers
    → AreRight more ubers
right_wider devices more ubers wide right k d low = (omega (arith, wide, (right k d low).0), (right k d low).1)

-- No slot was read yet,
pub reading_begins : (device silent : ℕ) (disk : Disk) (ubers : List RingUber) → AreRight device ubers
    → AreByDevice ubers
    → IsReading device 0 silent disk disk ubers ubers
reading_begins device silent disk ubers right order = record {
  unchanged = unchanged_none disk;
  right = right_wider device (device + 1) ubers (omega arith) right;
  order = order;
  shown = λ image holds shown. read_begins (shape_of disk) silent image device ubers shown;
}

module _ (device slot silent : ℕ) (old mid new : Disk) (before ubers : List RingUber)
    (so_far : IsReading device slot silent old mid before ubers) (same : Unchanged mid new) where
  -- a slot without an uberblock,
  pub reading_past : ((image : Image) → HoldsImage mid image → ShowsIn (shape_of mid) image device slot None)
      → IsReading device (slot + 1) silent old new before ubers
  reading_past empty = record {
    unchanged = unchanged_then so_far.unchanged same;
    right = so_far.right;
    order = so_far.order;
    shown = λ image holds shown. read_past (shape_of old) silent image device slot ubers (so_far.shown image holds shown)
        (subst (λ (s : Shape). ShowsIn s image device slot None) (shape_then so_far.unchanged)
        (empty image (holds_then so_far.unchanged holds)));
  }

  -- and one with this one.
  pub reading_more : (uber : Uber) → IsRightUber uber
      → ((image : Image) → HoldsImage mid image → ShowsIn (shape_of mid) image device slot (Some uber))
      → IsReading device (slot + 1) silent old new before (ubers ++ ring_uber_on device uber ∷ [])
  reading_more uber right found = record {
    unchanged = unchanged_then so_far.unchanged same;
    right = All-push (λ ring_uber. (ring_uber.device < device + 1) × IsRightUber ring_uber.uber) ubers (ring_uber_on device uber)
        so_far.right (omega arith, right);
    order = all_pairs_push (λ (one other : RingUber). one.device ≤ other.device) ubers (ring_uber_on device uber) so_far.order
        (λ k d low. omega (arith, (so_far.right k d low).0));
    shown = λ image holds shown. read_more (shape_of old) silent image device slot ubers uber
        (so_far.shown image holds shown)
        (subst (λ (s : Shape). ShowsIn s image device slot (Some uber)) (shape_then so_far.unchanged)
        (found image (holds_then so_far.unchanged holds)));
  }

-- The order of the list does not matter.
pub shown_sorted : (shape : Shape) (silent : ℕ) (image : Image) (devices : ℕ) (before after : List RingUber)
    → IsPermutation before after → read_devices shape ≤ devices → AreShown shape silent image devices before
    → AreShown shape silent image (read_devices shape) after
shown_sorted shape silent image devices before after moved whole shown = record {
  each = All-permutation (λ (ring_uber : RingUber). Shows shape image ring_uber.device ring_uber.uber) before after moved shown.each;
  every = λ device uber low works shows. Contains-permutation before after (ring_uber_on device uber) moved
      (shown.every device uber (omega (arith, low, whole)) works shows);
}
