-- Uberblocks, as the rings of the devices show them.
use Rattle.std.specs.Prelude.{◌≡◌, ◌≢◌, ◌⊎◌, ℕ, ◌<◌, ◌≤◌, ◌^◌, List, [], ◌∷◌, ◌++◌, Option, Some, None, All, AllPairs}
use Rattle.std.specs.Prelude.{Contains, true, false}
use Rattle.bank_trait.specs.Disk.{Image}
use Rattle.uberblock_ring.specs.Devices.{has_device}
use Rattle.uberblock_ring.specs.Uberblock.{Uber, slot_of}
use Rattle.uberblock_ring.specs.Valid.{IsRightUber, IsValidIn}
use Rattle.attach_ring.specs.declared.taken.SlotUber.{SlotUber}
use Rattle.attach_ring.specs.Ring.{IsTakenSlot}
use Rattle.core_state.specs.Shown.{Shape, Shows}
use Rattle.core_state.specs.Choosing.{IsTakenDevice}
use Rattle.core_open.specs.declared.ring_uber.RingUber.{RingUber}

-- The device shows this uberblock in the slot, or none there.
abbrev pub ShowsIn : Shape → Image → ℕ → ℕ → Option Uber → Type 0
ShowsIn shape image device slot (Some uber) =
    Shows shape image device uber × (slot_of uber.group ≡ slot)
ShowsIn shape image device slot None =
    (uber : Uber) → Shows shape image device uber → slot_of uber.group ≢ slot

-- The slot of the device has this uberblock, for whichever device, or none.
abbrev pub HasSlotUber : Image → ℕ → ℕ → Option SlotUber → Type 0
HasSlotUber image device slot (Some ring_uber) = (ring_uber.number < 2 ^ 32)
    × IsValidIn ring_uber.uber ring_uber.number slot (image device slot)
HasSlotUber image device slot None = IsTakenSlot slot (image device slot) → ⊥

-- An uberblock that is for the device itself was listed, at the end; one for another was not.
abbrev pub IsListedFor : ℕ → SlotUber → List RingUber → List RingUber → Type 0
IsListedFor device ring_uber before after = ((ring_uber.number ≡ device)
    × (after ≡ before ++ record { device = device; uber = ring_uber.uber } ∷ []))
    ⊎ ((ring_uber.number ≢ device) × (after ≡ before))

-- Each device of the set shows an uberblock, of whatever pool and for whatever device number; and each
-- device below this one that does is in the set, if it isn't silent.
pub record AreTaken (shape : Shape) (silent : ℕ) (image : Image) (devices taken : ℕ) : Type 0 where
  pub each : (device : ℕ) → has_device taken device ≡ true → IsTakenDevice shape image device
  pub every : (device : ℕ) → device < devices → has_device silent device ≡ false
      → IsTakenDevice shape image device → has_device taken device ≡ true

-- Each uberblock is shown, and each uberblock is listed that a device below this one shows, if it isn't
-- silent.
pub record AreShown (shape : Shape) (silent : ℕ) (image : Image) (devices : ℕ)
    (ubers : List RingUber) : Type 0 where
  pub each : All (λ ring_uber. Shows shape image ring_uber.device ring_uber.uber) ubers
  pub every : (device : ℕ) (uber : Uber) → device < devices → has_device silent device ≡ false
      → Shows shape image device uber
      → Contains ubers (record { device = device; uber = uber })

-- They are right uberblocks of devices below this one.
abbrev pub AreRight : ℕ → List RingUber → Type 0
AreRight devices ubers = All (λ ring_uber. (ring_uber.device < devices) × IsRightUber ring_uber.uber) ubers

-- They stand in the order of their devices.
abbrev pub AreByDevice : List RingUber → Type 0
AreByDevice ubers = AllPairs (λ one other. one.device ≤ other.device) ubers

-- The first uberblock has the greater group, or in one group no higher device.
abbrev pub GoesBefore : RingUber → RingUber → Type 0
GoesBefore one other = (other.uber.group < one.uber.group)
    ⊎ ((one.uber.group ≡ other.uber.group) × (one.device ≤ other.device))

-- They stand by group from the greatest down, and in one group by device.
abbrev pub AreByGroup : List RingUber → Type 0
AreByGroup ubers = AllPairs GoesBefore ubers

-- They are of one group, and stand by device.
abbrev pub AreOfOneGroup : List RingUber → Type 0
AreOfOneGroup ubers = AllPairs
    (λ one other. (one.uber.group ≡ other.uber.group) × (one.device ≤ other.device)) ubers
