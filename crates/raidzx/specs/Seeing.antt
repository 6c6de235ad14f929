-- What is listed of the rings of images is what they show.
use Rattle.std.specs.Prelude.{◌≡◌, ◌⊎◌, ℕ, ◌<◌, ◌≤◌, ◌^◌, true, false, List, ◌++◌, Some}
use Rattle.std.specs.List.{All, Contains}
use Rattle.bank_trait.specs.Causes.{FaultCounted}
use Rattle.bank_trait.specs.Disk.{Disk}
use Rattle.uberblock_ring.specs.Devices.{has_device, with_device}
use Rattle.uberblock_ring.specs.Uberblock.{Uber, ring_slots}
use Rattle.uberblock_ring.specs.Valid.{IsValidIn}
use Rattle.raidzx.specs.declared.sightings.Sighting.{Sighting}
use Rattle.raidzx.specs.declared.sightings.Sightings.{Sightings}

-- The bank has an image at this place, and it is looked at.
abbrev pub IsLookedAt : Disk → ℕ → Type 0
IsLookedAt disk place = (place < disk.devices) × (place < 64)

-- It is the uberblock that a slot of an image shows, where the bank tells what stands there.
pub record IsSeen (disk : Disk) (sighting : Sighting) : Type 0 where
  pub looked_at : IsLookedAt disk sighting.place
  pub slot : ℕ
  pub in_ring : slot < ring_slots
  pub on_device : slot < disk.sectors
  pub number : sighting.number < 2 ^ 32
  pub valid : (bytes : List ℕ) → disk.reads sighting.place slot ≡ Some bytes
      → IsValidIn sighting.uber sighting.number slot bytes

-- Each uberblock that these bytes of a slot are is listed, for this place.
abbrev pub IsAnyListed : List Sighting → ℕ → ℕ → List ℕ → Type 0
IsAnyListed sightings place slot bytes = (number : ℕ) (uber : Uber) → number < 2 ^ 32
    → IsValidIn uber number slot bytes
    → Contains sightings (record { place = place; number = number; uber = uber })

-- Each that the bank tells of a slot of the image at this place is listed.
abbrev pub IsSlotListed : Disk → List Sighting → ℕ → ℕ → Type 0
IsSlotListed disk sightings place slot = (bytes : List ℕ) → disk.reads place slot ≡ Some bytes
    → IsAnyListed sightings place slot bytes

-- The image at this place has a whole ring, and each uberblock that it shows is listed.
pub record IsRingListed (disk : Disk) (sightings : List Sighting) (place : ℕ) : Type 0 where
  pub whole : ring_slots ≤ disk.sectors
  pub slots : (slot : ℕ) → slot < ring_slots → IsSlotListed disk sightings place slot

-- A ring is not read to its end where its device ends before it, or where a read failed.
abbrev pub IsRingUnread : Disk → Disk → ℕ → Type 0
IsRingUnread old new place =
    (old.sectors < ring_slots) ⊎ FaultCounted (old.faults place) (new.faults place)

-- Listed is what the images show, and all of it but for those whose rings are not read to their ends.
pub record AreSeen (old new : Disk) (sightings : Sightings) : Type 0 where
  pub shown : All (λ sighting. IsSeen old sighting) sightings.list.items
  pub listed : (place : ℕ) → IsLookedAt old place → has_device sightings.unread place ≡ false
      → IsRingListed old sightings.list.items place
  pub unread : (place : ℕ) → has_device sightings.unread place ≡ true
      → IsLookedAt old place × IsRingUnread old new place

-- It is an uberblock that these bytes of a slot are, for this place.
pub record IsOfSlot (bytes : List ℕ) (place slot : ℕ) (sighting : Sighting) : Type 0 where
  pub place_is : sighting.place ≡ place
  pub number : sighting.number < 2 ^ 32
  pub valid : IsValidIn sighting.uber sighting.number slot bytes

-- The list grows by the uberblock that these bytes of a slot are, if they are one.
pub record NotesSlot (bytes : List ℕ) (place slot : ℕ) (before after : List Sighting) : Type 0 where
  pub more : List Sighting
  pub grows : after ≡ before ++ more
  pub shown : All (λ sighting. IsOfSlot bytes place slot sighting) more
  pub listed : IsAnyListed more place slot bytes

-- The list grows by what the ring of the image at this place shows, which is all of it or is told as unread.
pub record SeesRing (old new : Disk) (place : ℕ) (before after : Sightings) : Type 0 where
  pub more : List Sighting
  pub grows : after.list.items ≡ before.list.items ++ more
  pub shown : All (λ sighting. IsSeen old sighting) more
  pub all : ((after.unread ≡ before.unread) × IsRingListed old more place)
      ⊎ ((after.unread ≡ with_device before.unread place) × IsRingUnread old new place)
