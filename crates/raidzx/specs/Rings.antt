-- What the rings of images show.
use Rattle.std.specs.Prelude.{◌≡◌, ◌⊎◌, ℕ, ◌<◌, ◌≤◌, List, Some}
use Rattle.bank_trait.specs.Causes.{FaultCounted}
use Rattle.bank_trait.specs.Disk.{Disk}
use Rattle.uberblock_ring.specs.Uberblock.{Uber, ring_slots, slot_of}
use Rattle.uberblock_ring.specs.Valid.{IsValidIn}
use Rattle.raidzx.specs.declared.seen.Seen.{Seen}

-- These bytes of a slot are no uberblock in any place from the first to before the end.
abbrev pub ShowsNoPlace : List ℕ → ℕ → ℕ → ℕ → Type 0
ShowsNoPlace bytes slot first end = (place : ℕ) (uber : Uber) → first ≤ place → place < end
    → IsValidIn uber place slot bytes → ⊥

-- They are an uberblock of this pool in this place, the first one of those where they are any.
pub record ShowsPlace (bytes : List ℕ) (slot first end : ℕ) (seen : Seen) : Type 0 where
  pub from : first ≤ seen.place
  pub below : seen.place < end
  pub uber : Uber
  pub valid : IsValidIn uber seen.place slot bytes
  pub pool : uber.pool ≡ seen.pool
  pub earlier : ShowsNoPlace bytes slot first seen.place

-- What the bank tells of a slot is no uberblock in any of these places.
abbrev pub SlotShowsNone : Disk → ℕ → ℕ → ℕ → ℕ → Type 0
SlotShowsNone disk device first end slot = (bytes : List ℕ) → disk.reads device slot ≡ Some bytes
    → ShowsNoPlace bytes slot first end

-- This is seen in a slot of a device's ring, and nothing in those before it, as far as the bank tells them.
pub record IsFirstSeen (disk : Disk) (device first end : ℕ) (seen : Seen) : Type 0 where
  pub slot : ℕ
  pub in_ring : slot < ring_slots
  pub on_device : slot < disk.sectors
  pub shows : (bytes : List ℕ) → disk.reads device slot ≡ Some bytes
      → ShowsPlace bytes slot first end seen
  pub before : (earlier : ℕ) → earlier < slot → SlotShowsNone disk device first end earlier

-- Nothing is seen in any slot of a device's ring, or a read of one failed.
abbrev pub IsNoneSeen : Disk → Disk → ℕ → ℕ → ℕ → Type 0
IsNoneSeen old new device first end = FaultCounted (old.faults device) (new.faults device)
    ⊎ ((slot : ℕ) → slot < ring_slots → slot < old.sectors → SlotShowsNone old device first end slot)

-- A slot is not read where its device ends before it, or where the read failed.
abbrev pub IsSlotUnread : Disk → Disk → ℕ → ℕ → Type 0
IsSlotUnread old new device slot =
    (old.sectors ≤ slot) ⊎ FaultCounted (old.faults device) (new.faults device)

-- These bytes are a device's uberblock of this group, which lists no device as out.
pub record ListsNone (bytes : List ℕ) (device group : ℕ) : Type 0 where
  pub uber : Uber
  pub valid : IsValidIn uber device (slot_of group) bytes
  pub group_is : uber.group ≡ group
  pub out : uber.out ≡ 0

-- What the bank tells of the group's slot on a device is such an uberblock.
pub record ShowsNoneOut (disk : Disk) (group device : ℕ) : Type 0 where
  pub on_device : slot_of group < disk.sectors
  pub lists : (bytes : List ℕ) → disk.reads device (slot_of group) ≡ Some bytes
      → ListsNone bytes device group

-- It is not, or it was not read.
abbrev pub LacksNoneOut : Disk → Disk → ℕ → ℕ → Type 0
LacksNoneOut old new group device = IsSlotUnread old new device (slot_of group)
    ⊎ ((bytes : List ℕ) → old.reads device (slot_of group) ≡ Some bytes
    → ListsNone bytes device group → ⊥)
