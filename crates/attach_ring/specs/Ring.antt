-- What a ring shows that is read slot by slot.
use Rattle.std.specs.Prelude.{◌≡◌, ◌⊎◌, ℕ, ◌+◌, ◌<◌, ◌^◌, List, Option, Some, None}
use Rattle.bank_trait.specs.Disk.{Disk}
use Rattle.uberblock_ring.specs.Uberblock.{Uber}
use Rattle.uberblock_ring.specs.Valid.{IsValidIn}

-- These bytes are an uberblock that is valid in this slot, of whatever pool and for whatever device.
pub record IsTakenSlot (slot : ℕ) (bytes : List ℕ) : Type 0 where
  pub uber : Uber
  pub number : ℕ
  pub fits : number < 2 ^ 32
  pub valid : IsValidIn uber number slot bytes

-- the device, how many of its slots were read, and the lowest of them that shows an uberblock
pub record RingRead : Type 0 where
  pub device : ℕ
  pub slots : ℕ
  pub taken : Option ℕ

-- the lowest slot that shows an uberblock once this one was read too
abbrev pub IsTakenThen : Option ℕ → ℕ → List ℕ → Option ℕ → Type 0
IsTakenThen (Some lower) slot bytes taken = taken ≡ Some lower
IsTakenThen None slot bytes taken =
    (IsTakenSlot slot bytes × (taken ≡ Some slot)) ⊎ ((IsTakenSlot slot bytes → ⊥) × (taken ≡ None))

-- The next slot was read, which gave what stands there, where that is told.
pub record ReadsSlot (disk : Disk) (old new : RingRead) : Type 0 where
  pub bytes : List ℕ
  pub told : (known : List ℕ) → disk.reads old.device old.slots ≡ Some known → bytes ≡ known
  pub taken : IsTakenThen old.taken old.slots bytes new.taken
  pub rest : new ≡ record old { slots = old.slots + 1; taken = new.taken }

-- What a device tells in a slot is no uberblock.
abbrev pub IsFreeSlot : Disk → ℕ → ℕ → Type 0
IsFreeSlot disk device slot = (bytes : List ℕ) → disk.reads device slot ≡ Some bytes → IsTakenSlot slot bytes → ⊥

-- None of the slots that were read shows an uberblock; or this one does, and none below it.
abbrev pub IsLowestTaken : Disk → ℕ → ℕ → Option ℕ → Type 0
IsLowestTaken disk device slots None = (slot : ℕ) → slot < slots → IsFreeSlot disk device slot
IsLowestTaken disk device slots (Some taken) = (taken < slots)
    × ((bytes : List ℕ) → disk.reads device taken ≡ Some bytes → IsTakenSlot taken bytes)
    × ((slot : ℕ) → slot < taken → IsFreeSlot disk device slot)

-- What was read of the ring is what it shows.
abbrev pub HasReadRing : Disk → RingRead → Type 0
HasReadRing disk ring = IsLowestTaken disk ring.device ring.slots ring.taken
