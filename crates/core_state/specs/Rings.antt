-- What a device's ring must be before it joins a pool.
use Rattle.std.specs.Prelude.{◌≡◌, ℕ, ◌<◌, List, Some, Contains}
use Rattle.bank_trait.specs.Disk.{Disk}
use Rattle.uberblock_ring.specs.Uberblock.{Uber, encoded, slot_of}
use Rattle.uberblock_ring.specs.Valid.{IsRightUber}
use Rattle.core_state.specs.Certain.{able}

-- A ring can hold nothing but what is read of it: no write to it is still to be synced.
pub record IsRingSettled (disk : Disk) (device : ℕ) : Type 0 where
  pub only : (slot : ℕ) (bytes : List ℕ) → slot < 32 → Contains (able disk device slot) bytes
      → disk.reads device slot ≡ Some bytes

-- No slot of the device reads as a valid uberblock.
pub record ReadsNoUber (disk : Disk) (device : ℕ) : Type 0 where
  pub none : (uber : Uber) → IsRightUber uber → disk.reads device (slot_of uber.group) ≡ Some (encoded uber device)
      → ⊥
