-- Holds of ranges, and which of them stand in each other's way.
use Rattle.std.specs.Prelude.{◌≡◌, ◌≢◌, ◌⊎◌, ℕ, ◌<◌, ◌≤◌, List, Option, Some, None, All, Contains, slice_get, ◌++◌, ◌∷◌}
use Rattle.range_locks.specs.declared.hold.Hold.{Hold}
use Rattle.range_locks.specs.declared.hold.HoldKind.{HoldKind}
use Rattle.range_locks.specs.declared.hold.HoldKind.TheVariants.{Shared, Exclusive}
use Rattle.range_locks.specs.declared.refused.LockRefused.{LockRefused}
use Rattle.range_locks.specs.declared.refused.LockRefused.TheVariants.{Busy, NoMemory}

-- The hold has a sector of this range.
pub record Overlaps (hold : Hold) (lo hi : ℕ) : Type 0 where
  pub begins : hold.lo < hi
  pub ends : lo < hold.hi

-- The hold stands in the way of one of this kind and range.
pub record ConflictsWith (hold : Hold) (lo hi : ℕ) (kind : HoldKind) : Type 0 where
  pub overlaps : Overlaps hold lo hi
  pub exclusive : (hold.kind ≡ Exclusive) ⊎ (kind ≡ Exclusive)

-- No exclusive hold overlaps another hold.
pub record AreExclusive (holds : List Hold) : Type 0 where
  pub apart : (i j : ℕ) (one other : Hold) → i ≢ j → slice_get holds i ≡ Some one
      → slice_get holds j ≡ Some other
      → ConflictsWith one other.lo other.hi other.kind → ⊥

-- The hold has a sector.
abbrev pub HasSectors : Hold → Type 0
HasSectors hold = hold.lo < hold.hi

-- what locks always keep of their holds
pub record AreHolds (holds : List Hold) : Type 0 where
  pub exclusive : AreExclusive holds
  pub nonempty : All HasSectors holds

-- None of the holds stands in the way.
abbrev pub IsClear : List Hold → ℕ → ℕ → HoldKind → Type 0
IsClear holds lo hi kind = (hold : Hold) → Contains holds hold → ConflictsWith hold lo hi kind → ⊥

-- The hold begins lower, or as low with an actor that is no higher.
abbrev pub Precedes : Hold → Hold → Type 0
Precedes hold other =
    (hold.lo < other.lo) ⊎ ((hold.lo ≡ other.lo) × (hold.actor ≤ other.actor))

-- Of those in the way this actor's begins lowest, and of these it has the lowest number.
pub record IsBusyBy (holds : List Hold) (lo hi : ℕ) (kind : HoldKind) (by : ℕ) : Type 0 where
  pub hold : Hold
  pub listed : Contains holds hold
  pub blocks : ConflictsWith hold lo hi kind
  pub actor : hold.actor ≡ by
  pub lowest : (other : Hold) → Contains holds other → ConflictsWith other lo hi kind
      → Precedes hold other

-- This hold is in the way, and precedes all others that are.
pub record IsFirstIn (holds : List Hold) (lo hi : ℕ) (kind : HoldKind) (hold : Hold) : Type 0 where
  pub listed : Contains holds hold
  pub blocks : ConflictsWith hold lo hi kind
  pub lowest : (other : Hold) → Contains holds other → ConflictsWith other lo hi kind → Precedes hold other

-- the first hold in the way, if any is
abbrev pub IsFirst : List Hold → ℕ → ℕ → HoldKind → Option Hold → Type 0
IsFirst holds lo hi kind None = IsClear holds lo hi kind
IsFirst holds lo hi kind (Some hold) = IsFirstIn holds lo hi kind hold

-- Why a range isn't granted: some hold is in the way, or no memory is left though none is.
abbrev pub IsLockCause : List Hold → ℕ → ℕ → HoldKind → LockRefused → Type 0
IsLockCause holds lo hi kind (Busy by) = IsBusyBy holds lo hi kind by
IsLockCause holds lo hi kind NoMemory = IsClear holds lo hi kind

-- The first hold that equals this one is gone, and the others stay in their order.
pub record EndsHold (old new : List Hold) (hold : Hold) : Type 0 where
  pub before : List Hold
  pub after : List Hold
  pub was : old ≡ before ++ hold ∷ after
  pub first : Contains before hold → ⊥
  pub is : new ≡ before ++ after

-- The hold is shared and begins at or above this sector.
abbrev pub IsSharedFrom : Hold → ℕ → Type 0
IsSharedFrom hold from = (hold.kind ≡ Shared) × (from ≤ hold.lo)

-- A shared hold begins here.
pub record BeginsShared (holds : List Hold) (sector : ℕ) : Type 0 where
  pub hold : Hold
  pub listed : Contains holds hold
  pub shared : hold.kind ≡ Shared
  pub begins : hold.lo ≡ sector

-- the lowest start of a shared hold at or above a sector, if there is any
abbrev pub IsFirstSharedFrom : List Hold → ℕ → Option ℕ → Type 0
IsFirstSharedFrom holds from None = (sector : ℕ) → from ≤ sector → BeginsShared holds sector → ⊥
IsFirstSharedFrom holds from (Some first) =
    (from ≤ first) × BeginsShared holds first
    × ((sector : ℕ) → from ≤ sector → BeginsShared holds sector → first ≤ sector)

-- A shared hold begins below the sector and ends above it.
pub record Straddles (holds : List Hold) (sector : ℕ) : Type 0 where
  pub hold : Hold
  pub listed : Contains holds hold
  pub shared : hold.kind ≡ Shared
  pub begins : hold.lo < sector
  pub ends : sector < hold.hi
