-- The order in which holds stand, and how long a search among them takes.
use Rattle.std.specs.Prelude.{◌≡◌, ◌⊎◌, ℕ, ◌+◌, ◌^◌, ◌<◌, ◌≤◌, List, ◌++◌, Bool, true, false, All, AllPairs, count_by}
use Rattle.std.specs.Prelude.{get_or, length}
use Rattle.range_locks.specs.declared.hold.Hold.{Hold}
use Rattle.range_locks.specs.declared.hold.HoldKind.{HoldKind}
use Rattle.range_locks.specs.declared.hold.HoldKind.TheVariants.{Shared, Exclusive}
use Rattle.range_locks.specs.declared.bound.Bound.{Bound}
use Rattle.range_locks.specs.declared.bound.Bound.TheVariants.{Before, EndedBy}
use Rattle.range_locks.specs.Holds.{AreHolds}

-- The hold begins lower; or as low, with a lower actor; or with the same actor too, and ends lower.
abbrev pub ComesBefore : Hold → Hold → Type 0
ComesBefore one other = (one.lo < other.lo)
    ⊎ ((one.lo ≡ other.lo) × ((one.actor < other.actor) ⊎ ((one.actor ≡ other.actor) × (one.hi < other.hi))))

-- The later one doesn't come before the earlier one.
abbrev pub IsInOrder : Hold → Hold → Type 0
IsInOrder one later = ComesBefore later one → ⊥

-- One ends before the other begins.
abbrev pub EndsBefore : Hold → Hold → Type 0
EndsBefore one later = one.hi ≤ later.lo

-- how the holds are kept: the shared ones in their order, and the exclusive ones, which don't overlap, in theirs
pub record AreInOrder (shared exclusive : List Hold) : Type 0 where
  pub are : AreHolds (shared ++ exclusive)
  pub are_shared : All (λ hold. hold.kind ≡ Shared) shared
  pub are_exclusive : All (λ hold. hold.kind ≡ Exclusive) exclusive
  pub shared_order : AllPairs IsInOrder shared
  pub exclusive_order : AllPairs EndsBefore exclusive

-- The search passes over this hold.
abbrev pub IsPassed : Bound → Hold → Type 0
IsPassed (Before bound) hold = ComesBefore hold bound
IsPassed (EndedBy sector) hold = hold.hi ≤ sector

-- Of two holds the earlier is passed wherever the later is.
abbrev pub IsPassedFirst : Bound → Hold → Hold → Type 0
IsPassedFirst bound one later = IsPassed bound later → IsPassed bound one

-- The holds up to here are passed, and the others are not.
pub record IsPlace (holds : List Hold) (bound : Bound) (at : ℕ) : Type 0 where
  pub within : at ≤ length holds
  pub before : (k : ℕ) (default : Hold) → k < at → IsPassed bound (get_or holds k default)
  pub behind : (k : ℕ) (default : Hold) → at ≤ k → k < length holds → IsPassed bound (get_or holds k default) → ⊥

-- how far a search by halving has come: the place is between these two
pub record IsBetween (holds : List Hold) (bound : Bound) (low high : ℕ) : Type 0 where
  pub order : low ≤ high
  pub within : high ≤ length holds
  pub before : (k : ℕ) (default : Hold) → k < low → IsPassed bound (get_or holds k default)
  pub behind : (k : ℕ) (default : Hold) → high ≤ k → k < length holds → IsPassed bound (get_or holds k default) → ⊥

-- A search among so many takes no more steps than the number has binary digits: any digits that can write it suffice.
abbrev pub TakesDigits : ℕ → ℕ → ℕ → Type 0
TakesDigits number before after = (digits : ℕ) → number < 2 ^ digits → after ≤ before + digits

-- The steps so far and those that so many candidates still need.
abbrev pub LeavesDigits : ℕ → ℕ → ℕ → ℕ → ℕ → Type 0
LeavesDigits number low high before now = (digits : ℕ) → number < 2 ^ digits
    → (left : ℕ) × (now + left ≤ before + digits) × (high < low + 2 ^ left)

abbrev pub is_shared : HoldKind → Bool
is_shared Shared = true
is_shared Exclusive = false

abbrev pub is_exclusive : HoldKind → Bool
is_exclusive Shared = false
is_exclusive Exclusive = true

-- how many of the holds are shared, and how many are exclusive
abbrev pub shared_count : List Hold → ℕ
shared_count holds = count_by (λ hold. is_shared hold.kind) holds

abbrev pub exclusive_count : List Hold → ℕ
exclusive_count holds = count_by (λ hold. is_exclusive hold.kind) holds

-- A range is held beside other readers in no more steps than one and the binary digits of both counts.
abbrev pub TakesDigitsOfBoth : List Hold → ℕ → ℕ → Type 0
TakesDigitsOfBoth holds before after = (exclusive shared : ℕ) → exclusive_count holds < 2 ^ exclusive
    → shared_count holds < 2 ^ shared → after ≤ before + exclusive + shared + 1
