-- Runs of sectors that are taken or held back, and what is free.
use Rattle.std.specs.Prelude.{◌≡◌, ℕ, ◌+◌, ◌*◌, ◌<◌, ◌≤◌, List, [], Contains, filter, length, nat_lt}
use Rattle.range_locks.specs.declared.hold.Hold.{Hold}
use Rattle.range_locks.specs.declared.hold.HoldKind.TheVariants.{Shared}
use Rattle.range_locks.specs.Holds.{Overlaps, IsClear, IsBusyBy}
pub use Rattle.range_locks.specs.Gaining.{Gains}
use Rattle.space_alloc.specs.declared.refused.TakeRefused.{TakeRefused}
use Rattle.space_alloc.specs.declared.refused.TakeRefused.TheVariants.{NoSpace, Busy, NoMemory}

-- sectors of a block of the map, or of a put under way
pub record Run : Type 0 where
  pub start : ℕ
  pub len : ℕ

-- sectors of a freed block, until this group is answered
pub record HeldRun : Type 0 where
  pub start : ℕ
  pub len : ℕ
  pub group : ℕ

pub record Space : Type 0 where
  pub capacity : ℕ
  pub taken : List Run
  pub held : List HeldRun

-- The sector is in the range.
abbrev pub IsIn : ℕ → ℕ → ℕ → Type 0
IsIn start len sector = (start ≤ sector) × (sector < start + len)

abbrev pub IsTaken : Space → ℕ → Type 0
IsTaken space sector = (run : Run) × Contains space.taken run × IsIn run.start run.len sector

abbrev pub IsHeldBack : Space → ℕ → Type 0
IsHeldBack space sector = (run : HeldRun) × Contains space.held run × IsIn run.start run.len sector

-- A shared hold covers the sector.
abbrev pub IsShared : List Hold → ℕ → Type 0
IsShared holds sector =
    (hold : Hold) × Contains holds hold × (hold.kind ≡ Shared) × Overlaps hold sector (sector + 1)

-- The sector is free for a put.
pub record IsFree (space : Space) (holds : List Hold) (sector : ℕ) : Type 0 where
  pub below : sector < space.capacity
  pub untaken : IsTaken space sector → ⊥
  pub not_held : IsHeldBack space sector → ⊥
  pub not_shared : IsShared holds sector → ⊥

abbrev pub IsFreeRun : Space → List Hold → ℕ → ℕ → Type 0
IsFreeRun space holds start len = (sector : ℕ) → IsIn start len sector → IsFree space holds sector

-- A run of sectors that are neither taken nor held back begins here.
pub record BeginsFree (space : Space) (sector : ℕ) : Type 0 where
  pub free : IsFree space [] sector
  pub first : (before : ℕ) → before + 1 ≡ sector → IsFree space [] before → ⊥

-- No more steps than one and two for each free run and each hold: any list suffices that has the start of each free
-- run.
abbrev pub LooksAtEach : Space → List Hold → ℕ → ℕ → Type 0
LooksAtEach space holds before after = (starts : List ℕ)
    → ((sector : ℕ) → BeginsFree space sector → Contains starts sector)
    → after ≤ before + 2 * (length starts + length holds) + 1

-- what a put takes: the lowest run of free sectors that no exclusive hold overlaps
pub record IsFirstFit (space : Space) (holds : List Hold) (len start : ℕ) : Type 0 where
  pub free : IsFreeRun space holds start len
  pub clear : IsClear holds start (start + len) Shared
  pub lowest : (other : ℕ) → IsFreeRun space holds other len
      → IsClear holds other (other + len) Shared → start ≤ other

-- No run of free sectors is long enough.
abbrev pub HasNoFreeRun : Space → List Hold → ℕ → Type 0
HasNoFreeRun space holds len = (start : ℕ) → IsFreeRun space holds start len → ⊥

-- There is one, and each overlaps an exclusive hold; `by` holds the lowest.
pub record IsBusySpace (space : Space) (holds : List Hold) (len by : ℕ) : Type 0 where
  pub start : ℕ
  pub free : IsFreeRun space holds start len
  pub lowest : (other : ℕ) → IsFreeRun space holds other len → start ≤ other
  pub busy : IsBusyBy holds start (start + len) Shared by
  pub each : (other : ℕ) → IsFreeRun space holds other len
      → IsClear holds other (other + len) Shared → ⊥

-- what an answered group gives back
abbrev pub after_group : Space → ℕ → Space
after_group space group = record space { held = filter (λ run. nat_lt group run.group) space.held }

-- a run that is taken from now on
pub record IsTaking (old new : Space) (start len : ℕ) : Type 0 where
  pub capacity : new.capacity ≡ old.capacity
  pub taken : Gains old.taken new.taken (record { start = start; len = len })
  pub held : new.held ≡ old.held

-- a taken run that is free from now on
pub record IsDropping (old new : Space) (start len : ℕ) : Type 0 where
  pub capacity : new.capacity ≡ old.capacity
  pub taken : Gains new.taken old.taken (record { start = start; len = len })
  pub held : new.held ≡ old.held

-- a taken run that is held back from now on
pub record IsHolding (old new : Space) (start len group : ℕ) : Type 0 where
  pub capacity : new.capacity ≡ old.capacity
  pub taken : Gains new.taken old.taken (record { start = start; len = len })
  pub held : Gains old.held new.held (record { start = start; len = len; group = group })

-- Why a run isn't given out. Want of memory comes only where there is one.
abbrev pub IsTakeCause : Space → List Hold → ℕ → TakeRefused → Type 0
IsTakeCause space holds len (NoSpace sectors) = HasNoFreeRun space holds len × (sectors ≡ len)
IsTakeCause space holds len (Busy by) = IsBusySpace space holds len by
IsTakeCause space holds len NoMemory = (start : ℕ) × IsFirstFit space holds len start
