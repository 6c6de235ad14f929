-- What a search in a list of holds has found so far.
use Rattle.std.specs.Prelude.{◌≡◌, ◌⊎◌, ℕ, Option, Some, None, min}
use Rattle.range_locks.specs.declared.hold.Hold.{Hold}
use Rattle.range_locks.specs.Holds.{Precedes}

-- the one of two holds that precedes the other, or the only one
abbrev pub IsEarlier : Option Hold → Hold → Hold → Type 0
IsEarlier None hold earlier = earlier ≡ hold
IsEarlier (Some first) hold earlier =
    ((earlier ≡ first) × Precedes first hold) ⊎ ((earlier ≡ hold) × Precedes hold first)

-- the lesser of two sectors, or the only one
abbrev pub lesser_of : Option ℕ → ℕ → ℕ
lesser_of None sector = sector
lesser_of (Some first) sector = min first sector
