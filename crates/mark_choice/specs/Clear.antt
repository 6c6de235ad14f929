-- Ranges of sectors that nobody shares.
use Rattle.std.specs.Prelude.{◌≡◌, ℕ, ◌<◌, List, Contains}
use Rattle.range_locks.specs.declared.hold.Hold.{Hold}
use Rattle.range_locks.specs.declared.hold.HoldKind.TheVariants.{Shared}
use Rattle.range_locks.specs.Holds.{Overlaps}

-- No shared hold overlaps the range, if that has a sector.
abbrev pub HasNoShared : List Hold → ℕ × ℕ → Type 0
HasNoShared holds range = (hold : Hold) → Contains holds hold → hold.kind ≡ Shared → range.0 < range.1
    → Overlaps hold range.0 range.1 → ⊥
