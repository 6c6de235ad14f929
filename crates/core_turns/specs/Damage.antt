-- What may be wrong of what an open pool holds.
use Rattle.std.specs.Prelude.{[]}
use Rattle.core_state.specs.Keeps.{Kept}
use Rattle.core_state.specs.Whole.{Excepted, IsAmong}
use Rattle.core_copy.specs.Closed.{IsClosed}

-- what may be wrong: all that is listed while the pool is open, and what is left of that now
pub record Damage : Type 0 where
  pub listed : Excepted
  pub left : Excepted

-- nothing may be wrong
abbrev pub undamaged : Damage
undamaged = record { listed = []; left = [] }

-- What is left is of what is listed, and closed under copying.
pub record IsDamage (damage : Damage) : Type 0 where
  pub within : IsAmong damage.left damage.listed
  pub closed : IsClosed damage.left

-- A group lists at least what is left, and at most what is listed.
pub record ListsDamage (damage : Damage) (kept : Kept) : Type 0 where
  pub least : IsAmong damage.left kept.excepted
  pub most : IsAmong kept.excepted damage.listed
