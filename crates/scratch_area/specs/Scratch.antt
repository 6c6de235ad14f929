-- Old, new and scratch places, and the two moves that go by the scratch area.
use Rattle.std.specs.Prelude.{ℕ, ◌<◌, ◌≤◌}
use Rattle.width_map.specs.declared.position.Place.{Place}
use Rattle.width_map.specs.Place.{place_of}
use Rattle.reflow_mark.specs.declared.reflow.Reflow.{Reflow}
use Rattle.reflow_mark.specs.Reflow.{Expands, scratch_end}

-- the place at the width that the pool has
abbrev pub old_place : Reflow → ℕ → Place
old_place reflow sector = place_of reflow.from sector

-- the place at the width that it will have
abbrev pub new_place : Reflow → ℕ → Place
new_place reflow sector = place_of reflow.to sector

-- the first device sector of the scratch rows
abbrev pub first_scratch_sector : ℕ
first_scratch_sector = 32

-- the place in the scratch area, whose rows have the new width
abbrev pub scratch_place : ℕ → ℕ → Place
scratch_place to sector = place_of to sector

-- Fill reads a sector at its old place and writes it to its scratch place.
abbrev pub fill_move : Reflow → ℕ → Place × Place
fill_move reflow sector = (old_place reflow sector, scratch_place reflow.to sector)

-- Drain reads it at its scratch place and writes it to its new place.
abbrev pub drain_move : Reflow → ℕ → Place × Place
drain_move reflow sector = (scratch_place reflow.to sector, new_place reflow sector)

-- A sector that goes by way of the scratch area, in a pool of at most 33 devices that is widened.
pub record IsDrained (reflow : Reflow) (sector : ℕ) : Type 0 where
  pub expands : Expands reflow
  pub some : 0 < reflow.from
  pub narrow : reflow.from ≤ 33
  pub below : sector < scratch_end reflow
