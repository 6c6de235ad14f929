-- Which disks of a pool are not named.
use Rattle.std.specs.Prelude.{◌≡◌, ℕ, ◌<◌, ◌≤◌, false, min}
use Rattle.uberblock_ring.specs.Devices.{has_device}
use Rattle.raidzx.specs.declared.standing.Known.{Known}

-- The pool has this place, it is behind the images that are named, and the pool's group doesn't list it as out.
abbrev pub IsUnnamed : Known → ℕ → Type 0
IsUnnamed known place = (place < min known.uber.reflow.to 16)
    × ((known.named ≤ place) × (has_device known.listed place ≡ false))
