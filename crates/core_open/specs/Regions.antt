-- Which sectors creating a pool writes.
use Rattle.std.specs.Prelude.{◌≡◌, ℕ, ◌<◌}

-- the first sectors of a device
abbrev pub IsBelow : ℕ → ℕ → ℕ → ℕ → Type 0
IsBelow device count d x = (d ≡ device) × (x < count)

-- a device
abbrev pub IsOn : ℕ → ℕ → ℕ → Type 0
IsOn device d x = d ≡ device

-- the devices below a number
abbrev pub IsOnBelow : ℕ → ℕ → ℕ → Type 0
IsOnBelow count d x = d < count
