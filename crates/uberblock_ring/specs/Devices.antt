-- Sets of devices as masks.
use Rattle.std.specs.Prelude.{◌≡◌, ℕ, zero, suc, ◌+◌, ◌/◌, ◌%◌, ◌^◌, Bool, true, ◌==◌, bit_or, if◌then◌else◌}

-- The set has this device.
abbrev pub has_device : ℕ → ℕ → Bool
has_device devices device = (devices / 2 ^ device) % 2 == 1

-- how many devices below a number the set has
abbrev pub count_below : ℕ → ℕ → ℕ
count_below devices zero = 0
count_below devices (suc device) =
    count_below devices device + (if has_device devices device then 1 else 0)

-- how many devices the set has, all of them below 64
unfoldable pub count_of : ℕ → ℕ
count_of devices = count_below devices 64

-- the set with this device too
abbrev pub with_device : ℕ → ℕ → ℕ
with_device devices device = bit_or devices (2 ^ device)

-- Each device of the first set is in the second.
abbrev pub IsWithin : ℕ → ℕ → Type 0
IsWithin devices others = (device : ℕ) → has_device devices device ≡ true
    → has_device others device ≡ true
