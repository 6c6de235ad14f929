-- Which devices are out, and which lack the uberblock, by what is listed of them.
use Rattle.std.specs.Prelude.{◌≡◌, ◌⊎◌, ℕ, ◌+◌, ◌≤◌, List, true}
use Rattle.std.specs.List.{Any}
use Rattle.reflow_mark.specs.declared.reflow.Reflow.{Reflow}
use Rattle.reflow_mark.specs.declared.reflow.State.TheVariants.{None}
use Rattle.uberblock_ring.specs.Devices.{has_device}
use Rattle.uberblock_ring.specs.Uberblock.{Uber}
use Rattle.core_open.specs.declared.ring_uber.RingUber.{RingUber}

-- One of the uberblocks lists the device as out.
abbrev pub ListOut : List RingUber → ℕ → Type 0
ListOut ubers device = Any (λ ring_uber. has_device ring_uber.uber.out device ≡ true) ubers

-- One of the uberblocks stands on the device.
abbrev pub StandOn : List RingUber → ℕ → Type 0
StandOn ubers device = Any (λ ring_uber. ring_uber.device ≡ device) ubers

-- One of the uberblocks on the device is of the pool.
abbrev pub ShowPool : List RingUber → ℕ → ℕ → Type 0
ShowPool ubers pool device =
    Any (λ ring_uber. (ring_uber.device ≡ device) × (ring_uber.uber.pool ≡ pool)) ubers

-- One of them is so and at most two groups below this one.
abbrev pub ShowNear : List RingUber → ℕ → ℕ → ℕ → Type 0
ShowNear ubers pool group device = Any (λ ring_uber. (ring_uber.device ≡ device) × ((ring_uber.uber.pool ≡ pool)
    × (group ≤ ring_uber.uber.group + 2))) ubers

-- The pool is shown on the device, but no group of it that is at most two below the chosen one.
abbrev pub IsBehindBy : List RingUber → Uber → ℕ → Type 0
IsBehindBy ubers uber device = ShowPool ubers uber.pool device
    × (ShowNear ubers uber.pool uber.group device → ⊥)

-- It is the new device of an attach, of which nothing was copied yet.
abbrev pub IsNewDevice : Reflow → ℕ → Type 0
IsNewDevice reflow device = (reflow.state ≡ None) × (device ≡ reflow.from)

-- Nothing of the pool is shown on the device; and if it is the new one, something else is.
abbrev pub IsBlankBy : ℕ → List RingUber → Uber → ℕ → Type 0
IsBlankBy taken ubers uber device = (ShowPool ubers uber.pool device → ⊥)
    × (IsNewDevice uber.reflow device → has_device taken device ≡ true)

-- Of so many devices of the bank, with these uberblocks and candidates, the device is out.
abbrev pub IsOutBy : ℕ → ℕ → ℕ → List RingUber → List RingUber → Uber → ℕ → Type 0
IsOutBy devices silent taken ubers candidates uber device =
    ListOut candidates device ⊎ ((has_device silent device ≡ true) ⊎ ((devices ≤ device)
    ⊎ (IsBlankBy taken ubers uber device ⊎ IsBehindBy ubers uber device)))
