-- What the read of one sector of a device gives.
use Rattle.std.specs.Prelude.{◌≡◌, ◌⊎◌, ℕ, ◌+◌, Bool, List, Option, Some, None, true, false, Result, Ok, Err, OnOk}
use Rattle.std.specs.Prelude.{OnErr}
use Rattle.bank_trait.specs.declared.Failed.{Failed}
use Rattle.bank_trait.specs.Causes.{FaultCounted, FailedOnce}
use Rattle.bank_trait.specs.Disk.{Known, Unchanged}
use Rattle.width_map.specs.declared.position.Place.{Place}
use Rattle.uberblock_ring.specs.Devices.{has_device}
use Rattle.core_state.specs.Committing.{Point, Called}
use Rattle.core_state.specs.declared.spot.Spot.{Spot}

-- the sector of a place, where rows begin at `first`
abbrev pub spot_at : ℕ → Place → Spot
spot_at first place = record { device = place.device; device_sector = first + place.row }

-- what a read gave, by whether it went and what it left
abbrev pub given_by : Bool → List ℕ → Option (List ℕ)
given_by true left = Some left
given_by false left = None

-- What reading a spot gave while devices went out: nothing where its device is out by then, else
-- the bytes that stand there, where that is told.
abbrev pub IsGot : Known → ℕ → ℕ → Spot → Option (List ℕ) → Type 0
IsGot known before after spot None = has_device after spot.device ≡ true
IsGot known before after spot (Some bytes) =
    (has_device before spot.device ≡ false)
    × ((told : List ℕ) → known spot.device spot.device_sector ≡ Some told → bytes ≡ told)

-- The read gave what stands there, where that is told, and nothing where it failed.
abbrev pub HasGiven : Known → Spot → Result (Unit {0}) Failed → Option (List ℕ) → Type 0
HasGiven known spot (Ok done) (Some bytes) =
    (told : List ℕ) → known spot.device spot.device_sector ≡ Some told → bytes ≡ told
HasGiven known spot (Ok done) None = ⊥
HasGiven known spot (Err why) (Some bytes) = ⊥
HasGiven known spot (Err why) None = Unit {0}

-- The read was made, and its device is out from then on where it failed. One that gave bytes left the
-- disk as it was, and one that failed was counted once, on its device alone: none is tried again.
pub record IsRead (spot : Spot) (given : Option (List ℕ)) (before after : Point) : Type 0 where
  pub result : Result (Unit {0}) Failed
  pub gave : HasGiven before.disk.reads spot result given
  pub well : OnOk result (after.disk ≡ before.disk)
  pub failed : OnErr result (FaultCounted (before.disk.faults spot.device) (after.disk.faults spot.device))
  pub once : OnErr result (FailedOnce before.disk.faults after.disk.faults spot.device)
  pub unchanged : Unchanged before.disk after.disk
  pub called : Called spot.device result before after

-- Of a device that is out nothing is read; else the read is made.
abbrev pub IsPassedOrRead : Spot → Option (List ℕ) → Point → Point → Type 0
IsPassedOrRead spot given before after =
    ((has_device before.out spot.device ≡ true) × (given ≡ None) × (after ≡ before))
    ⊎ IsRead spot given before after
