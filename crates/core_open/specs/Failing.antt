-- Which devices failed in a call.
use Rattle.std.specs.Prelude.{◌≡◌, ◌⊎◌, ℕ, ◌<◌, true, false, ⊤}
use Rattle.bank_trait.specs.Causes.{FaultCounted}
use Rattle.bank_trait.specs.Disk.{Disk}
use Rattle.uberblock_ring.specs.Devices.{has_device, with_device}
use Rattle.core_state.specs.Shown.{read_devices}
use Rattle.core_open.specs.declared.stopped.Stopped.{Stopped}
use Rattle.core_open.specs.declared.stopped.Stopped.TheVariants.{Failed, NoMemory}
use Rattle.core_open.specs.declared.why.OpenWhy.{OpenWhy}
use Rattle.core_open.specs.declared.why.OpenWhy.TheVariants as why
use Rattle.core_open.specs.Holds.{shape_of}

-- A call failed on one device of the pool, and that device is named.
pub record HasFailed (width : ℕ) (old new : Disk) (given : OpenWhy) : Type 0 where
  pub device : ℕ
  pub below : device < width
  pub named : given ≡ why.TooManyFailed (with_device 0 device)
  pub rose : FaultCounted (old.faults device) (new.faults device)

-- A call failed on each device of the set, and each is one that is read.
abbrev pub HaveFailed : Disk → Disk → ℕ → Type 0
HaveFailed old new devices = (device : ℕ) → has_device devices device ≡ true
    → (device < read_devices (shape_of old)) × FaultCounted (old.faults device) (new.faults device)

-- The set is the same, or has this device too, on which a call failed.
abbrev pub MayLose : ℕ → Disk → Disk → ℕ → ℕ → Type 0
MayLose device old new before after =
    (after ≡ before)
    ⊎ ((after ≡ with_device before device) × FaultCounted (old.faults device) (new.faults device))

-- A read failed on a device outside the set, or memory was exhausted.
abbrev pub HasStopped : ℕ → Disk → Disk → Stopped → Type 0
HasStopped silent old new (Failed device) =
    (device < read_devices (shape_of old)) × (has_device silent device ≡ false)
    × FaultCounted (old.faults device) (new.faults device)
HasStopped silent old new NoMemory = ⊤

-- The same where a read of one device alone may have failed.
abbrev pub HasStoppedOn : ℕ → Disk → Disk → Stopped → Type 0
HasStoppedOn device old new (Failed other) =
    (other ≡ device) × FaultCounted (old.faults device) (new.faults device)
HasStoppedOn device old new NoMemory = ⊤

-- A call failed on each device of the set that was not in it before.
abbrev pub HaveFailedSince : Disk → Disk → ℕ → ℕ → Type 0
HaveFailedSince old new before after = (device : ℕ) → has_device after device ≡ true
    → (has_device before device ≡ true)
    ⊎ ((device < read_devices (shape_of old)) × FaultCounted (old.faults device) (new.faults device))
