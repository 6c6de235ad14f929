-- Which devices go out in a run of calls.
use Rattle.std.specs.Prelude.{◌≡◌, ℕ, true, false}
use Rattle.bank_trait.specs.Causes.{FaultCounted}
use Rattle.uberblock_ring.specs.Devices.{has_device, IsWithin}
use Rattle.core_state.specs.Committing.{Point}

-- A device goes out only where a call on it failed, and none comes back.
pub record OnlyFailedGoOut (before after : Point) : Type 0 where
  pub still : IsWithin before.out after.out
  pub failed : (device : ℕ) → has_device before.out device ≡ false
      → has_device after.out device ≡ true
      → FaultCounted (before.disk.faults device) (after.disk.faults device)
