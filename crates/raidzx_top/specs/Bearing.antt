-- Which devices may be assumed to fail once some have failed in a run.
use Rattle.std.specs.Prelude.{ℕ, ◌≤◌}
use Rattle.bank_trait.specs.Disk.{Image, Disk}
use Rattle.uberblock_ring.specs.Devices.{count_below, IsWithin}
use Rattle.core_state.specs.Collision.{MightStand}
use Rattle.core_state.specs.Keeps.{Kept, Setting, IsNotOutvoted}
use Rattle.core_open.specs.Opens.{IsWithinBelow}

-- the same bank and pool, with these devices as those that may fail
abbrev pub setting_with : Setting → ℕ → Setting
setting_with setting failed = record setting { failed = failed }

-- Beside the devices that could fail before, these have to be borne now, and those of the first group that were silent.
-- Together they are among some that are no more than there are parities; and with these failed the devices that are
-- left of the pool outvote each other pool.
pub record CanBear (setting : Setting) (first : Kept) (disk : Disk) (silent borne failed : ℕ) : Type 0 where
  pub earlier : IsWithin setting.failed failed
  pub now : IsWithin borne failed
  pub missed : IsWithinBelow first.uber.reflow.to silent failed
  pub few : count_below failed 16 ≤ first.uber.parity
  pub votes : (image : Image) → MightStand setting.shape disk disk.clock image
      → IsNotOutvoted (setting_with setting failed) image
