-- A new pool is kept by the bank on which it was created.
use Rattle.std.proofs.Common.{ℕ, ◌≤◌, [], ◌<◌}
use Rattle.bank_trait.specs.Disk.{Image, Disk}
use Rattle.uberblock_ring.specs.Uberblock.{Uber, first_uber}
use Rattle.uberblock_ring.specs.Devices.{count_below}
use Rattle.core_state.specs.Shown.{Shows}
use Rattle.core_state.specs.Keeps.{Setting, HasDevices}
use Rattle.core_state.specs.Collision.{MightStand, BankKeeps}
use Rattle.core_state.specs.Create.{IsCreated, new_ring, rows_for, first_kept}
use Rattle.core_state.proofs.Fresh.{IsSized, fresh_keeps}

-- Where no device beside the pool's shows an uberblock, the bank keeps the pool's first group.
pub created_keeps : (setting : Setting) (parity width : ℕ) (disk : Disk)
    → IsSized setting.shape setting.pool parity width → parity < setting.base → setting.base ≤ width → width ≤ setting.reach
    → HasDevices setting → count_below setting.failed 16 ≤ parity
    → IsCreated (first_uber setting.pool parity width (rows_for setting.shape.sectors)) disk
    → ((image : Image) (device : ℕ) (uber : Uber) → width ≤ device
    → MightStand setting.shape disk disk.clock image → Shows setting.shape image device uber → ⊥)
    → BankKeeps setting (first_kept setting.pool parity width setting.shape.sectors) [] disk
created_keeps setting parity width disk sized wide least most inside few created others image might =
    fresh_keeps setting parity width image sized wide least most inside few
    (record {
      ring = λ device slot below low.
          might.fits.at device slot (new_ring uber device slot) (created.ring device slot below low);
      others = λ device other above shows. others image device other above might shows;
    })
  where
    uber : Uber
    uber = first_uber setting.pool parity width (rows_for setting.shape.sectors)
