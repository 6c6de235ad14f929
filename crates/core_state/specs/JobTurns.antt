-- When a job of the reflow may begin, and what it has copied.
use Rattle.std.specs.Prelude.{◌≡◌, ℕ, ◌+◌, ◌<◌, ◌≤◌, Some, Contains, false}
use Rattle.bank_trait.specs.Disk.{Disk}
use Rattle.width_map.specs.Place.{limit_of}
use Rattle.reflow_mark.specs.declared.reflow.State.TheVariants.{None, Valid, Moved}
use Rattle.reflow_mark.specs.declared.reflow.Reflow.{Reflow}
use Rattle.reflow_mark.specs.Reflow.{Expands, sectors_of}
use Rattle.reflow_copier.specs.declared.job.Job.{Job}
use Rattle.reflow_copier.specs.declared.job.Job.TheVariants.{Fill, Drain, Chunk}
use Rattle.reflow_copier.specs.Jobs.{Spot}
use Rattle.uberblock_ring.specs.Devices.{has_device}
use Rattle.core_state.specs.Whole.{Excepted, Cell}

-- A job begins only where it may.
abbrev pub MayRun : Reflow → ℕ → Job → Type 0
MayRun reflow done Fill = (reflow.state ≡ None) × Expands reflow × (done ≡ 0)
MayRun reflow done Drain = (reflow.state ≡ Valid) × (done ≡ 0)
MayRun reflow done (Chunk lo hi) = (reflow.state ≡ Moved) × (lo ≡ done) × (lo < hi)
    × (hi ≤ limit_of reflow.from reflow.mark) × (hi ≤ sectors_of reflow)

-- A cell is right at the place to which a job copies it.
pub record IsCopied (excepted : Excepted) (disk : Disk) (out : ℕ) (spot : Spot) (cell : Cell) : Type 0 where
  pub there : has_device out spot.1.device ≡ false
      → (Contains excepted (cell.sector, (spot.1.device, spot.0 + spot.1.row)) → ⊥)
      → disk.reads spot.1.device (spot.0 + spot.1.row) ≡ Some cell.bytes
