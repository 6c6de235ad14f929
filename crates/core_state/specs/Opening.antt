-- What an opening writes once it has chosen, in order: copies of what it chose, syncs, the next group.
use Rattle.std.specs.Prelude.{◌≡◌, ◌≢◌, ◌↔◌, ℕ, ◌<◌, List, true, false}
use Rattle.bank_trait.specs.Disk.{Image}
use Rattle.block_record.specs.declared.entry.IndexEntry.{IndexEntry}
use Rattle.uberblock_ring.specs.Devices.{has_device}
use Rattle.uberblock_ring.specs.Uberblock.{Uber}
pub use Rattle.commit_job.specs.Stages.{spread_of}
use Rattle.core_state.specs.Shown.{Shape, IsCandidate}
use Rattle.core_state.specs.Choosing.{IsOutAtOpening}
use Rattle.core_state.specs.Keeps.{Kept}

-- what an opening read, the devices that were silent in it, and the group that it chose
pub record Found : Type 0 where
  pub shape : Shape
  pub silent : ℕ
  pub image : Image
  pub chosen : Kept

-- The set has exactly the devices that are out at opening.
abbrev pub AreOut : Found → ℕ → Type 0
AreOut found out = (device : ℕ) → has_device out device ≡ true
    ↔ IsOutAtOpening found.shape found.silent found.image found.chosen.uber device

-- The device shows no candidate of the chosen group.
abbrev pub ShowsNone : Found → ℕ → Type 0
ShowsNone found device = (uber : Uber) (entries : List IndexEntry)
    → IsCandidate found.shape found.silent found.chosen.uber.pool found.image device uber entries
    → uber.group ≢ found.chosen.uber.group

-- Of the devices in use, the set has exactly those that show no candidate of the chosen group.
abbrev pub LackUber : Found → ℕ → ℕ → Type 0
LackUber found out devices = (device : ℕ) → has_device devices device ≡ true
    ↔ ((device < found.chosen.uber.reflow.to) × (has_device out device ≡ false)
    × ShowsNone found device)
