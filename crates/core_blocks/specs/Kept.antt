-- Blocks that no put may touch.
use Rattle.std.specs.Prelude.{◌⊎◌, ℕ, ◌<◌, List, Contains}
use Rattle.width_map.specs.declared.birth.Birth.{Birth}
use Rattle.space_alloc.specs.Space.{Run, HeldRun, Space, IsIn, IsTaken}
use Rattle.block_record.specs.declared.entry.IndexEntry.{IndexEntry}
use Rattle.core_blocks.specs.Runs.{AreClear}
use Rattle.core_blocks.specs.Blocks.{Blocks, run_of}

-- The sector is taken, or held back until a group after this one.
abbrev pub IsInUsePast : Space → ℕ → ℕ → Type 0
IsInUsePast space past sector =
    IsTaken space sector
    ⊎ ((held : HeldRun) × Contains space.held held × IsIn held.start held.len sector
    × (past < held.group))

-- None of these blocks has a free sector, nor will one be free once this group is answered.
pub record NoneFree (blocks : Blocks) (past : ℕ) (kept : List IndexEntry) : Type 0 where
  pub each : (entry : IndexEntry) (sector : ℕ) → Contains kept entry
      → (let run : Run = run_of blocks.parity blocks.births entry in IsIn run.start run.len sector)
      → IsInUsePast blocks.space past sector

-- None of these blocks has a sector of the run.
abbrev pub SparesAll : ℕ → List Birth → List IndexEntry → Run → Type 0
SparesAll parity births kept run =
    (entry : IndexEntry) → Contains kept entry → AreClear run (run_of parity births entry)
