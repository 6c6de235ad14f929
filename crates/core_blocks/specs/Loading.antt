-- What stands once an index is loaded.
use Rattle.std.specs.Prelude.{◌≡◌, ℕ, List, [], Contains}
use Rattle.width_map.specs.declared.birth.Birth.{Birth}
use Rattle.space_alloc.specs.Space.{Run, Space}
use Rattle.block_record.specs.declared.entry.IndexEntry.{IndexEntry}
use Rattle.block_table.specs.Table.{entry_of}
use Rattle.core_blocks.specs.Runs.{AreSpread}
use Rattle.core_blocks.specs.Blocks.{run_of}

-- A look-up finds the same in both.
abbrev pub FindSame : List IndexEntry → List IndexEntry → Type 0
FindSame entries others = (id : ℕ) → entry_of entries id ≡ entry_of others id

-- The taken runs are those of the entries, and nothing is held back.
pub record IsTakenBy (parity : ℕ) (births : List Birth) (capacity : ℕ) (entries : List IndexEntry)
    (space : Space) : Type 0 where
  pub size : space.capacity ≡ capacity
  pub held : space.held ≡ []
  pub spread : AreSpread space
  pub taken : (entry : IndexEntry) → Contains entries entry
      → Contains space.taken (run_of parity births entry)
  pub only : (run : Run) → Contains space.taken run
      → (entry : IndexEntry) × Contains entries entry × (run_of parity births entry ≡ run)
