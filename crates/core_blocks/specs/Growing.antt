-- Blocks of a pool that has one device more.
use Rattle.std.specs.Prelude.{ℕ, ◌+◌, ◌^◌, ◌<◌, ◌≤◌, length}
use Rattle.width_map.specs.Births.{births_after, last_width}
use Rattle.block_record.specs.declared.entry.IndexEntry.{IndexEntry}
use Rattle.core_blocks.specs.Blocks.{Blocks, IsListed}

-- the blocks once an expansion has ended in a group: those born two groups later are one device wider, and the pool
-- has so many sectors
abbrev pub grown_by : Blocks → ℕ → ℕ → Blocks
grown_by blocks group capacity = record blocks {
  births = births_after blocks.births group;
  space = record blocks.space { capacity = capacity };
}

-- What `grow` asks of blocks, for this group and so many sectors.
pub record MayGrow (blocks : Blocks) (group capacity : ℕ) : Type 0 where
  pub room : length blocks.births < 16
  pub wide : blocks.parity ≤ last_width blocks.births
  pub narrow : last_width blocks.births < 16
  pub larger : blocks.space.capacity ≤ capacity
  pub small : capacity ≤ 2 ^ 54
  pub born : (entry : IndexEntry) → IsListed blocks.table.entries entry → entry.birth < group + 2
