-- The blocks of a pool and its free sectors, and what keeps them in step.
use Rattle.std.specs.Prelude.{◌≡◌, ◌≢◌, ◌⊎◌, ℕ, ◌<◌, ◌≤◌, ◌^◌, true, nat_eq, ◌==◌, List, count_by, Some, AllPairs}
use Rattle.std.specs.Prelude.{Contains}
use Rattle.std.specs.Set.{is_member}
use Rattle.width_map.specs.declared.birth.Birth.{Birth}
use Rattle.width_map.specs.Births.{width_of_birth}
use Rattle.row_layout.specs.Layout.{Layout, allocated_of}
use Rattle.space_alloc.specs.Space.{Run, Space}
use Rattle.block_record.specs.declared.entry.IndexEntry.{IndexEntry}
use Rattle.block_record.specs.Page.{IsRightEntry}
use Rattle.block_table.specs.Table.{Table, entry_of}
use Rattle.core_state.specs.Index.{layout_of}
use Rattle.core_blocks.specs.declared.range.PutRange.{PutRange}
use Rattle.core_blocks.specs.Runs.{AreClear, AreSpread}

-- the parity and the widths that the layouts of blocks follow, the blocks, and the sectors in use
pub record Blocks : Type 0 where
  pub parity : ℕ
  pub births : List Birth
  pub table : Table
  pub space : Space

-- Layouts can be made of blocks of every birth: the parity and the widths have limits.
pub record HasLayouts (parity : ℕ) (births : List Birth) : Type 0 where
  pub some_lost : 1 ≤ parity
  pub few_lost : parity ≤ 3
  pub wide : (birth : ℕ) → parity < width_of_birth births birth
  pub narrow : (birth : ℕ) → width_of_birth births birth ≤ 64

-- the sectors of a layout
abbrev pub layout_run : Layout → Run
layout_run layout = record { start = layout.start; len = allocated_of layout }

-- the sectors that a block takes
abbrev pub run_of : ℕ → List Birth → IndexEntry → Run
run_of parity births entry = layout_run (layout_of parity births entry)

-- the sectors that a put has taken
abbrev pub put_run : PutRange → Run
put_run range = layout_run range.layout

-- the range of the put that ends with this entry
abbrev pub range_of : ℕ → List Birth → IndexEntry → PutRange
range_of parity births entry =
    record { id = entry.id; birth = entry.birth; layout = layout_of parity births entry }

-- The entry is the one that the table has with its id.
abbrev pub IsListed : List IndexEntry → IndexEntry → Type 0
IsListed entries entry = entry_of entries entry.id ≡ Some entry

-- The block's entry is right, and its sectors are a taken run.
pub record IsStanding (parity : ℕ) (births : List Birth) (space : Space) (entry : IndexEntry) :
    Type 0 where
  pub right : IsRightEntry entry
  pub start : entry.start < 2 ^ 54
  pub taken : Contains space.taken (run_of parity births entry)

-- The table and the space are in step: each block has its sectors, and no two have one in common.
pub record AreInStep (blocks : Blocks) : Type 0 where
  pub layouts : HasLayouts blocks.parity blocks.births
  pub small : blocks.space.capacity ≤ 2 ^ 54
  pub spread : AreSpread blocks.space
  pub each : (entry : IndexEntry) → IsListed blocks.table.entries entry
      → IsStanding blocks.parity blocks.births blocks.space entry
  pub apart : (one other : IndexEntry) → IsListed blocks.table.entries one
      → IsListed blocks.table.entries other → one.id ≢ other.id
      → AreClear (run_of blocks.parity blocks.births one) (run_of blocks.parity blocks.births other)

-- A put with this range began and hasn't ended: its id is reserved, and its sectors are a taken run
-- and no block's.
pub record IsUnderWay (blocks : Blocks) (range : PutRange) : Type 0 where
  pub reserved : is_member nat_eq blocks.table.reserved range.id ≡ true
  pub taken : Contains blocks.space.taken (put_run range)
  pub clear : (entry : IndexEntry) → IsListed blocks.table.entries entry
      → AreClear (put_run range) (run_of blocks.parity blocks.births entry)

-- The run is a block's.
abbrev pub IsOfBlock : Blocks → Run → Type 0
IsOfBlock blocks run =
    (entry : IndexEntry) × IsListed blocks.table.entries entry
    × (run_of blocks.parity blocks.births entry ≡ run)

-- The run is that of one of these puts.
abbrev pub IsOfPut : List PutRange → Run → Type 0
IsOfPut ranges run = (range : PutRange) × Contains ranges range × (put_run range ≡ run)

-- how often an id is reserved
abbrev pub times_reserved : Table → ℕ → ℕ
times_reserved table id = count_by (λ other. id == other) table.reserved

-- how many of the ranges are of puts of an id
abbrev pub puts_of : List PutRange → ℕ → ℕ
puts_of ranges id = count_by (λ range. id == range.id) ranges

-- These are the ranges of all puts under way: no two have a sector in common, each taken run is one
-- of them or a block's, and an id is reserved once for each of its puts.
pub record AreUnderWay (blocks : Blocks) (ranges : List PutRange) : Type 0 where
  pub each : (range : PutRange) → Contains ranges range → IsUnderWay blocks range
  pub apart : AllPairs (λ one other. AreClear (put_run one) (put_run other)) ranges
  pub every : (run : Run) → Contains blocks.space.taken run
      → IsOfBlock blocks run ⊎ IsOfPut ranges run
  pub reserved : (id : ℕ) → times_reserved blocks.table id ≡ puts_of ranges id
