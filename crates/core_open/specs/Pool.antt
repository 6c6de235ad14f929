-- An open pool, the bank under it, and when it holds a map.
use Rattle.std.specs.Prelude.{◌≡◌, ℕ, ◌+◌, ◌^◌, ◌<◌, ◌≤◌, List, Some}
use Rattle.bank_trait.specs.Disk.{Disk, Known}
use Rattle.reflow_mark.specs.Reflow.{sectors_of}
use Rattle.shadow_write.specs.Band.{IsFrontOf}
use Rattle.block_record.specs.declared.entry.IndexEntry.{IndexEntry}
use Rattle.reconstruct.specs.Lost.{AreBytes}
use Rattle.uberblock_ring.specs.Devices.{IsWithin}
use Rattle.uberblock_ring.specs.Uberblock.{Uber}
use Rattle.uberblock_ring.specs.Valid.{IsRightUber}
use Rattle.core_state.specs.Map.{Map}
use Rattle.core_state.specs.Index.{layout_of, IsEntryOf}
use Rattle.block_table.specs.Table.{entry_of}
use Rattle.core_blocks.specs.Blocks.{Blocks, IsListed}
use Rattle.core_state.specs.Whole.{Excepted}
use Rattle.core_client.specs.Pool.{IsRightBlock}
use Rattle.core_state.specs.declared.item.Group.{Group as GroupItem}
pub use Rattle.core_open.specs.Opens.{HasBank}

-- the last answered group's uberblock, the blocks, the devices that are out, and the front: how far a copy to the new
-- width has come since
pub record Pool : Type 0 where
  pub uber : Uber
  pub blocks : Blocks
  pub out : ℕ
  pub done : ℕ

abbrev pub pool_of : Uber → Blocks → ℕ → ℕ → Pool
pool_of uber blocks out done = record { uber = uber; blocks = blocks; out = out; done = done }

-- the item with which a journal begins: the group that a pool was opened with
abbrev pub first_item : Pool → GroupItem
first_item pool = record {
  group = pool.uber.group;
  after = 0;
  from = pool.uber.reflow.from;
  to = pool.uber.reflow.to;
}

-- the open group: the one after the last answered
abbrev pub open_group : Pool → ℕ
open_group pool = pool.uber.group + 1

-- Uberblock and blocks belong together, the front is where it may be, and the devices that the group lists are out.
pub record IsPool (pool : Pool) : Type 0 where
  pub right : IsRightUber pool.uber
  pub parity : pool.blocks.parity ≡ pool.uber.parity
  pub births : pool.blocks.births ≡ pool.uber.births
  pub capacity : pool.blocks.space.capacity ≡ sectors_of pool.uber.reflow
  pub born : (entry : IndexEntry) → IsListed pool.blocks.table.entries entry
      → entry.birth ≤ open_group pool
  pub front : IsFrontOf pool.uber.reflow pool.done
  pub lists : IsWithin pool.uber.out pool.out

-- A pool of which no call is under way: the devices that are out are its own.
pub record IsPoolAtRest (pool : Pool) : Type 0 where
  pub is : IsPool pool
  pub below : pool.out < 2 ^ pool.uber.reflow.to

-- an open pool and what its devices hold
pub record State : Type 0 where
  pub pool : Pool
  pub disk : Disk

abbrev pub state_of : Pool → Disk → State
state_of pool disk = record { pool = pool; disk = disk }

-- The table lists the ids of the map, each with the length and the digest of its bytes.
pub record IsTableOf (entries : List IndexEntry) (map : Map) : Type 0 where
  pub listed : (entry : IndexEntry) → IsListed entries entry
      → (content : List ℕ) × (map entry.id ≡ Some content) × IsEntryOf entry content
  pub every : (id : ℕ) (content : List ℕ) → map id ≡ Some content
      → (entry : IndexEntry) × (entry_of entries id ≡ Some entry)

-- The block of an entry has this content, and is read so wherever it has to be right at this front, but for what may be
-- wrong.
abbrev pub ReadsAs : Uber → ℕ → IndexEntry → List ℕ → Known → ℕ → Excepted → Type 0
ReadsAs uber done entry content known out wrong = IsRightBlock (layout_of uber.parity uber.births entry) content
    uber.reflow done known out wrong

-- Each block of the map is bytes, stands in the table, and is read at each place where it has to be right, on each
-- device that isn't out, but for what may be wrong.
pub record HoldsMap (wrong : Excepted) (map : Map) (state : State) : Type 0 where
  pub table : IsTableOf state.pool.blocks.table.entries map
  pub bytes : (id : ℕ) (content : List ℕ) → map id ≡ Some content → AreBytes content
  pub right : (entry : IndexEntry) (content : List ℕ)
      → IsListed state.pool.blocks.table.entries entry → map entry.id ≡ Some content
      → ReadsAs state.pool.uber state.pool.done entry content state.disk.reads state.pool.out wrong
