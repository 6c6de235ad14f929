-- What a pool begins with, and what an opening keeps that was cut short.
use Rattle.std.specs.Prelude.{◌≡◌, ℕ, List, [], ◌∷◌, Contains, Some, ⊤}
use Rattle.bank_trait.specs.Disk.{Disk, Unchanged}
use Rattle.reflow_mark.specs.Reflow.{sectors_of}
use Rattle.block_record.specs.declared.entry.IndexEntry.{IndexEntry}
use Rattle.reconstruct.specs.Lost.{AreBytes}
use Rattle.uberblock_ring.specs.Devices.{IsWithin}
use Rattle.uberblock_ring.specs.Uberblock.{Uber}
use Rattle.core_state.specs.Keeps.{Kept, NoneExcepted, Setting}
use Rattle.core_blocks.specs.Blocks.{Blocks}
use Rattle.core_blocks.specs.Loading.{IsTakenBy}
use Rattle.core_open.specs.declared.why.OpenWhy.{OpenWhy}
use Rattle.core_open.specs.declared.why.OpenWhy.TheVariants as reason
pub use Rattle.core_open.specs.Opens.{CutsOpening}
use Rattle.core_open.specs.Opens.{IsWithinBelow, MayOpen, HasOpened}
use Rattle.core_open.specs.Pool.{Pool, HoldsMap, state_of}
use Rattle.core_open.specs.HoldsGroup.{HoldsGroup}

-- The blocks are those of an index, laid out and taken as its uberblock says.
pub record AreLoaded (uber : Uber) (entries : List IndexEntry) (blocks : Blocks) : Type 0 where
  pub parity : blocks.parity ≡ uber.parity
  pub births : blocks.births ≡ uber.births
  pub entries_are : blocks.table.entries ≡ entries
  pub space : IsTakenBy uber.parity uber.births (sectors_of uber.reflow) entries blocks.space

-- A pool may be opened where images keep these groups, whose maps hold bytes of which none may be wrong.
pub record MayBegin (setting : Setting) (first : Kept) (later : List Kept) (disk : Disk) : Type 0 where
  pub may : MayOpen setting first later disk
  pub excepted : NoneExcepted (first ∷ later)
  pub bytes : (kept : Kept) (id : ℕ) (content : List ℕ) → Contains (first ∷ later) kept
      → kept.map id ≡ Some content → AreBytes content

-- The pool was opened with a group that renews one of these, of which nothing may be wrong, and holds its map.
pub record OpensPool (setting : Setting) (first : Kept) (later : List Kept) (pool : Pool) (silent : ℕ)
    (old new : Disk) : Type 0 where
  pub opened : HasOpened setting first later pool.uber pool.blocks.table.entries silent old new
  pub group : HoldsGroup setting opened.next (state_of pool new)
  pub excepted : opened.next.excepted ≡ []
  pub holds : HoldsMap opened.next.excepted opened.next.map (state_of pool new)

-- So it is where the devices that were silent, and all that are out, may fail.
pub record IsBegunWith (pool : Pool) (silent : ℕ) (old new : Disk) : Type 0 where
  pub each : (setting : Setting) (first : Kept) (later : List Kept)
      → MayBegin setting first later old
      → IsWithinBelow first.uber.reflow.to silent setting.failed
      → IsWithin pool.out setting.failed → OpensPool setting first later pool silent old new

-- What is no pool, or has no more groups, is left as it was but for counts of faults.
abbrev pub LeavesUnopened : OpenWhy → Disk → Disk → Type 0
LeavesUnopened reason.NotPool old new = Unchanged old new
LeavesUnopened (reason.Limit group) old new = Unchanged old new
LeavesUnopened other old new = ⊤
