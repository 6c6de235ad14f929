-- Blocks under a scrub, turn by turn.
use Rattle.std.specs.Prelude.{◌≡◌, ◌⊎◌, ◌<◌, ℕ, ◌+◌, Bool, true, false, not, ◌&&◌, nat_le, nat_lt, List, length, filter}
use Rattle.std.specs.Prelude.{Some, None, slice_get, Contains, ⊤}
use Rattle.range_locks.specs.Holds.{EndsHold}
use Rattle.row_layout.specs.Layout.{Layout, allocated_of, rows_of, sector_of}
use Rattle.shadow_write.specs.declared.write.Write.{Write}
use Rattle.core_state.specs.declared.answer.Kind.TheVariants as kind
use Rattle.core_state.specs.Committing.{point_of}
use Rattle.core_state.specs.Whole.{Excepted}
use Rattle.core_blocks.specs.Blocks.{IsListed}
use Rattle.core_turns.specs.declared.block_scrub.BlockScrub.{BlockScrub}
use Rattle.core_turns.specs.declared.block_scrub.BlockStage.{BlockStage}
use Rattle.core_turns.specs.declared.block_scrub.BlockStage.TheVariants.{Reads, Finds, Looks, Mends, Leaves}
use Rattle.core_turns.specs.declared.filling.Filled.{Filled}
use Rattle.core_turns.specs.declared.putting.PutRun.{PutRun}
use Rattle.core_turns.specs.declared.solving.Solved.{Solved}
use Rattle.core_turns.specs.declared.solving.Solved.TheVariants.{Bytes, Damaged}
use Rattle.core_turns.specs.declared.turn.Turn.{Turn}
use Rattle.core_turns.specs.declared.turn.Turn.TheVariants.{More, Busy, Done}
use Rattle.core_turns.specs.Core.{Core, CoreState}
use Rattle.core_turns.specs.Damage.{Damage}
use Rattle.core_turns.specs.Getting.{BeginsGet, HasTooManyOut, HoldsGet, IsGetOf, ReadsTurn, SolvesGet}
use Rattle.core_turns.specs.Putting.{ChecksNext, FillsPut, HoldsPut, IsPutOf, WritesOne, mend_at}

-- The block is one of this pool, under the scrub that is under way, which holds its sectors.
pub record IsScrubOf (core : Core) (run : BlockScrub) : Type 0 where
  pub read : IsGetOf core run.read
  pub mend : IsPutOf core run.mend
  pub under_way : core.scrubbing ≡ Some run.read.hold.actor
  pub kind : run.read.kind ≡ kind.Sum
  pub hold : run.mend.hold ≡ run.read.hold
  pub layout : run.mend.range.layout ≡ run.read.read.layout
  pub len : run.mend.len ≡ run.read.entry.len

-- what the first turn at the block of an id comes to: that of a sum
abbrev pub BeginsBlock : Core → Core → ℕ → ℕ → Turn BlockScrub → Type 0
BeginsBlock old new actor id (More run) = BeginsGet old new actor kind.Sum id (More run.read)
    × (run.mend ≡ mend_at run.read old.pool.uber.reflow old.pool.done) × (run.differs ≡ false) × IsScrubOf new run
BeginsBlock old new actor id (Busy by) = BeginsGet old new actor kind.Sum id (Busy by)
BeginsBlock old new actor id (Done given) = BeginsGet old new actor kind.Sum id (Done given)

-- what a turn that reads a column comes to
abbrev pub ReadsBlock : CoreState → BlockScrub → CoreState → Turn BlockScrub → Type 0
ReadsBlock before run after (More next) =
    (next ≡ record run { read = next.read }) × ReadsTurn before run.read after (More next.read)
ReadsBlock before run after (Busy by) = ⊥
ReadsBlock before run after (Done given) = ReadsTurn before run.read after (Done given)

-- Where the block's bytes were found they are made up for its places.
abbrev pub FillsMend : PutRun → PutRun → Solved → Type 0
FillsMend old new (Bytes bytes) = FillsPut old new bytes
FillsMend old new other = new ≡ old

-- The block was solved from what was read.
pub record FindsBlock (old new : BlockScrub) : Type 0 where
  pub rest : new ≡ record old { read = new.read; mend = new.mend }
  pub solved : SolvesGet old.read new.read
  pub fills : FillsMend old.mend new.mend new.read.solved

-- The next place of a block that stands was looked at.
pub record LooksOne (before : CoreState) (run : BlockScrub) (after : CoreState) (next : BlockScrub) : Type 0 where
  pub few : HasTooManyOut before.core → ⊥
  pub stands : IsListed before.core.pool.blocks.table.entries run.read.entry
  pub otherwise : Bool
  pub checks : ChecksNext run.mend (point_of before.core.pool.out before.disk) otherwise next.mend
      (point_of after.core.pool.out after.disk)
  pub next_is : next ≡ record run { mend = next.mend; differs = next.differs }
  pub differs : next.differs ≡ otherwise
  pub rest : after.core ≡ record before.core { pool = record before.core.pool { out = after.core.pool.out } }

-- The block is left: its hold has ended.
pub record LeavesBlock (old new : Core) (run : BlockScrub) : Type 0 where
  pub rest : new ≡ record old { holds = new.holds }
  pub ends : EndsHold old.holds new.holds run.read.hold

-- It is left because it stands no longer.
pub record DropsBlock (before : CoreState) (run : BlockScrub) (after : CoreState) : Type 0 where
  pub gone : IsListed before.core.pool.blocks.table.entries run.read.entry → ⊥
  pub leaves : LeavesBlock before.core after.core run
  pub disk : after.disk ≡ before.disk

-- It was left, or stands and nothing has changed.
abbrev pub DropsOrStands : Core → Core → BlockScrub → Bool → Type 0
DropsOrStands old new run true =
    (IsListed old.pool.blocks.table.entries run.read.entry → ⊥) × LeavesBlock old new run
DropsOrStands old new run false = IsListed old.pool.blocks.table.entries run.read.entry × (new ≡ old)

-- what a turn that looks at a place comes to, by whether the block was left
abbrev pub LooksTurn : CoreState → BlockScrub → CoreState → BlockScrub → Bool → Type 0
LooksTurn before run after next true = DropsBlock before run after
LooksTurn before run after next false = LooksOne before run after next

-- The next place of a block that stands was written anew.
pub record MendsOne (before : CoreState) (run : BlockScrub) (after : CoreState) (next : BlockScrub) : Type 0 where
  pub stands : IsListed before.core.pool.blocks.table.entries run.read.entry
  pub next_is : next ≡ record run { mend = next.mend; differs = false }
  pub writes : WritesOne before run.mend after next.mend

-- what a turn that mends a place comes to, by whether the block was left
abbrev pub MendsTurn : CoreState → BlockScrub → CoreState → BlockScrub → Bool → Type 0
MendsTurn before run after next true = DropsBlock before run after
MendsTurn before run after next false = MendsOne before run after next

-- Where the next place of a block reads otherwise it is listed as one that may be wrong.
abbrev pub MayMend : Excepted → BlockScrub → Type 0
MayMend left run = run.differs ≡ true → (filled : Filled) → run.mend.filled ≡ Some filled → (write : Write)
    → slice_get filled.write.writes filled.write.next ≡ Some write → Contains left (
      sector_of run.mend.range.layout write.row write.column,
      (write.device, write.device_sector),
    )

-- A block under a scrub is one of these bytes: it is read as such, and the places that were gone over hold it.
pub record HoldsScrub (damage : Damage) (content : List ℕ) (state : CoreState) (run : BlockScrub) : Type 0 where
  pub read : HoldsGet damage.listed content state run.read
  pub mend : HoldsPut content state run.mend
  pub listed : MayMend damage.left run

-- All places of the block were gone over.
abbrev pub IsGoneOver : BlockScrub → Type 0
IsGoneOver run =
    (filled : Filled) × (run.mend.filled ≡ Some filled) × (filled.write.next ≡ length filled.write.writes)

-- A place of it is left.
abbrev pub HasPlaceLeft : BlockScrub → Type 0
HasPlaceLeft run =
    (filled : Filled) × (run.mend.filled ≡ Some filled) × (filled.write.next < length filled.write.writes)

-- Where a block is: columns of it are left to read, or it is to be found from them; its next place is to be looked at,
-- or to be mended; or nothing of it is left, or it is damaged.
abbrev pub IsAtStage : BlockScrub → BlockStage → Type 0
IsAtStage run Reads = run.read.read.row < rows_of run.read.read.layout
IsAtStage run Finds = (run.read.read.row ≡ rows_of run.read.read.layout) × (run.mend.filled ≡ None)
IsAtStage run Looks = HasPlaceLeft run × (run.differs ≡ false)
IsAtStage run Mends = HasPlaceLeft run × (run.differs ≡ true)
IsAtStage run Leaves = IsGoneOver run ⊎ ((run.mend.filled ≡ None) × (run.read.solved ≡ Damaged))

-- whether a block takes the sector
abbrev pub has_sector : Layout → ℕ → Bool
has_sector layout sector = nat_le layout.start sector && nat_lt sector (layout.start + allocated_of layout)

-- what may be wrong still once a block of this layout was gone over
abbrev pub mended_of : Layout → Excepted → Excepted
mended_of layout left = filter (λ what. not (has_sector layout what.0)) left

-- A block that goes on is one of this pool still.
abbrev pub IsMoreScrub : Core → Turn BlockScrub → Type 0
IsMoreScrub core (More run) = IsScrubOf core run
IsMoreScrub core other = ⊤
