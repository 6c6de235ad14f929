-- What stands between two turns, beside the calls that are under way.
use Rattle.std.specs.Prelude.{◌≡◌, ◌≢◌, ◌⊎◌, ℕ, ◌≤◌, ◌<◌, List, [], ◌∷◌, Option, Some, None, AllPairs, Contains, ⊤}
use Rattle.std.specs.List.{filter_map}
use Rattle.bank_trait.specs.Disk.{Later}
use Rattle.bank_trait.specs.Regions.{Tells, TouchesOnly}
use Rattle.range_locks.specs.declared.hold.Hold.{Hold}
use Rattle.block_record.specs.declared.entry.IndexEntry.{IndexEntry}
use Rattle.uberblock_ring.specs.Devices.{count_of}
use Rattle.uberblock_ring.specs.Valid.{AreAlike}
use Rattle.core_state.specs.Map.{Map}
use Rattle.core_state.specs.Index.{KeptBlock, layout_of}
use Rattle.core_state.specs.Keeps.{Kept, Setting, blocks_of}
use Rattle.core_state.specs.Certain.{Knows}
use Rattle.core_blocks.specs.declared.range.PutRange.{PutRange}
use Rattle.core_blocks.specs.Blocks.{AreUnderWay, IsListed, put_run}
use Rattle.core_blocks.specs.Kept.{NoneFree, SparesAll}
use Rattle.core_state.specs.Outs.{OnlyFailedGoOut}
use Rattle.core_client.specs.Pool.{IsInPool}
use Rattle.core_state.specs.Committing.{point_of}
use Rattle.core_commit.specs.declared.commit_run.Stage.{Stage}
use Rattle.core_commit.specs.declared.commit_run.Stage.TheVariants.{Lays, Signs}
use Rattle.core_commit.specs.CommitTurns.{CommitRun, IsCommitting}
use Rattle.core_commit.specs.Spared.{IsOnInUse}
use Rattle.core_open.specs.Holds.{shape_of}
use Rattle.core_open.specs.Pool.{HoldsMap}
use Rattle.core_turns.specs.declared.block_scrub.BlockScrub.{BlockScrub}
use Rattle.core_turns.specs.declared.copying.CopyRun.{CopyRun}
use Rattle.core_turns.specs.declared.getting.GetRun.{GetRun}
use Rattle.core_turns.specs.declared.putting.PutRun.{PutRun}
use Rattle.core_turns.specs.Core.{Core, CoreState, pool_at, HasBankOf}
use Rattle.core_turns.specs.Getting.{IsReadKind, IsGetOf, HoldsGet}
use Rattle.core_turns.specs.Putting.{IsPutOf, HoldsPut}
use Rattle.core_turns.specs.Committing.{IsCommitOf}
use Rattle.core_turns.specs.Copying.{CopiesCells, IsJobOf}
use Rattle.core_turns.specs.Damage.{Damage, IsDamage, ListsDamage}
use Rattle.core_turns.specs.Scrubbing.{HoldsScrub, IsScrubOf}

-- a call under way that holds sectors
pub data HoldingCall : Type 0 where
  Putting : (run : PutRun) → HoldingCall
  Reading : (run : GetRun) → HoldingCall
  Scrubbing : (run : BlockScrub) → HoldingCall
  Copying : (run : CopyRun) → HoldingCall

abbrev pub hold_of_call : HoldingCall → Hold
hold_of_call (Putting run) = run.hold
hold_of_call (Reading run) = run.hold
hold_of_call (Scrubbing run) = run.read.hold
hold_of_call (Copying run) = run.hold

-- whose call it is
abbrev pub actor_of : HoldingCall → ℕ
actor_of call = (hold_of_call call).actor

-- the range of a put
abbrev pub range_in : HoldingCall → Option PutRange
range_in (Putting run) = Some run.range
range_in (Reading run) = None
range_in (Scrubbing run) = None
range_in (Copying run) = None

abbrev pub ranges_of : List HoldingCall → List PutRange
ranges_of calls = filter_map range_in calls

-- The call is one of this core.
abbrev pub IsCallOfCore : Core → HoldingCall → Type 0
IsCallOfCore core (Putting run) = IsPutOf core run
IsCallOfCore core (Reading run) = IsReadKind run.kind × IsGetOf core run
IsCallOfCore core (Scrubbing run) = IsScrubOf core run
IsCallOfCore core (Copying run) = IsJobOf core run

-- What a call has written or read so far is its block's, of these bytes: those that a put is handed, those that a read
-- is to find. A job has copied the cells that are right as far as it has come.
abbrev pub HoldsCall : Damage → CoreState → List ℕ → HoldingCall → Type 0
HoldsCall damage state content (Putting run) = HoldsPut content state run
HoldsCall damage state content (Reading run) = HoldsGet damage.listed content state run
HoldsCall damage state content (Scrubbing run) = HoldsScrub damage content state run
HoldsCall damage state content (Copying run) = CopiesCells state.core.pool.uber.reflow state.core.pool.done run.job
    (point_of state.core.pool.out state.disk)

-- The bytes of one actor's block are these now, and the others' are what they were.
pub record SetsContent (old new : ℕ → List ℕ) (actor : ℕ) (content : List ℕ) : Type 0 where
  pub own : new actor ≡ content
  pub others : (other : ℕ) → other ≢ actor → new other ≡ old other

-- No sector is in both holds.
abbrev pub ShareNoSector : Hold → Hold → Type 0
ShareNoSector one other = (sector : ℕ) → (one.lo ≤ sector) × (sector < one.hi)
    → (other.lo ≤ sector) × (sector < other.hi) → ⊥

-- The call goes on beside others on the same sectors.
abbrev pub IsReader : HoldingCall → Type 0
IsReader (Putting run) = ⊥
IsReader (Reading run) = ⊤
IsReader (Scrubbing run) = ⊤
IsReader (Copying run) = ⊥

-- Both calls go on beside others, or they hold no sector in common.
abbrev pub HaveNoneInCommon : HoldingCall → HoldingCall → Type 0
HaveNoneInCommon one other =
    (IsReader one × IsReader other) ⊎ ShareNoSector (hold_of_call one) (hold_of_call other)

-- Two calls are of two actors.
pub record AreBeside (one other : HoldingCall) : Type 0 where
  pub actors : actor_of one ≢ actor_of other
  pub apart : HaveNoneInCommon one other

-- The calls under way that hold sectors are these: each is one of this core, the puts among them have all ranges that
-- are taken and no block's, and they are beside each other.
pub record AreCallsOf (core : Core) (calls : List HoldingCall) : Type 0 where
  pub each : (call : HoldingCall) → Contains calls call → IsCallOfCore core call
  pub under : AreUnderWay core.pool.blocks (ranges_of calls)
  pub beside : AllPairs AreBeside calls

-- the block that a call reads
abbrev pub entry_read : HoldingCall → Option IndexEntry
entry_read (Putting run) = None
entry_read (Reading run) = Some run.entry
entry_read (Scrubbing run) = Some run.read.entry
entry_read (Copying run) = None

-- A call reads this block, of its actor's bytes.
pub record IsReadBy (contents : ℕ → List ℕ) (calls : List HoldingCall) (block : KeptBlock) : Type 0 where
  pub call : HoldingCall
  pub listed : Contains calls call
  pub entry_is : entry_read call ≡ Some block.entry
  pub content_is : contents (actor_of call) ≡ block.content

-- What calls read of a block that stands in the table still is what the map has.
abbrev pub AreReadOfMap : List IndexEntry → Map → (ℕ → List ℕ) → List HoldingCall → Type 0
AreReadOfMap entries map contents calls = (block : KeptBlock) → IsReadBy contents calls block
    → IsListed entries block.entry → map block.entry.id ≡ Some block.content

-- No put has a sector of these blocks.
abbrev pub PutsSpare : CoreState → List HoldingCall → Kept → Type 0
PutsSpare state calls kept = (run : PutRun) → Contains calls (Putting run)
    → SparesAll state.core.pool.blocks.parity state.core.pool.blocks.births (blocks_of kept) (put_run run.range)

-- The group's blocks were born by then, and lie in the pool as it is.
pub record LiesInPool (core : Core) (kept : Kept) : Type 0 where
  pub born : (entry : IndexEntry) → Contains (blocks_of kept) entry → entry.birth ≤ core.begun
  pub inside : (entry : IndexEntry) → Contains (blocks_of kept) entry
      → IsInPool (layout_of core.pool.uber.parity core.pool.uber.births entry) core.pool.uber.reflow

-- The group after the last answered one is under way: it has come so far, and no sector of its blocks is free or a
-- put's.
pub record CommitStands (setting : Setting) (last : Kept) (begun : List Kept) (calls : List HoldingCall)
    (run : CommitRun) (state : CoreState) : Type 0 where
  pub next : Kept
  pub begun_is : begun ≡ next ∷ []
  pub of : IsCommitOf state.core run
  pub come : IsCommitting setting last next run (point_of state.core.pool.out state.disk)
  pub lies : LiesInPool state.core next
  pub kept : NoneFree state.core.pool.blocks state.core.begun (blocks_of next)
  pub spared : PutsSpare state calls next

-- No commit is under way. One that was cut short was so because too many devices are out, and images may show
-- its group.
pub record NoCommitStands (setting : Setting) (last : Kept) (begun : List Kept) (state : CoreState) : Type 0 where
  pub knows : Knows setting last begun state.disk
  pub whole : count_of state.core.pool.out ≤ state.core.pool.uber.parity
      → (begun ≡ []) × (state.core.committing ≡ None)

abbrev pub GroupsStand : Setting → Kept → List Kept → List HoldingCall → Option CommitRun → CoreState → Type 0
GroupsStand setting last begun calls None state = NoCommitStands setting last begun state
GroupsStand setting last begun calls (Some run) state = CommitStands setting last begun calls run state

-- what images can show of the groups that were begun, by the half in which their commit is: none in the first one
abbrev pub shown_in : List Kept → Stage → List Kept
shown_in begun Lays = []
shown_in begun Signs = begun

abbrev pub shown_of : List Kept → Option CommitRun → List Kept
shown_of begun None = begun
shown_of begun (Some run) = shown_in begun run.stage

-- Between two turns: the last answered group is certain on the devices, and what is known of one that was begun
-- after it; the map is held; each call under way goes on as it should, with the bytes of its actor's block. No sector
-- of the last group's blocks is free or a put's. What may be wrong is listed, of each group too.
pub record Stands (setting : Setting) (last : Kept) (begun : List Kept) (map : Map) (damage : Damage)
    (contents : ℕ → List ℕ) (calls : List HoldingCall) (commit : Option CommitRun) (state : CoreState) : Type 0 where
  pub groups : GroupsStand setting last begun calls commit state
  pub alike : AreAlike state.core.pool.uber last.uber
  pub kept : NoneFree state.core.pool.blocks state.core.pool.uber.group (blocks_of last)
  pub spared : PutsSpare state calls last
  pub reads : AreReadOfMap state.core.pool.blocks.table.entries map contents calls
  pub damage_is : IsDamage damage
  pub lists : (kept : Kept) → Contains (last ∷ begun) kept → ListsDamage damage kept
  pub shape : setting.shape ≡ shape_of state.disk
  pub tells : Tells state.disk
  pub bank : HasBankOf state.core state.disk
  pub holds : HoldsMap damage.left map (pool_at state)
  pub each : (call : HoldingCall) → Contains calls call → HoldsCall damage state (contents (actor_of call)) call

-- What each turn does: the bank goes on, devices go out where they failed, and none is touched but those of the
-- pool that were in use. The pool reaches to as many devices as before, and has as many data rows.
pub record TurnGoesOn (before after : CoreState) : Type 0 where
  pub parity : after.core.pool.uber.parity ≡ before.core.pool.uber.parity
  pub reach : after.core.reach ≡ before.core.reach
  pub rows : after.core.pool.uber.reflow.rows ≡ before.core.pool.uber.reflow.rows
  pub later : Later before.disk after.disk
  pub out : OnlyFailedGoOut (point_of before.core.pool.out before.disk)
      (point_of after.core.pool.out after.disk)
  pub only : TouchesOnly (IsOnInUse before.core.reach before.core.pool.out) before.disk after.disk
