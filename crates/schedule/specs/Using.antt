-- What calls that take turns have used of a pool's space since its opening, and why one found none.
use Rattle.std.specs.Prelude.{◌≡◌, ℕ, ◌+◌, ◌≤◌, List, [], length, drop, map, flat_map, sum, Some, slice_get, Contains}
use Rattle.std.specs.Prelude.{false}
use Rattle.width_map.specs.Births.{first_width, NoneAbove}
use Rattle.range_locks.specs.declared.hold.Hold.{Hold}
use Rattle.range_locks.specs.declared.hold.HoldKind.TheVariants.{Shared}
use Rattle.space_alloc.specs.Space.{Run, HeldRun}
use Rattle.block_record.specs.declared.entry.IndexEntry.{IndexEntry}
use Rattle.uberblock_ring.specs.Uberblock.{Uber}
use Rattle.uberblock_ring.specs.Valid.{IsRightUber}
use Rattle.core_state.specs.declared.item.Item.{Item}
use Rattle.core_blocks.specs.Runs.{held_sectors}
use Rattle.core_blocks.specs.Usage.{sectors_in}
use Rattle.client_script.specs.declared.call.ScriptCall.{ScriptCall}
use Rattle.client_script.specs.Lines.{fill_bytes}
use Rattle.client_script.specs.Script.{Placed, Script, calls_of}
use Rattle.core_turns.specs.Core.{Core}
use Rattle.journal_law.specs.NoSpace.{births_told, has_ended, length_put, lengths_of, largest_size, width_told}
use Rattle.journal_law.specs.NoSpace.{NoSpaceIsCaused}
use Rattle.schedule.specs.declared.client.Client.{Client}
use Rattle.schedule.specs.Numbered.{IsNumbered}

-- ---- the calls that are left

-- those of one client among some calls, in order
abbrev pub calls_among : List Placed → ℕ → List ScriptCall
calls_among calls actor = calls_of (record { clients = 0; calls = calls; order = [] }) actor

-- These calls of the script are left: each client's are those that it hasn't begun.
pub record AreLeft (script : Script) (clients : List Client) (left : List Placed) : Type 0 where
  pub each : (actor : ℕ) (client : Client) → slice_get clients actor ≡ Some client
      → calls_among left actor ≡ drop client.begun (calls_of script actor)

-- how many sectors a call's block takes at the first width of a pool, where it is a put
abbrev pub sizes_put : Uber → Placed → List ℕ
sizes_put uber placed = map (largest_size uber) (length_put placed.call.kind (fill_bytes placed.call.fill))

-- how many each of some calls' blocks takes
abbrev pub sizes_left : Uber → List Placed → List ℕ
sizes_left uber calls = flat_map (sizes_put uber) calls

-- how many each block of an index takes, and each that some calls put
abbrev pub sizes_of : Uber → List IndexEntry → List Placed → List ℕ
sizes_of uber entries calls = map (largest_size uber) (lengths_of entries calls)

-- ---- the runs that were taken

-- The hold's sectors are of one of these runs.
pub record IsHeldIn (runs : List Run) (hold : Hold) : Type 0 where
  pub run : Run
  pub listed : Contains runs run
  pub begins : run.start ≤ hold.lo
  pub ends : hold.hi ≤ run.start + run.len

-- Whatever sectors are taken, held back, or shared by a call are of these runs. Those that a call holds alone make a
-- put wait, but leave none without space.
pub record AreRunsOf (runs : List Run) (core : Core) : Type 0 where
  pub taken : (run : Run) → Contains core.pool.blocks.space.taken run → Contains runs run
  pub held : (run : HeldRun) → Contains core.pool.blocks.space.held run → Contains runs (held_sectors run)
  pub holds : (hold : Hold) → Contains core.holds hold → hold.kind ≡ Shared → IsHeldIn runs hold

-- Runs and further sizes are no more than these sizes, and have no more sectors.
pub record AreAtMost (runs : List Run) (left sizes : List ℕ) : Type 0 where
  pub few : length runs + length left ≤ length sizes
  pub sectors : sectors_in runs + sum left ≤ sum sizes

-- ---- between two turns

-- A pool has parity, rows and first width of its opening's uberblock, has its data rows at no smaller width, and is of
-- no older group.
pub record IsOpenSince (uber : Uber) (core : Core) : Type 0 where
  pub right : IsRightUber uber
  pub since : uber.group ≤ core.pool.uber.group
  pub parity : core.pool.uber.parity ≡ uber.parity
  pub rows : core.pool.uber.reflow.rows ≡ uber.reflow.rows
  pub from : uber.reflow.from ≤ core.pool.uber.reflow.from
  pub first : first_width core.pool.uber.births ≡ first_width uber.births

-- The width of its data rows and its births are those of the opening's uberblock once the journal's groups are told.
-- No birth is later than two groups on, and where the last group ended no expansion none is later than the next one.
pub record HasToldWidths (uber : Uber) (items : List Item) (core : Core) : Type 0 where
  pub from : core.pool.uber.reflow.from ≡ width_told uber.reflow.from items
  pub births : core.pool.uber.births ≡ births_told uber.births uber.reflow.from items
  pub latest : NoneAbove (core.pool.uber.group + 2) core.pool.uber.births
  pub settled : has_ended false uber.reflow.from items ≡ false
      → NoneAbove (core.pool.uber.group + 1) core.pool.uber.births

-- Of the space no more was used since the opening than the blocks of its index take, and those that calls put which
-- were begun.
pub record AreUsed (script : Script) (uber : Uber) (entries : List IndexEntry) (core : Core) (clients : List Client)
    : Type 0 where
  pub left : List Placed
  pub are_left : AreLeft script clients left
  pub runs : List Run
  pub are : AreRunsOf runs core
  pub most : AreAtMost runs (sizes_left uber left) (sizes_of uber entries script.calls)

-- So it is between two turns, and each answer so far that tells of no space has its cause.
pub record HasUsedRuns (script : Script) (uber : Uber) (entries : List IndexEntry) (core : Core) (items : List Item)
    (clients : List Client) : Type 0 where
  pub opened : IsOpenSince uber core
  pub used : AreUsed script uber entries core clients
  pub last : IsNumbered items core
  pub told : HasToldWidths uber items core
  pub caused : NoSpaceIsCaused script uber entries items
