-- What a turn leaves of the calls that are under way beside it.
use Rattle.core_turns.proofs.Words.{◌≡◌, ◌≢◌, ℕ, ◌≤◌, List, Option, false, ◌∙◌, arith, Contains, Unchanged, TouchesOnly}
use Rattle.core_turns.proofs.Words.{Hold, EndsHold, Reflow, Layout, IsRequiredPlace, IsFrontOf, IndexEntry, has_device}
use Rattle.core_turns.proofs.Words.{IsWithin, layout_of, Cell, IsCell, Nowhere, IsDataSector, AreUnderWay, IsListed}
use Rattle.core_turns.proofs.Words.{Excepted, IsRightBlock, block_stays, layout_run, AreClear, point_of, IsInPool}
use Rattle.core_turns.proofs.Words.{written_stays, SparesData, count_grows, CopyRun, GetRun, PutRun, Core, CoreState}
use Rattle.core_turns.proofs.Words.{IsGetOf, HoldsGet, AsksAlike, IsPutOf, HoldsPut, IsJobOf, HoldingCall, Putting}
use Rattle.core_turns.proofs.Words.{Reading, Scrubbing, Copying, hold_of_call, Damage, ranges_of, IsCallOfCore}
use Rattle.core_turns.proofs.Words.{HoldsCall, AreCallsOf, actor_of, at_disk, Disk}
use Rattle.core_turns.proofs.put.Places.{IsWrittenTo, never_both, required_data, written_cell}
use Rattle.core_turns.proofs.read.Laws.{get_stays}
use Rattle.core_turns.proofs.state.Holds.{ends_stays}
use Rattle.core_turns.proofs.copy.Laws.{IsJobOff, job_leaves, none_before}

-- What a turn leaves: the pool's widths and its front stay, no device comes back, and on those in use each data sector
-- that is none of these reads what it read.
pub record Leaves (P : ℕ → ℕ → Type 0) (before after : CoreState) : Type 0 where
  pub parity : after.core.pool.uber.parity ≡ before.core.pool.uber.parity
  pub births : after.core.pool.uber.births ≡ before.core.pool.uber.births
  pub reflow : after.core.pool.uber.reflow ≡ before.core.pool.uber.reflow
  pub done : after.core.pool.done ≡ before.core.pool.done
  pub front : IsFrontOf before.core.pool.uber.reflow before.core.pool.done
  pub within : IsWithin before.core.pool.out after.core.pool.out
  pub reads : (device device_sector : ℕ) → has_device after.core.pool.out device ≡ false → IsDataSector device_sector
      → (P device device_sector → ⊥) → after.disk.reads device device_sector ≡ before.disk.reads device device_sector

-- A block of these bytes is read at each place where it has to be right, on each device that is not out, but for what
-- may be wrong.
abbrev pub IsReadAt : Excepted → CoreState → IndexEntry → List ℕ → Type 0
IsReadAt wrong state entry content =
    IsRightBlock (layout_of state.core.pool.uber.parity state.core.pool.uber.births entry) content
    state.core.pool.uber.reflow state.core.pool.done state.disk.reads state.core.pool.out wrong

-- Each block that stands in the table and is right, but for what may be wrong, stays so.
abbrev pub KeepsRight : Excepted → CoreState → CoreState → Type 0
KeepsRight wrong before after = (entry : IndexEntry) (content : List ℕ)
    → IsListed before.core.pool.blocks.table.entries entry
    → IsReadAt wrong before entry content → IsReadAt wrong after entry content

-- What a call under way holds it holds still.
abbrev pub KeepsCall : Damage → CoreState → CoreState → HoldingCall → Type 0
KeepsCall damage before after call = (content : List ℕ) → HoldsCall damage before content call
    → HoldsCall damage after content call

-- No place that a block requires is one of these.
abbrev pub IsOff : (ℕ → ℕ → Type 0) → Reflow → ℕ → Layout → Type 0
IsOff P reflow done layout = (content : List ℕ) (cell : Cell) (device device_sector : ℕ) → IsCell layout content cell
    → IsRequiredPlace reflow done cell.row_end cell.sector device device_sector
    → P device device_sector → ⊥

-- No place of a block that stands in the table is one of these.
abbrev pub AreOff : (ℕ → ℕ → Type 0) → Core → Type 0
AreOff P core = (entry : IndexEntry) → IsListed core.pool.blocks.table.entries entry
    → IsOff P core.pool.uber.reflow core.pool.done (layout_of core.pool.uber.parity core.pool.uber.births entry)

-- Nothing that a call under way relies on is at one of these places.
abbrev pub IsCallOff : (ℕ → ℕ → Type 0) → Reflow → ℕ → HoldingCall → Type 0
IsCallOff P reflow done (Putting run) = IsOff P reflow done run.range.layout
IsCallOff P reflow done (Reading run) = IsOff P reflow done run.read.layout
IsCallOff P reflow done (Scrubbing run) =
    IsOff P reflow done run.read.read.layout × IsOff P reflow done run.mend.range.layout
IsCallOff P reflow done (Copying run) = IsJobOff P reflow done run.job

-- A right block of the table stays right where it is off what was written.
pub off_keeps : (P : ℕ → ℕ → Type 0) (wrong : Excepted) (before after : CoreState) → Leaves P before after
    → AreOff P before.core → KeepsRight wrong before after
off_keeps P wrong before after leaves off entry content listed right =
    rw (leaves.parity, leaves.births, leaves.reflow, leaves.done)
    (block_stays (layout_of before.core.pool.uber.parity before.core.pool.uber.births entry) content
    before.core.pool.uber.reflow before.core.pool.done before.disk.reads after.disk.reads before.core.pool.out
    after.core.pool.out wrong leaves.within
    (λ cell device device_sector is place used read. leaves.reads device device_sector used
    (search (required_data, leaves.front)) (off entry listed content cell device device_sector is place) ∙ read) right)

-- Where nothing is written, each block is off that, and so is a job;
pub off_nowhere : (reflow : Reflow) (done : ℕ) (layout : Layout) → IsOff Nowhere reflow done layout
off_nowhere reflow done layout = search

pub call_off_nowhere : (reflow : Reflow) (done : ℕ) (call : HoldingCall) → IsCallOff Nowhere reflow done call
call_off_nowhere reflow done call = grind arith

-- and off another's writes is each that has no sector in common with it.
pub off_written : (reflow : Reflow) (done : ℕ) (layout other : Layout) (out : ℕ) → IsFrontOf reflow done
    → IsInPool layout reflow → IsInPool other reflow → AreClear (layout_run layout) (layout_run other)
    → IsOff (IsWrittenTo layout reflow done out) reflow done other
off_written reflow done layout other out front pool other_pool clear = search (never_both, reflow, front)

-- ---- what turns leave

-- Only devices went out in this core.
abbrev pub OnlyOut : Core → Core → Type 0
OnlyOut old new = new ≡ record old { pool = record old.pool { out = new.pool.out } }

-- The widths of a core and of its blocks stay, and the group begun last is no earlier one.
pub record KeepsWidths (old new : Core) : Type 0 where
  pub parity : new.pool.uber.parity ≡ old.pool.uber.parity
  pub births : new.pool.uber.births ≡ old.pool.uber.births
  pub reflow : new.pool.uber.reflow ≡ old.pool.uber.reflow
  pub done : new.pool.done ≡ old.pool.done
  pub block_parity : new.pool.blocks.parity ≡ old.pool.blocks.parity
  pub block_births : new.pool.blocks.births ≡ old.pool.blocks.births
  pub begun : old.begun ≤ new.begun

-- So do these, and who copies sectors; no device comes back.
pub record KeepsCalls (old new : Core) : Type 0 where
  pub widths : KeepsWidths old new
  pub copying : new.copying ≡ old.copying
  pub scrubbing : new.scrubbing ≡ old.scrubbing
  pub within : IsWithin old.pool.out new.pool.out

-- So they do where only devices went out.
pub widths_out : (old new : Core) → OnlyOut old new → KeepsWidths old new
widths_out old new core = search arith

-- A turn that reads leaves all,
pub leaves_read : (before after : CoreState) → IsFrontOf before.core.pool.uber.reflow before.core.pool.done
    → OnlyOut before.core after.core
    → IsWithin before.core.pool.out after.core.pool.out → Unchanged before.disk after.disk → Leaves Nowhere before after
leaves_read before after front core within same = search (widths_out before.core after.core core, arith)

-- one that writes leaves what it does not touch,
pub leaves_touched : (P : ℕ → ℕ → Type 0) (before after : CoreState)
    → IsFrontOf before.core.pool.uber.reflow before.core.pool.done → OnlyOut before.core after.core
    → IsWithin before.core.pool.out after.core.pool.out → TouchesOnly P before.disk after.disk → Leaves P before after
leaves_touched P before after front core within touched = search (widths_out before.core after.core core, arith)

-- and a step of a commit leaves all data sectors.
pub leaves_spared : (before after : CoreState) → IsFrontOf before.core.pool.uber.reflow before.core.pool.done
    → OnlyOut before.core after.core → IsWithin before.core.pool.out after.core.pool.out
    → SparesData (point_of before.core.pool.out before.disk) (point_of after.core.pool.out after.disk)
    → Leaves Nowhere before after
leaves_spared before after front core within spares = search (widths_out before.core after.core core, arith)

-- ---- calls beside a turn

-- What has been written of a put stays.
pub put_stays : (P : ℕ → ℕ → Type 0) (content : List ℕ) (before after : CoreState) (run : PutRun)
    → Leaves P before after → IsOff P before.core.pool.uber.reflow before.core.pool.done run.range.layout
    → HoldsPut content before run → HoldsPut content after run
put_stays P content before after run leaves off holds =
    let layout = run.range.layout in
    let old = before.core.pool in
    record {
      len_is = holds.len_is;
      are_bytes = holds.are_bytes;
      so_far = λ filled is. let was = holds.so_far filled is in (
        was.0,
        rw (leaves.reflow, leaves.done) (written_stays layout content old.uber.reflow old.done before.disk.reads
            after.disk.reads old.out after.core.pool.out filled.write leaves.within
            (λ write has used.
            let cell = written_cell layout content old.uber.reflow old.done filled.write write was.1.plan has in
            leaves.reads write.device write.device_sector used (search required_data) (search)) was.1),
      );
    }

-- A read stays with its block.
pub get_block_stays : (P : ℕ → ℕ → Type 0) (wrong : Excepted) (content : List ℕ) (before after : CoreState) (run : GetRun)
    → Leaves P before after → IsOff P before.core.pool.uber.reflow before.core.pool.done run.read.layout
    → HoldsGet wrong content before run → HoldsGet wrong content after run
get_block_stays P wrong content before after run leaves off holds = get_stays wrong content before after run leaves.reflow
    leaves.done leaves.within (search (count_grows, leaves.parity, arith))
    (λ cell device device_sector is place used read. leaves.reads device device_sector used
    (search (required_data, leaves.front)) (search off) ∙ read) holds

-- So does each call, and a job has come as far.
pub call_stays : (P : ℕ → ℕ → Type 0) (damage : Damage) (content : List ℕ) (before after : CoreState)
    (call : HoldingCall) → Leaves P before after
    → IsCallOff P before.core.pool.uber.reflow before.core.pool.done call
    → HoldsCall damage before content call → HoldsCall damage after content call
call_stays P damage content before after (Putting run) leaves off holds =
    put_stays P content before after run leaves off holds
call_stays P damage content before after (Reading run) leaves off holds =
    get_block_stays P damage.listed content before after run leaves off holds
call_stays P damage content before after (Scrubbing run) leaves off holds = record {
  read = get_block_stays P damage.listed content before after run.read leaves off.0 holds.read;
  mend = put_stays P content before after run.mend leaves off.1 holds.mend;
  listed = holds.listed;
}
call_stays P damage content before after (Copying run) leaves off holds =
    rw (leaves.reflow, leaves.done) (search job_leaves)

-- Where pool and disk are as they were each call holds what it held.
pub calls_hold_on : (damage : Damage) (contents : ℕ → List ℕ) (calls : List HoldingCall) (old new : Core)
    (disk : Disk) → new.pool ≡ old.pool
    → ((call : HoldingCall) → Contains calls call → HoldsCall damage (at_disk old disk) (contents (actor_of call)) call)
    → (call : HoldingCall) → Contains calls call → HoldsCall damage (at_disk new disk) (contents (actor_of call)) call
calls_hold_on damage contents calls old new disk same each (Putting run) has =
    let holds = each (Putting run) has in
    record { len_is = holds.len_is; are_bytes = holds.are_bytes; so_far = rw same holds.so_far }
calls_hold_on damage contents calls old new disk same each (Scrubbing run) has =
    let holds = each (Scrubbing run) has in
    record {
      read = let read = holds.read in search (same, arith);
      mend = record {
        len_is = holds.mend.len_is;
        are_bytes = holds.mend.are_bytes;
        so_far = rw same holds.mend.so_far;
      };
      listed = holds.listed;
    }
calls_hold_on damage contents calls old new disk same each call has =
    let holds = each call has in search (same, arith)

-- A put is one of the pool still where its hold is there.
pub put_of_stays : (old new : Core) (run : PutRun) → KeepsWidths old new → Contains new.holds run.hold → IsPutOf old run
    → IsPutOf new run
put_of_stays old new run widths listed of =
    let places : AsksAlike run.range.layout run.reflow run.done new.pool.uber.reflow new.pool.done =
    rw (widths.reflow, widths.done) of.places in
    search arith

-- So is a read.
pub get_of_stays : (old new : Core) (run : GetRun) → KeepsWidths old new → Contains new.holds run.hold → IsGetOf old run
    → IsGetOf new run
get_of_stays old new run widths listed of = search arith

-- So is a job.
pub job_of_stays : (old new : Core) (run : CopyRun) → KeepsCalls old new → Contains new.holds run.hold → IsJobOf old run
    → IsJobOf new run
job_of_stays old new run keeps listed of = search (none_before, arith)

pub call_of_stays : (old new : Core) (call : HoldingCall) → KeepsCalls old new → Contains new.holds (hold_of_call call)
    → IsCallOfCore old call → IsCallOfCore new call
call_of_stays old new (Putting run) keeps listed of = search put_of_stays
call_of_stays old new (Reading run) keeps listed of = search get_of_stays
call_of_stays old new (Scrubbing run) keeps listed of = record {
  read = get_of_stays old new run.read keeps.widths listed of.read;
  mend = put_of_stays old new run.mend keeps.widths (rw of.hold listed) of.mend;
  under_way = keeps.scrubbing ∙ of.under_way;
  kind = of.kind;
  hold = of.hold;
  layout = of.layout;
  len = of.len;
}
call_of_stays old new (Copying run) keeps listed of = search job_of_stays

-- The hold of a call is there,
pub hold_listed : (core : Core) (call : HoldingCall) → IsCallOfCore core call → Contains core.holds (hold_of_call call)
hold_listed core call of = grind arith

-- also once that of another actor has ended.
pub ends_other : (old new : List Hold) (gone hold : Hold) → EndsHold old new gone → Contains old hold
    → hold.actor ≢ gone.actor → Contains new hold
ends_other old new gone hold ends listed apart = ends_stays old new gone hold ends (λ same. apart (cc)) listed

-- The calls under way stay so while the widths, their holds and the puts' ranges do,
pub calls_keep : (old new : Core) (calls : List HoldingCall) → KeepsCalls old new
    → ((hold : Hold) → Contains old.holds hold → Contains new.holds hold)
    → AreUnderWay new.pool.blocks (ranges_of calls) → AreCallsOf old calls → AreCallsOf new calls
calls_keep old new calls keeps kept under are = search (call_of_stays, hold_listed, are.each)

-- so where a hold was taken, a commit or an attach begun or ended, or the pool reaches further,
pub calls_beside : (core : Core) (holds : List Hold) (begun reach : ℕ) (committing attaching : Option ℕ)
    (calls : List HoldingCall) → core.begun ≤ begun → ((hold : Hold) → Contains core.holds hold → Contains holds hold)
    → AreCallsOf core calls → AreCallsOf (record core {
      holds = holds;
      begun = begun;
      reach = reach;
      committing = committing;
      attaching = attaching;
    }) calls
calls_beside core holds begun reach committing attaching calls more kept are = search (calls_keep, arith)

-- and so where only devices went out.
pub calls_stay : (old new : Core) (calls : List HoldingCall) → OnlyOut old new → IsWithin old.pool.out new.pool.out
    → AreCallsOf old calls → AreCallsOf new calls
calls_stay old new calls core within are = calls_keep old new calls
    (record { widths = widths_out old new core; copying = cc; scrubbing = cc; within = within }) (search arith) (search arith) are
