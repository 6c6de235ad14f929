-- What stands between two turns stands over each turn that calls no device, as those of a put but for its writes.
use Rattle.core_turns.proofs.Words.{blocks_of, ◌≡◌, ◌≢◌, ◌⊎◌, inl, inr, ⊎_elim, ℕ, ◌+◌, ◌<◌, List, Option, Some, None}
use Rattle.core_turns.proofs.Words.{refl, sym, ◌∙◌, ap, subst, length, arith, Contains, touches_none, Hold, Shared}
use Rattle.core_turns.proofs.Words.{EndsHold, Gains, IndexEntry, AreBytes, Map, with_block, layout_of, Kept, Setting}
use Rattle.core_turns.proofs.Words.{PutRange, IsListed, IsUnderWay, layout_run, put_run, NoneFree, AreClear, gains_item}
use Rattle.core_turns.proofs.Words.{gains_old, gains_cases, written_all, written_none, CommitRun, HoldsMap, ReadsAs}
use Rattle.core_turns.proofs.Words.{state_of, put_holds, entry_layout, Disk, Filled, PutRun, Core, CoreState, IsCore}
use Rattle.core_turns.proofs.Words.{as_begun, at_disk, pool_at, BeginsPutSo, FillsPut, GivesUp, HoldsPut, IsPutOf}
use Rattle.core_turns.proofs.Words.{LeavesBlocks, StoresBlock, filled_entry, HoldingCall, Putting, Reading, Scrubbing}
use Rattle.core_turns.proofs.Words.{Copying, AreCallsOf, Damage, Excepted, GroupsStand, HoldsCall, PutsSpare}
use Rattle.core_turns.proofs.Words.{SetsContent, Stands, actor_of}
use Rattle.core_turns.proofs.state.Calls.{beside_turn, range_listed, share_none, some_held}
use Rattle.core_turns.proofs.state.Reads.{ReadsNoMore, of_map_fewer, of_map_stored, reads_beside, reads_less, reads_on}
use Rattle.core_turns.proofs.Words.{AreBeside, AreReadOfMap, IsCallOfCore, IsReadBy, allocated_of, entry_read, Layout}
use Rattle.core_turns.proofs.Words.{hold_of_call, pairs_beside, ◌≤◌}
use Rattle.space_alloc.specs.Space.{IsIn}
use Rattle.core_state.specs.Index.{KeptBlock}
use Rattle.core_blocks.specs.Blocks.{run_of}
use Rattle.core_turns.proofs.state.StandFrames.{LeavesCommit, commit_still, lies_still}
use Rattle.core_turns.proofs.state.Holds.{KeepsAlone, keeps_ended, keeps_gained, keeps_same}
use Rattle.core_turns.proofs.put.Ranges.{same_put}
use Rattle.core_turns.proofs.free.TakenBack.{each_gained}
use Rattle.core_turns.proofs.put.Turns.{plan_now, same_filled}
use Rattle.core_turns.proofs.put.Calls.{Rearranges, begins_rearranges, ends_rearranges, gives_up_rearranges}
use Rattle.core_turns.proofs.put.Calls.{leaves_rearranges}

-- ---- a turn that calls no device

-- The groups whose blocks are kept: the last answered one, and the last one begun.
abbrev IsKeptPast : Core → ℕ → Type 0
IsKeptPast core past = (past ≡ core.pool.uber.group) ⊎ (past ≡ core.begun)

-- Both were begun before the open one.
pub past_below : (core : Core) (past : ℕ) → IsCore core → IsKeptPast core past → past < core.begun + 1
past_below core past is kept = search arith

-- a core with another's blocks and holds, and who copies sectors, attaches a device or scrubs there
abbrev rearranged : Core → Core → Core
rearranged old new = record old {
  pool = record old.pool { blocks = new.pool.blocks };
  holds = new.holds;
  copying = new.copying;
  attaching = new.attaching;
  scrubbing = new.scrubbing;
}

-- All else is as it was, and so are the widths of the blocks.
pub record CallsNone (old new : Core) : Type 0 where
  pub rest : new ≡ rearranged old new
  pub parity : new.pool.blocks.parity ≡ old.pool.blocks.parity
  pub births : new.pool.blocks.births ≡ old.pool.blocks.births

pub calls_none : {old new : Core} → Rearranges old new → CallsNone old new
calls_none change = record { rest = cc; parity = change.parity; births = change.births }

-- All stands still, where what each group keeps of its blocks does, and others' puts have no sector of them.
pub stands_on : {setting : Setting} {last : Kept} {begun : List Kept} {map other : Map} {damage : Damage}
    {contents nows : ℕ → List ℕ} {calls nexts : List HoldingCall} {commit : Option CommitRun} {old new : Core} {disk : Disk} → CallsNone old new
    → KeepsAlone old.pool.done old.holds new.holds
    → ((past : ℕ) (group : Kept) → IsKeptPast old past → NoneFree old.pool.blocks past (blocks_of group)
    → PutsSpare (at_disk old disk) calls group
    → NoneFree new.pool.blocks past (blocks_of group) × PutsSpare (at_disk old disk) nexts group)
    → (AreReadOfMap old.pool.blocks.table.entries map contents calls
    → AreReadOfMap new.pool.blocks.table.entries other nows nexts)
    → HoldsMap damage.left other (pool_at (at_disk new disk))
    → ((call : HoldingCall) → Contains nexts call → HoldsCall damage (at_disk new disk) (nows (actor_of call)) call
    ⊎ HoldsCall damage (at_disk old disk) (nows (actor_of call)) call)
    → Stands setting last begun map damage contents calls commit (at_disk old disk)
    → Stands setting last begun other damage nows nexts commit (at_disk new disk)
stands_on {setting} {last} {begun} {other = other} {damage = damage} {nows = nows} {calls} {nexts} {commit} {old} {new}
    {disk} change alone keeps reads held each stands =
    let last_kept = keeps old.pool.uber.group last (inl refl) stands.kept stands.spared in
    let held_on = rw change.rest at held in
    let of_map : AreReadOfMap (rearranged old new).pool.blocks.table.entries other nows nexts = reads stands.reads in
    rw change.rest (search (groups_on, spares_on, each_on))
  where
    spares_on : (group : Kept) → PutsSpare (at_disk old disk) nexts group
        → PutsSpare (at_disk (rearranged old new) disk) nexts group
    spares_on group spared run listed = rw (change.parity, change.births) (spared run listed)

    -- What a call has written or read is its block's.
    holds_on : (call : HoldingCall) → HoldsCall damage (at_disk old disk) (nows (actor_of call)) call
        → HoldsCall damage (at_disk (rearranged old new) disk) (nows (actor_of call)) call
    holds_on (Putting run) held = search
    holds_on (Reading run) held = search
    holds_on (Scrubbing run) held = let read = held.read in let mend = held.mend in search
    holds_on (Copying run) held = held

    each_on : (call : HoldingCall) → Contains nexts call
        → HoldsCall damage (at_disk (rearranged old new) disk) (nows (actor_of call)) call
    each_on call listed = ⊎_elim (λ now. rw change.rest at now) (holds_on call) (each call listed)

    groups_on : (commit : Option CommitRun) → GroupsStand setting last begun calls commit (at_disk old disk)
        → GroupsStand setting last begun nexts commit (at_disk (rearranged old new) disk)
    groups_on None groups = search
    groups_on (Some run) groups =
        let leaves : LeavesCommit old (rearranged old new) = search in
        let next_kept = keeps old.begun groups.next (inr refl) groups.kept groups.spared in
        search (commit_still, lies_still, spares_on, arith)

-- So it does where only the calls are others.
pub stands_with : {setting : Setting} {last : Kept} {begun : List Kept} {map : Map} {damage : Damage} {contents nows : ℕ → List ℕ}
    {calls nexts : List HoldingCall} {commit : Option CommitRun} {state : CoreState}
    → ((group : Kept) → PutsSpare state calls group → PutsSpare state nexts group)
    → ReadsNoMore contents calls nows nexts
    → ((call : HoldingCall) → Contains nexts call → HoldsCall damage state (nows (actor_of call)) call)
    → Stands setting last begun map damage contents calls commit state
    → Stands setting last begun map damage nows nexts commit state
stands_with {map = map} {state = state} spared reads each stands =
    stands_on {old = state.core} {disk = state.disk} (record { rest = refl; parity = refl; births = refl })
    (search (keeps_same, arith)) (search arith)
    (of_map_fewer map refl reads) stands.holds
    (λ call listed. inr (each call listed)) stands

-- ---- a put

-- The map is held where the table lists the same.
map_on : {wrong : Excepted} (map : Map) (old new : Core) (disk : Disk) → Rearranges old new
    → new.pool.blocks.table.entries ≡ old.pool.blocks.table.entries → HoldsMap wrong map (pool_at (at_disk old disk))
    → HoldsMap wrong map (pool_at (at_disk new disk))
map_on map old new disk change entries held = rw change.rest (record {
  table = search arith;
  bytes = held.bytes;
  right = λ entry content listed has. search (content, arith);
})

-- The hold of a put is shared.
pub put_shared : (core : Core) (run : PutRun) → IsPutOf core run → run.hold.kind ≡ Shared
put_shared core run of = cc

put_ends_alone : (old new : Core) (run : PutRun) → IsPutOf old run → EndsHold old.holds new.holds run.hold
    → KeepsAlone old.pool.done old.holds new.holds
put_ends_alone old new run of ends = search (keeps_ended, put_shared, of)

-- A put has no sector in common with a block that the table lists.
pub listed_clear : (core : Core) (range : PutRange) (entry : IndexEntry) → IsCore core
    → IsUnderWay core.pool.blocks range → IsListed core.pool.blocks.table.entries entry
    → AreClear (put_run range) (layout_run (layout_of core.pool.uber.parity core.pool.uber.births entry))
listed_clear core range entry is under listed = rw (is.is.parity, is.is.births) at (under.clear entry listed)

-- A put of which more is filled in or written has no more sectors of blocks.
pub next_spares : {left calls nexts : List HoldingCall} {run : PutRun} (state : CoreState) (group : Kept)
    (filled : Option Filled) → Gains left calls (Putting run)
    → Gains left nexts (Putting (record run { filled = filled }))
    → PutsSpare state calls group → PutsSpare state nexts group
next_spares {left} {calls} {nexts} {run} state group filled gains again spared one listed = ⊎_elim
    (λ (same : Putting (record run { filled = filled }) ≡ Putting one). rw (← same_put same)
    (search (spared, gains_item))) (search (spared, gains_old))
    (gains_cases left nexts (Putting (record run { filled = filled })) (Putting one) again listed)

-- A call holds the sectors of the block that it reads.
read_holds : {core : Core} {entry : IndexEntry} → IsCore core → (call : HoldingCall) → IsCallOfCore core call
    → entry_read call ≡ Some entry → (sector : ℕ)
    → IsIn (run_of core.pool.blocks.parity core.pool.blocks.births entry).start
    (run_of core.pool.blocks.parity core.pool.blocks.births entry).len sector
    → ((hold_of_call call).lo ≤ sector) × (sector < (hold_of_call call).hi)
read_holds is (Putting run) of none sector here = cc
read_holds {core} {entry} is (Reading run) of some sector here =
    let same : run.entry ≡ entry = cc in
    rw (of.1.hold_is, same, ← is.is.parity, ← is.is.births) here
read_holds {core} {entry} is (Scrubbing run) of some sector here =
    let same : run.read.entry ≡ entry = cc in
    rw (of.read.hold_is, same, ← is.is.parity, ← is.is.births) here
read_holds is (Copying run) of none sector here = cc

-- A put whose bytes are filled in holds them, none of them written yet.
pub fills_holds : {content : List ℕ} {state : CoreState} {run next : PutRun} → FillsPut run next content
    → IsPutOf state.core run → HoldsPut content state run → HoldsPut content state next
fills_holds fills of was = rw fills.rest (record {
  len_is = was.len_is;
  are_bytes = was.are_bytes;
  so_far = λ other same. rw (← same_filled same) (
    fills.made.digest_is,
    search (written_none, plan_now, of),
  );
})

module _ {setting : Setting} {last : Kept} {begun : List Kept} {map : Map} {damage : Damage} {contents : ℕ → List ℕ}
    {commit : Option CommitRun} where
  -- A put begins, beside all others, with its bytes.
  pub put_begins_stands : {nows : ℕ → List ℕ} {left calls : List HoldingCall} {old new : Core} {disk : Disk}
      {actor id len : ℕ} {run : PutRun} {content : List ℕ} → BeginsPutSo old new actor id len run → length content ≡ len
      → AreBytes content → ((call : HoldingCall) → Contains left call → actor_of call ≢ actor)
      → SetsContent contents nows actor content → Gains left calls (Putting run)
      → Stands setting last begun map damage contents left commit (at_disk old disk)
      → Stands setting last begun map damage nows calls commit (at_disk new disk)
  put_begins_stands {nows} {left} {calls} {old} {new} {disk} {actor} {id} {len} {run} begins len_is bytes differs
      sets gains stands =
      let change = begins_rearranges old new actor id len run begins in
      stands_on (calls_none change) (keeps_gained old.pool.done old.holds new.holds run.hold (cc)
      (rw begins.hold_is begins.begins.first.clear) begins.holds)
      (λ past group is none spares. (
        begins.kept past (blocks_of group) none,
        λ one listed. ⊎_elim (λ (same : Putting run ≡ Putting one). rw (← same_put same)
            (begins.spares past (blocks_of group) none))
            (λ there. spares one there) (gains_cases left calls (Putting run) (Putting one) gains listed),
      ))
      (of_map_fewer map begins.begins.entries (reads_beside refl
      (λ other was. sets.others (actor_of other) (differs other was)) gains)) (search map_on)
      (each_gained gains (inr (rw (ap nows (ap (λ (h : Hold). h.actor) begins.hold_is) ∙ sets.own) (record {
        len_is = len_is ∙ sym begins.len_is;
        are_bytes = bytes;
        so_far = λ filled is. cc;
      }))) (λ call there. inr (search (sets.others, stands.each, arith)))) stands

  -- A refusal leaves all calls.
  pub put_refused_stands : {calls : List HoldingCall} {old new : Core} {disk : Disk} → LeavesBlocks old new
      → Stands setting last begun map damage contents calls commit (at_disk old disk)
      → Stands setting last begun map damage contents calls commit (at_disk new disk)
  put_refused_stands {old = old} {new} leaves stands =
      let change = leaves_rearranges old new leaves in
      stands_on (calls_none change) (search (keeps_same, arith)) (search arith)
      (of_map_fewer map leaves.entries (λ block read. read)) (search map_on) (search arith) stands

  -- A put that is given up leaves the others.
  pub put_gives_up_stands : {left calls : List HoldingCall} {old new : Core} {disk : Disk} {run : PutRun}
      → GivesUp old new run → Gains left calls (Putting run) → AreCallsOf old calls
      → Stands setting last begun map damage contents calls commit (at_disk old disk)
      → Stands setting last begun map damage contents left commit (at_disk new disk)
  put_gives_up_stands {left} {calls} {old} {new} {disk} {run} gives_up gains are stands =
      let change = gives_up_rearranges old new run gives_up in
      stands_on (calls_none change) (search (put_ends_alone, gains_item, are.each, arith))
      (search (gains_item, gains_old, gives_up.kept, arith))
      (of_map_fewer map gives_up.entries (reads_less gains)) (search map_on) (λ call listed. inr (stands.each call (search gains_old))) stands

  -- A put that ends brings its block into the map; a read of the block that it replaces goes on.
  pub put_ends_stands : {left calls : List HoldingCall} {old new : Core} {disk : Disk} {run : PutRun} → IsCore old
      → StoresBlock old new run
      → (filled : Filled) × (run.filled ≡ Some filled) × (filled.write.next ≡ length filled.write.writes)
      → Gains left calls (Putting run) → AreCallsOf old calls
      → Stands setting last begun map damage contents calls commit (at_disk old disk)
      → Stands setting last begun (with_block map (Some run.range.id) (Some (contents run.hold.actor))) damage contents left
      commit (at_disk new disk)
  put_ends_stands {left} {calls} {old} {new} {disk} {run} is ends whole gains are stands =
      stands_on (calls_none (ends_rearranges old new run ends)) (put_ends_alone old new run of ends.ends)
      (search (past_below, gains_old, ends.kept, arith)) (of_map_stored map content gains ends.change unread) held (λ call listed. inr (stands.each call (search gains_old))) stands
    where
      content : List ℕ
      content = contents run.hold.actor

      its_calls : Contains calls (Putting run)
      its_calls = gains_item left calls (Putting run) gains

      of : IsPutOf old run
      of = are.each (Putting run) its_calls

      holds : HoldsPut content (at_disk old disk) run
      holds = stands.each (Putting run) its_calls

      -- Nobody reads the put's block.
      unread : (block : KeptBlock) → IsReadBy contents left block → block.entry ≢ filled_entry run ends.filled
      unread block read same =
          let beside = pairs_beside AreBeside beside_turn calls left (Putting run) read.call gains are.beside read.listed
          in
          let its = entry_layout old.pool.blocks.parity old.pool.blocks.births old.pool.blocks run.range
          (filled_entry run ends.filled) run.len run.range.birth refl refl of.range refl refl refl in
          let some : 0 < allocated_of run.range.layout = some_held of.pool in
          let first = run.range.layout.start in
          share_none (Putting run) read.call (λ reads. reads) beside.apart first (rw of.hold_is (omega arith, omega (arith, some)))
          (read_holds is read.call (are.each read.call (gains_old left calls (Putting run) read.call gains read.listed))
          read.entry_is first (subst (λ (l : Layout). (l.start ≤ first) × (first < l.start + allocated_of l))
          (sym (ap (λ (e : IndexEntry). layout_of old.pool.blocks.parity old.pool.blocks.births e) same ∙ its))
          (omega arith, omega (arith, some))))

      read : ReadsAs (as_begun old).uber old.pool.done (filled_entry run ends.filled) content disk.reads old.pool.out
          damage.left
      read =
          rw (entry_layout old.pool.uber.parity old.pool.uber.births old.pool.blocks run.range
          (filled_entry run ends.filled) run.len run.range.birth is.is.parity is.is.births of.range refl refl refl)
          (written_all run.range.layout content old.pool.uber.reflow old.pool.done disk.reads old.pool.out
          ends.filled.write (rw (← same_filled (sym whole.1 ∙ ends.filled_is)) whole.2)
          (holds.so_far ends.filled ends.filled_is).1 damage.left)

      held : HoldsMap damage.left (with_block map (Some run.range.id) (Some content)) (pool_at (at_disk new disk))
      held =
          let was : HoldsMap damage.left map (state_of (as_begun old) disk) = search in
          let now = put_holds (state_of (as_begun old) disk)
          (state_of (record (as_begun old) { blocks = new.pool.blocks }) disk) is.is is.step run.range.layout refl refl
          (λ device out. out) of.pool
          (search (listed_clear, range_listed, its_calls, are.under.each, arith)) (search touches_none) map
          (filled_entry run ends.filled) content ends.change
          (record { len = sym holds.len_is; digest = (holds.so_far ends.filled ends.filled_is).0 }) holds.are_bytes read
          was in
          search (content, arith)

  -- Its bytes are filled in.
  pub put_fills_stands : {left calls nexts : List HoldingCall} {state : CoreState} {run next : PutRun}
      → FillsPut run next (contents run.hold.actor) → Gains left calls (Putting run) → Gains left nexts (Putting next)
      → AreCallsOf state.core calls → Stands setting last begun map damage contents calls commit state
      → Stands setting last begun map damage contents nexts commit state
  put_fills_stands {left} {calls} {nexts} {state} {run} {next} fills gains again are stands =
      stands_with (λ group. next_spares state group (Some fills.filled) gains (search arith))
      (reads_on refl (ap (λ (r : PutRun). r.hold.actor) fills.rest) gains again)
      (each_gained again (subst (λ (actor : ℕ). HoldsPut (contents actor) state next)
      (sym (ap (λ (r : PutRun). r.hold.actor) fills.rest))
      (fills_holds fills of (stands.each (Putting run) (gains_item left calls (Putting run) gains))))
      (λ call there. stands.each call (search gains_old))) stands
    where
      of : IsPutOf state.core run
      of = are.each (Putting run) (gains_item left calls (Putting run) gains)
