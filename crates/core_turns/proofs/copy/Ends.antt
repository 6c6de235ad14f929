-- The end of a job beside the calls that are under way: the front is behind it, and each call goes on where it was.
use Rattle.core_turns.proofs.Words.{◌≡◌, ℕ, ◌<◌, List, None, Option, Some, refl, arith, Contains, Disk, Hold, EndsHold}
use Rattle.core_turns.proofs.Words.{Reflow, Layout, end_of, sector_of, Gains, job_begin, job_end, Map, layout_of, Kept}
use Rattle.core_turns.proofs.Words.{Setting, point_of, IsFrontOf, call_count, cell_below, cell_close, job_at_front}
use Rattle.core_turns.proofs.Words.{job_front, job_some, rows_same, gains_item, gains_old, pairs_beside, pairs_lose}
use Rattle.core_turns.proofs.Words.{IsInPool, CommitRun, run_leaves_choice, run_ends, HoldsMap, listed_in_pool, CopyRun}
use Rattle.core_turns.proofs.Words.{GetRun, PutRun, Core, IsCore, as_begun, at_disk, pool_at, IsCommitOf, hold_for}
use Rattle.core_turns.proofs.Words.{CopiesCells, EndsJob, IsJobOf, IsGetOf, AsksAlike, IsPutOf, HoldingCall, Putting}
use Rattle.core_turns.proofs.Words.{Reading, Scrubbing, Copying, AreBeside, AreCallsOf, GroupsStand, HoldsCall, Damage}
use Rattle.core_turns.proofs.Words.{IsCallOfCore, ShareNoSector, Stands, actor_of, hold_of_call, AreReadOfMap, Excepted}
use Rattle.core_turns.proofs.Words.{IsClosed}
use Rattle.core_turns.proofs.state.Reads.{of_map_fewer, reads_less}
use Rattle.core_turns.proofs.state.Calls.{beside_turn, share_none, some_held}
use Rattle.core_turns.proofs.state.Frames.{ends_other, hold_listed}
use Rattle.core_turns.proofs.read.Stands.{call_loses}
use Rattle.core_turns.proofs.state.Holds.{alone_passes}
use Rattle.core_turns.proofs.copy.Calls.{apart_outside, one_job, ranges_copied}
use Rattle.core_turns.proofs.copy.Turns.{below_behind}
use Rattle.core_turns.proofs.put.Moved.{block_moves, put_holds_moves, put_moves}
use Rattle.core_turns.proofs.state.Rows.{IsBlockOutside, row_outside}

module _ {core : Core} {run : CopyRun} (is : IsCore core) (of : IsJobOf core run) where
  abbrev reflow : Reflow
  reflow = core.pool.uber.reflow

  -- the front behind the job
  abbrev behind : ℕ
  behind = job_end core.pool.uber.reflow run.job.job

  front : IsFrontOf reflow behind
  front = search job_front

  -- A block outside the job's sectors is asked for where it was,
  block_same : {layout : Layout} → IsInPool layout reflow → IsBlockOutside (job_begin run.job.job) behind layout
      → AsksAlike layout reflow core.pool.done reflow behind
  block_same {layout} pool outside row column there =
      rows_same reflow core.pool.done run.job.job layout.start (end_of layout row) (sector_of layout row column)
      of.goes.may_run (omega arith) (search arith) (search row_outside)

  -- so is that of a put,
  put_same : (put : PutRun) → IsPutOf core put → ShareNoSector run.hold put.hold
      → AsksAlike put.range.layout reflow core.pool.done reflow behind
  put_same put its apart =
      let some : put.hold.lo < put.hold.hi = search (some_held, its.pool, arith) in
      block_same its.pool (search (apart_outside, of, some, arith))

  -- and that of a read.
  get_same : (get : GetRun) → IsGetOf core get → ShareNoSector run.hold get.hold
      → AsksAlike get.read.layout reflow core.pool.done reflow behind
  get_same get its apart =
      let some : get.hold.lo < get.hold.hi = search (some_held, its.pool, arith) in
      block_same its.pool (search (apart_outside, of, some, arith))

  module _ {holds : List Hold} (ends : EndsHold core.holds holds run.hold) where
    -- the core that the end leaves
    abbrev ended : Core
    ended = record core { pool = record core.pool { done = behind }; holds = holds; copying = None }

    -- ---- the calls

    call_ended : (call : HoldingCall) → AreBeside (Copying run) call → Contains holds (hold_of_call call)
        → IsCallOfCore core call → IsCallOfCore ended call
    call_ended (Putting put) beside held its =
        let apart : ShareNoSector run.hold put.hold =
        share_none (Copying run) (Putting put) (λ reads. reads) beside.apart in
        search (put_moves, put_same, front)
    call_ended (Reading get) beside held its = search
    call_ended (Scrubbing scrub) beside held its =
        let apart : ShareNoSector run.hold scrub.mend.hold =
        rw its.hold (share_none (Copying run) (Scrubbing scrub) (λ reads. reads) beside.apart) in
        let held_too : Contains holds scrub.mend.hold = rw its.hold held in
        record {
          read = let read = its.read in search;
          mend = let mend = its.mend in search (put_moves, put_same, front);
          under_way = its.under_way;
          kind = its.kind;
          hold = its.hold;
          layout = its.layout;
          len = its.len;
        }
    call_ended (Copying other) beside held its = absurd (beside.actors (one_job of its))

    -- What a call has written or read is its block's still.
    call_holds : (damage : Damage) (disk : Disk) (content : List ℕ) (call : HoldingCall)
        → AreBeside (Copying run) call
        → IsCallOfCore core call → HoldsCall damage (at_disk core disk) content call
        → HoldsCall damage (at_disk ended disk) content call
    call_holds damage disk content (Putting put) beside its held =
        let apart : ShareNoSector run.hold put.hold =
        share_none (Copying run) (Putting put) (λ reads. reads) beside.apart in
        search (put_holds_moves, put_same, front)
    call_holds damage disk content (Reading get) beside its held =
        let apart : ShareNoSector run.hold get.hold =
        share_none (Copying run) (Reading get) (λ reads. reads) beside.apart in
        search (block_moves, get_same)
    call_holds damage disk content (Scrubbing scrub) beside its held =
        let apart : ShareNoSector run.hold scrub.mend.hold =
        rw its.hold (share_none (Copying run) (Scrubbing scrub) (λ reads. reads) beside.apart) in
        let get_apart : ShareNoSector run.hold scrub.read.hold =
        share_none (Copying run) (Scrubbing scrub) (λ reads. reads) beside.apart in
        let read = held.read in
        let mend = held.mend in
        record {
          read = search (block_moves, get_same, its.read);
          mend = search (put_holds_moves, put_same, front, its.mend);
          listed = held.listed;
        }
    call_holds damage disk content (Copying other) beside its held = absurd (beside.actors (one_job of its))

    -- ---- a commit

    -- The choice that a commit made beside the job may still be recorded, and what it holds is below the front.
    commit_on : (commit : CommitRun) → IsCommitOf core commit → IsCommitOf ended commit
    commit_on commit its = record {
      actor = its.actor;
      under_way = its.under_way;
      number = its.number;
      next = search run_leaves_choice;
      holds = alone_passes core.pool.done behind core.holds holds run.hold
          (hold_for reflow commit.uber.reflow its.actor) refl
          (cc) (search (job_at_front, arith)) (search (job_some, job_at_front, arith))
          (below_behind is of ends).1 ends its.holds;
      lists = its.lists;
      reach = its.reach;
    }

    -- ---- the map

    -- Each block is right at the front behind the job, which has copied all of its sectors.
    map_ended : (wrong : Excepted) → IsClosed wrong → (map : Map) (disk : Disk) → core.pool.out ≡ 0 → run.job.made ≡ call_count run.job.reflow run.job.job
        → CopiesCells reflow core.pool.done run.job (point_of core.pool.out disk)
        → HoldsMap wrong map (pool_at (at_disk core disk)) → HoldsMap wrong map (pool_at (at_disk ended disk))
    map_ended wrong closed map disk whole all copied held = record {
      table = held.table;
      bytes = held.bytes;
      right = λ entry content listed has. record {
        each = λ cell cell_is.
            let layout = layout_of core.pool.uber.parity core.pool.uber.births entry in
            let pool = listed_in_pool (as_begun core) entry is.is is.step listed in
            run_ends reflow core.pool.done run.job (point_of core.pool.out disk) wrong cell of.goes all
            (copied.each whole wrong closed cell (search cell_close)
            (cell_below layout content cell cell_is) ((held.right entry content listed has).each cell cell_is));
      };
    }

-- ---- all that stands

module _ {old new : Core} {run : CopyRun} {left calls : List HoldingCall} (is : IsCore old) (ends : EndsJob old new run)
    (gains : Gains left calls (Copying run)) (are : AreCallsOf old calls) where
  of : IsJobOf old run
  of = are.each (Copying run) (gains_item left calls (Copying run) gains)

  beside : (call : HoldingCall) → Contains left call → AreBeside (Copying run) call
  beside call listed = pairs_beside AreBeside beside_turn calls left (Copying run) call gains are.beside listed

  was : (call : HoldingCall) → Contains left call → IsCallOfCore old call
  was call listed = are.each call (search gains_old)

  -- The other calls are under way still.
  pub job_ends_calls : AreCallsOf new left
  job_ends_calls = rw ends.rest (record {
    each = λ call listed. call_ended is of ends.ends call (beside call listed)
        (ends_other old.holds new.holds run.hold (hold_of_call call) ends.ends (hold_listed old call (was call listed))
        (search (beside, arith))) (was call listed);
    under = rw (← ranges_copied gains) are.under;
    beside = search (pairs_lose, beside_turn);
  })

  -- A commit under way beside it is still the core's,
  pub job_ends_commit : (commit : CommitRun) → IsCommitOf old commit → IsCommitOf new commit
  job_ends_commit commit its = search (commit_on, of, arith)

  -- and all stands, with each block right at the front that the job leaves.
  pub job_ends_stands : {setting : Setting} {last : Kept} {begun : List Kept} {map : Map} {damage : Damage} {contents : ℕ → List ℕ}
      {commit : Option CommitRun} {disk : Disk} → old.pool.out ≡ 0
      → run.job.made ≡ call_count run.job.reflow run.job.job
      → Stands setting last begun map damage contents calls commit (at_disk old disk)
      → Stands setting last begun map damage contents left commit (at_disk new disk)
  job_ends_stands {setting} {last} {begun} {map} {damage} {contents} {commit} {disk} whole all stands =
      let held = map_ended is of ends.ends damage.left stands.damage_is.closed map disk whole all
      (stands.each (Copying run) (gains_item left calls (Copying run) gains)) stands.holds in
      let reads : AreReadOfMap old.pool.blocks.table.entries map contents left =
      of_map_fewer map refl (reads_less gains) stands.reads in
      rw ends.rest (search (groups_ended, stands.spared, call_loses, each_on, arith))
    where
      each_on : (call : HoldingCall) → Contains left call
          → HoldsCall damage (at_disk (ended is of ends.ends) disk) (contents (actor_of call)) call
      each_on call listed = call_holds is of ends.ends damage disk (contents (actor_of call)) call
          (beside call listed) (was call listed) (stands.each call (search gains_old))

      groups_ended : (commit : Option CommitRun) → GroupsStand setting last begun calls commit (at_disk old disk)
          → GroupsStand setting last begun left commit (at_disk (ended is of ends.ends) disk)
      groups_ended None groups = search
      groups_ended (Some commit) groups = record {
        next = groups.next;
        begun_is = groups.begun_is;
        of = commit_on is of ends.ends commit groups.of;
        come = groups.come;
        lies = search;
        kept = groups.kept;
        spared = λ put listed. groups.spared put (call_loses gains put listed);
      }
