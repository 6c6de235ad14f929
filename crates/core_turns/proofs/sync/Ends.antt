-- The end of a commit beside the calls that are under way: its group is the last answered one, and each call goes on at
-- the places at which it began.
use Rattle.core_turns.proofs.Words.{blocks_of, Contains, ◌≡◌, ℕ, ◌+◌, ◌≤◌, List, [], ◌∷◌, None, Option, Some, ap}
use Rattle.core_turns.proofs.Words.{IsRightBlock, refl, arith, Disk, Hold, Shared, Reflow, Layout, IndexEntry, IsWithin}
use Rattle.core_turns.proofs.Words.{Map, layout_of, Kept, Setting, Knows, Point, point_of, range_of_commit, chooses}
use Rattle.core_turns.proofs.Words.{FollowsOn, IsOutside, front_behind, held_outside, NoneFree, spot_of, IsColumnOf}
use Rattle.core_turns.proofs.Words.{Ended, CommitRun, HasEnded, IsCommitting, committing_done, committing_steps}
use Rattle.core_turns.proofs.Words.{GoesOnIn, hold_for_job, MovesMark, choice_moves, answered_by, IsPool}
use Rattle.core_turns.proofs.Words.{answered_block, answered_in_pool, answered_kept, answered_layout, answered_map}
use Rattle.core_turns.proofs.Words.{answered_range, answered_spares, answered_under, CopyRun, GetRun, PutRun, Core}
use Rattle.core_turns.proofs.Words.{IsCore, CoreState, at_disk, IsGetOf, hold_of, AsksAlike, IsPutOf, AnswersGroup}
use Rattle.core_turns.proofs.Words.{DropsHold, IsCommitOf, hold_for, HoldingCall, Putting, Reading, Scrubbing, Copying}
use Rattle.core_turns.proofs.Words.{AreCallsOf, AreReadOfMap, HasTooManyOut, HoldsGet, HoldsPut, IsSolvedAs, Damage}
use Rattle.core_turns.proofs.Words.{Excepted, HoldsCall, IsCallOfCore, LiesInPool, ListsDamage, PutsSpare, Stands}
use Rattle.core_turns.proofs.copy.Beside.{cells_behind, goes_behind, job_holds_else}
use Rattle.core_turns.proofs.state.Damage.{lists_last}
use Rattle.core_turns.proofs.sync.Begins.{core_follows, core_rows}
use Rattle.core_turns.proofs.sync.Goes.{commit_stays}
use Rattle.core_turns.proofs.sync.Answered.{begun_pool}
use Rattle.core_turns.proofs.read.Turns.{get_shared}
use Rattle.core_turns.proofs.state.Holds.{others_stay}
use Rattle.core_turns.proofs.put.Moved.{put_holds_moves, put_moves}
use Rattle.core_turns.proofs.put.Stands.{put_shared}
use Rattle.core_turns.proofs.state.Rows.{IsBlockOutside, block_alike, spot_stays}

module _ (core : Core) (run : CommitRun) (is : IsCore core) (of : IsCommitOf core run) where
  abbrev reflow : Reflow
  reflow = core.pool.uber.reflow

  abbrev chosen : Reflow
  chosen = run.uber.reflow

  abbrev behind : ℕ
  behind = front_behind reflow core.pool.done chosen

  on : FollowsOn reflow core.pool.done chosen
  on = core_follows core chosen is of.next.choice

  pool : IsPool (record core.pool { uber = record core.pool.uber { group = run.uber.group } })
  pool = begun_pool core run is of

  -- The pool that the answer leaves has blocks born so far at the layouts that they had.
  pub layout_same : (entry : IndexEntry) → entry.birth ≤ core.begun + 1
      → layout_of run.uber.parity run.uber.births entry ≡ layout_of core.pool.uber.parity core.pool.uber.births entry
  layout_same entry born = search (answered_layout, pool, on, arith)

  -- ---- the sectors of other calls

  -- A call's sectors are outside those of the commit,
  outside : (hold : Hold) → Contains core.holds hold → hold.kind ≡ Shared
      → IsOutside (range_of_commit reflow chosen).0 (range_of_commit reflow chosen).1 hold.lo hold.hi
  outside hold = search held_outside

  put_outside : (put : PutRun) → IsPutOf core put
      → IsBlockOutside (range_of_commit reflow chosen).0 (range_of_commit reflow chosen).1 put.range.layout
  put_outside put its = rw its.hold_is at (outside put.hold its.holds (put_shared core put its))

  get_outside : (get : GetRun) → IsGetOf core get
      → IsBlockOutside (range_of_commit reflow chosen).0 (range_of_commit reflow chosen).1 get.read.layout
  get_outside get its = rw its.layout_is (rw its.hold_is at (outside get.hold its.holds (get_shared core get its)))

  -- so a put's block is asked for where it was.
  put_alike : (put : PutRun) → IsPutOf core put → AsksAlike put.range.layout reflow core.pool.done chosen behind
  put_alike put its = search (block_alike, put_outside, on.rows)

  -- A job goes on: at most the mark has moved.
  job_moves : (job : CopyRun) → GoesOnIn reflow core.pool.done job.job → MovesMark reflow core.pool.done chosen
  job_moves job goes = search (chooses, choice_moves, arith)

  job_goes : (job : CopyRun) → GoesOnIn reflow core.pool.done job.job → GoesOnIn chosen behind job.job
  job_goes job goes =
      let its = chooses reflow core.pool.done chosen goes.widening.expands of.next.choice in
      search goes_behind

  module _ (holds : List Hold) (drops : DropsHold core.holds holds (hold_for reflow chosen of.actor)) where
    -- the core that the end leaves
    abbrev answered : Core
    answered = record core { pool = answered_by run.uber core.pool; holds = holds; committing = None }

    still_held : (hold : Hold) → hold.kind ≡ Shared → Contains core.holds hold → Contains holds hold
    still_held hold shared = others_stay core.holds holds (hold_for reflow chosen of.actor) hold drops (λ same. cc)

    -- ---- the calls

    put_answered : (put : PutRun) → IsPutOf core put → IsPutOf answered put
    put_answered put its = put_moves core answered put its (put_alike put its)
        (search (answered_in_pool, pool, on)) on.front
        (answered_range core.pool run.uber pool is.step of.next on put.range.id put.len put.range.birth put.range
        (search arith) its.range) its.born.1 (search (still_held, put_shared))

    call_answered : (call : HoldingCall) → IsCallOfCore core call → IsCallOfCore answered call
    call_answered (Putting put) its = put_answered put its
    call_answered (Reading get) its =
        let same = layout_same get.entry its.1.born in
        let held : get.hold ≡ hold_of answered.pool.uber get.entry its.1.actor = search (same, arith) in
        (its.0, search (same, answered_in_pool, pool, on, still_held, get_shared))
    call_answered (Scrubbing scrub) its =
        let same = layout_same scrub.read.entry its.read.born in
        let held : scrub.read.hold ≡ hold_of answered.pool.uber scrub.read.entry its.read.actor = search (same, arith) in
        let read = its.read in
        record {
          read = search (same, answered_in_pool, pool, on, still_held, get_shared);
          mend = put_answered scrub.mend its.mend;
          under_way = its.under_way;
          kind = its.kind;
          hold = its.hold;
          layout = its.layout;
          len = its.len;
        }
    call_answered (Copying job) its =
        let held : job.hold ≡ hold_for_job chosen job.job.job job.hold.actor = search arith in
        search (job_goes, others_stay, drops, job_holds_else)

    pub answered_calls : (calls : List HoldingCall) → AreCallsOf core calls → AreCallsOf answered calls
    answered_calls calls are = search (call_answered, answered_under, pool, on, are.each)

    -- ---- what they hold

    -- A column that was read, or lost with its device, is so at the chosen reflow.
    column_stays : (wrong : Excepted) (layout : Layout) (content : List ℕ) (row column : ℕ) (given : Option (List ℕ))
        → spot_of layout chosen row column ≡ spot_of layout reflow row column
        → IsColumnOf layout content reflow core.pool.out wrong row column given
        → IsColumnOf layout content chosen core.pool.out wrong row column given
    column_stays wrong layout content row column None same is_column = rw same is_column
    column_stays wrong layout content row column (Some got) same is_column = rw same is_column

    put_holds_on : (disk : Disk) (content : List ℕ) (put : PutRun) → IsPutOf core put
        → HoldsPut content (at_disk core disk) put → HoldsPut content (at_disk answered disk) put
    put_holds_on disk content put its held = put_holds_moves core answered put its (put_alike put its)
        (search (answered_in_pool, pool, on)) on.front disk content refl held

    get_holds_on : (wrong : Excepted) (disk : Disk) (content : List ℕ) (get : GetRun) → IsGetOf core get
        → HoldsGet wrong content (at_disk core disk) get → HoldsGet wrong content (at_disk answered disk) get
    get_holds_on wrong disk content get its held =
        let right : IsRightBlock get.read.layout content chosen behind disk.reads core.pool.out wrong =
        search (answered_block, pool, on) in
        let solved : wrong ≡ [] → (HasTooManyOut answered → ⊥) → IsSolvedAs content get.solved =
        λ none few. held.solved none (λ many. few
        (rw (ap (λ (l : Layout). l.parity) (layout_same get.entry its.born)) many)) in
        search (column_stays, spot_stays, get_outside, held.so_far.got, arith)

    call_holds : (damage : Damage) (disk : Disk) (content : List ℕ) (call : HoldingCall) → IsCallOfCore core call
        → HoldsCall damage (at_disk core disk) content call → HoldsCall damage (at_disk answered disk) content call
    call_holds damage disk content (Putting put) its held = put_holds_on disk content put its held
    call_holds damage disk content (Reading get) its held = get_holds_on damage.listed disk content get its.1 held
    call_holds damage disk content (Scrubbing scrub) its held = record {
      read = get_holds_on damage.listed disk content scrub.read its.read held.read;
      mend = put_holds_on disk content scrub.mend its.mend held.mend;
      listed = held.listed;
    }
    call_holds damage disk content (Copying job) its held =
        let its = chooses reflow core.pool.done chosen held.goes.widening.expands of.next.choice in
        search cells_behind

    -- ---- all that stands

    -- The group's blocks were born by now.
    born_by_now : (kept : Kept) → LiesInPool core kept → (entry : IndexEntry) → Contains (blocks_of kept) entry
        → entry.birth ≤ run.uber.group + 1
    born_by_now kept lies entry listed = search arith

    -- The group is the last one, and no commit is under way.
    pub ended_stands : (setting : Setting) (last next : Kept) (map : Map) (damage : Damage) (contents : ℕ → List ℕ)
        (calls : List HoldingCall) (disk : Disk) → Knows setting next [] disk
        → record run.uber { out = 0 } ≡ record next.uber { out = 0 } → LiesInPool core next
        → NoneFree core.pool.blocks core.begun (blocks_of next)
        → PutsSpare (at_disk core disk) calls next
        → AreCallsOf core calls → {commit : Option CommitRun}
        → Stands setting last (next ∷ []) map damage contents calls commit (at_disk core disk)
        → Stands setting next [] map damage contents calls None (at_disk answered disk)
    ended_stands setting last next map damage contents calls disk knows alike lies kept spared are stands =
        let rows = core_rows core chosen is of.next.choice in
        let none_free : NoneFree answered.pool.blocks answered.pool.uber.group (blocks_of next) =
        search (answered_kept, pool, on, born_by_now, arith) in
        let lists : (kept : Kept) → Contains (next ∷ []) kept → ListsDamage damage kept =
        lists_last damage last next stands.lists in
        let reads : AreReadOfMap answered.pool.blocks.table.entries map contents calls =
        λ block read listed. stands.reads block read (search arith) in
        search (answered_spares, answered_map, pool, on, born_by_now, rows, call_holds, are.each, stands.each)

-- A core of which no call was made leaves what a step that ends a commit begins with.
ended_of : (before after : CoreState) (run ended : CommitRun)
    → HasEnded run (point_of before.core.pool.out before.disk) ended (point_of after.core.pool.out after.disk)
    → IsCommitOf before.core run → IsCommitOf before.core ended
ended_of before after run ended did of =
    let out : after.core.pool.out ≡ before.core.pool.out = cc in
    rw out at (commit_stays before.core run ended after.core.pool.out before.disk after.disk Ended of did
    (search (out, arith)))

module _ {before after : CoreState} {run : CommitRun} {group : ℕ} (is : IsCore before.core)
    (of : IsCommitOf before.core run) (answers : AnswersGroup before run after group) where
  abbrev ended : CommitRun
  ended = answers.ended

  of_ended : IsCommitOf before.core ended
  of_ended = search ended_of

  -- It is its actor's hold that has ended.
  drops : DropsHold before.core.holds after.core.holds (hold_for before.core.pool.uber.reflow ended.uber.reflow
      of_ended.actor)
  drops =
      let same : answers.answers.actor ≡ of_ended.actor = cc (answers.answers.under_way, of_ended.under_way) in
      rw same at answers.answers.holds

  pub commit_ends_calls : (calls : List HoldingCall) → AreCallsOf before.core calls → AreCallsOf after.core calls
  commit_ends_calls calls are = rw answers.answers.rest (search (answered_calls, drops))

  -- A commit ends: its group is the last one.
  pub commit_ends_stands : {setting : Setting} {last next : Kept} {map : Map} {damage : Damage} {contents : ℕ → List ℕ}
      {calls : List HoldingCall} → AreCallsOf before.core calls → IsWithin before.core.pool.out setting.failed
      → Stands setting last (next ∷ []) map damage contents calls (Some run) before
      → Stands setting next [] map damage contents calls None after
  commit_ends_stands {setting} {last} {next} {map} {damage} {contents} {calls} are within stands =
      let was = stands.groups in
      let old = point_of before.core.pool.out before.disk in
      let new = point_of after.core.pool.out after.disk in
      let same : next ≡ was.next = cc (was.begun_is) in
      let come : IsCommitting setting last next run old = search (same, arith) in
      let went = committing_steps setting last next Ended run ended old new within answers.ends come in
      let disk : after.disk ≡ before.disk = ap (λ (p : Point). p.disk) answers.ends.same in
      let knows : Knows setting next [] before.disk =
      rw disk at (committing_done setting last next run ended old new within answers.ends come) in
      let spared : PutsSpare before calls next = rw same was.spared in
      rw (answers.answers.rest, disk) (search (ended_stands, drops, went, same, arith))
