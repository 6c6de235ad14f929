-- A job beside puts, and beside the answer of a commit.
use Rattle.core_turns.proofs.Words.{◌≡◌, ⊎_elim, ℕ, ◌<◌, ◌≤◌, List, arith, cases_lt, Hold, State, Valid, Moved, Reflow}
use Rattle.core_turns.proofs.Words.{NeedsOld, Layout, end_of, sector_of, IsRequiredPlace, NeedsScratch, are_required}
use Rattle.core_turns.proofs.Words.{Job, job_begin, job_end, Point, Cell, IsCell, RightAt, IsCommitChoice, MayRecord}
use Rattle.core_turns.proofs.Words.{front_behind, IsClose, CopiesSector, IsTarget, MovesMark, choice_moves}
use Rattle.core_turns.proofs.Words.{front_stays_behind, cell_close, job_at_front, job_some, target_free, IsInPool}
use Rattle.core_turns.proofs.Words.{close_to_end, in_pool, one_sector, widths_of, JobRun, GoesOnIn, HoldsJob}
use Rattle.core_turns.proofs.Words.{run_beside, moved_goes_on, moved_holds, sector_inside, CopyRun, PutRun, Core}
use Rattle.core_turns.proofs.Words.{IsCore, hold_for, CopiesCells, IsJobOf, IsPutOf, ShareNoSector, Excepted, IsClosed}
use Rattle.reflow_mark.specs.declared.reflow.State.TheVariants.{None}
use Rattle.core_turns.proofs.put.Places.{IsWrittenTo}
use Rattle.core_turns.proofs.sync.Begins.{change_below}
use Rattle.core_turns.proofs.copy.Laws.{IsJobOff}

-- ---- beside a put

-- A put writes where the job neither reads nor writes: no sector of its block is one of the job's.
pub job_off_written : {core : Core} {run : PutRun} {other : CopyRun} (out : ℕ) → IsPutOf core run → IsJobOf core other
    → ShareNoSector run.hold other.hold
    → IsJobOff (IsWrittenTo run.range.layout core.pool.uber.reflow core.pool.done out) core.pool.uber.reflow
    core.pool.done other.job
job_off_written {core} {run} {other} out of job apart = record {
  places = λ cell device device_sector close inside place written.
      let layout = run.range.layout in
      let reflow = core.pool.uber.reflow in
      let row = written.0.row in
      let column = written.0.column in
      let required = (are_required layout reflow core.pool.done).only written.0 written.1 in
      let sector = sector_of layout row column in
      let widths = widths_of layout reflow of.pool in
      let near = close_to_end layout reflow row column of.pool required.0 in
      let there : IsRequiredPlace reflow core.pool.done (end_of layout row) sector device device_sector = search arith
      in
      ⊎_elim
      (λ asked.
      let same : sector ≡ cell.sector = search one_sector in
      let mine = sector_inside layout reflow row column of.pool required.0 in
      apart sector (rw of.hold_is mine) (rw (job.hold_is, same) inside))
      (λ copied. search (target_free, in_pool)) place;
}

-- A job writes where no block of the pool has to be right.
pub off_target : (reflow : Reflow) (done : ℕ) (job : Job) (sector : ℕ) (layout : Layout) → IsInPool layout reflow
    → (run : JobRun) → GoesOnIn reflow done run → run.job ≡ job → CopiesSector reflow job sector
    → (content : List ℕ) (cell : Cell) (device device_sector : ℕ) → IsCell layout content cell
    → IsRequiredPlace reflow done cell.row_end cell.sector device device_sector
    → IsTarget reflow job sector device device_sector → ⊥
off_target reflow done job sector layout pool run goes same inside content cell device device_sector is place at =
    let close = cell_close layout content reflow cell pool.within.is pool.width pool.end is in
    target_free reflow done job sector cell.row_end cell.sector device device_sector goes.widening goes.front
    (search arith) inside close.near close.inside at place

-- ---- beside the answer of a commit

-- A commit whose choice is made while the job is under way leaves it in its pool.
pub goes_behind : (reflow : Reflow) (done : ℕ) (run : JobRun) (holds : List Hold) (chosen : Reflow)
    → IsCommitChoice reflow done holds chosen → GoesOnIn reflow done run
    → GoesOnIn chosen (front_behind reflow done chosen) run
goes_behind reflow done run holds chosen choice goes =
    let moves = choice_moves reflow done run.job holds chosen goes.widening goes.front goes.may_run choice in
    search (front_stays_behind, moves, moved_goes_on)

-- A sector from the front on is asked for where it was.
still_asked : (reflow : Reflow) (done : ℕ) (chosen : Reflow) → MovesMark reflow done chosen
    → (row_end sector device device_sector : ℕ) → done ≤ sector → sector < row_end
    → IsRequiredPlace reflow done row_end sector device device_sector
    → IsRequiredPlace chosen done row_end sector device device_sector
still_asked reflow done chosen moves row_end sector device device_sector from below required =
    search (needs, same_scratch, arith)
  where
    same_scratch : (state : State) → NeedsScratch state reflow done sector
        → NeedsScratch state (record reflow { mark = moves.mark }) done sector
    same_scratch None needs = needs
    same_scratch Valid needs = needs
    same_scratch Moved needs = needs

    needs : NeedsOld reflow.state reflow.mark row_end → NeedsOld reflow.state moves.mark row_end
    needs was = search (by, arith)
      where
        by : (state : State) → state ≡ Moved → NeedsOld state reflow.mark row_end → NeedsOld state moves.mark row_end
        by Moved is needs = search (needs, arith)
        by other is needs = cc

-- It has come as far with each cell.
pub cells_behind : (reflow : Reflow) (done : ℕ) (run : JobRun) (holds : List Hold) (chosen : Reflow) (point : Point)
    → IsCommitChoice reflow done holds chosen → CopiesCells reflow done run point
    → CopiesCells chosen (front_behind reflow done chosen) run point
cells_behind reflow done run holds chosen point choice held = search (front_stays_behind, moves, on, cells)
  where
    moves : MovesMark reflow done chosen
    moves = search (choice_moves, arith)

    on : GoesOnIn chosen done run
    on = search (moved_goes_on, moves)

    ends : job_end chosen run.job ≡ job_end reflow run.job
    ends = search moves

    close_before : (cell : Cell) → IsClose chosen cell → IsClose reflow cell
    close_before cell close = search arith

    cells : point.out ≡ 0 → (wrong : Excepted) → IsClosed wrong → (cell : Cell) → IsClose chosen cell
        → cell.sector < cell.row_end → RightAt point.disk.reads chosen done point.out wrong cell
        → HoldsJob chosen done run point wrong cell
    cells whole wrong closed cell close below right = ⊎_elim
        (search (run_beside, on, arith))
        (λ from_it. ⊎_elim
        (λ within_it. moved_holds reflow done run holds chosen point wrong cell held.goes choice
        (close_before cell close).inside
        (held.each whole wrong closed cell (close_before cell close) below (search (still_asked, moves, job_at_front, arith))))
        (search (run_beside, on, ends, arith)) (cases_lt cell.sector (job_end reflow run.job)))
        (cases_lt cell.sector (job_begin run.job))

-- What the commit holds is none of the job's sectors: they begin at the front.
pub job_holds_else : (core : Core) (chosen : Reflow) (actor : ℕ) (job : CopyRun) → IsCore core
    → MayRecord core.pool.uber.reflow core.pool.done chosen → IsJobOf core job
    → hold_for core.pool.uber.reflow chosen actor ≡ job.hold → ⊥
job_holds_else core chosen actor job is may of same = search (job_at_front, job_some, change_below, arith)
