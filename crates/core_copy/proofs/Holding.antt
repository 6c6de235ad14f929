-- What a job under way keeps of a cell, from its begin over each step to its end.
use Rattle.std.proofs.Common.{Contains, ◌≡◌, ◌≢◌, ◌⊎◌, inl, inr, ⊎_elim, ℕ, ◌+◌, ◌/◌, ◌<◌, ◌≤◌, Bool, true, false, List}
use Rattle.std.proofs.Common.{Option, Some, None, Result, Ok, Err, refl, sym, ◌∙◌, ap, subst, arith}
use Rattle.std.specs.Prelude.{◌==◌, ◌&&◌, ◌||◌, IsSome}
use Rattle.std.proofs.lemmas.Bool.Decides.{nat_tests}
use Rattle.bank_trait.specs.declared.Failed.{Failed}
use Rattle.bank_trait.specs.Disk.{Disk, Wrote}
use Rattle.bank_trait.specs.Regions.{Tells}
use Rattle.reflow_mark.specs.declared.reflow.Reflow.{Reflow}
use Rattle.reflow_mark.specs.declared.reflow.State.TheVariants.{None as Unmoved, Valid}
use Rattle.reflow_mark.specs.Reflow.{Expands, sectors_of}
use Rattle.shadow_write.specs.Required.{IsAt, IsRequiredPlace}
use Rattle.reflow_copier.specs.declared.job.Job.{Job}
use Rattle.reflow_copier.specs.declared.job.Job.TheVariants.{Fill, Drain, Chunk}
use Rattle.reflow_copier.specs.Jobs.{Spot as JobSpot, job_begin, job_end, source_of}
use Rattle.uberblock_ring.specs.Devices.{IsWithin, has_device}
use Rattle.uberblock_ring.specs.Uberblock.{Uber}
use Rattle.uberblock_ring.specs.Valid.{IsRightUber}
use Rattle.core_state.specs.Committing.{Called, Point}
use Rattle.core_state.specs.JobTurns.{MayRun}
use Rattle.core_state.specs.Whole.{Cell, Excepted, RightAt}
use Rattle.shadow_write.specs.Band.{IsFrontOf}
use Rattle.core_copy.specs.Around.{IsClose}
use Rattle.core_state.specs.declared.spot.Spot.{Spot}
use Rattle.core_state.specs.PoolBank.{HasPool}
use Rattle.core_state.specs.SpotReads.{HasGiven}
use Rattle.core_copy.specs.Progress.{CopiesSector, HasComeTo, IsOnPool, IsPlaceSoFar, IsSource, IsTarget, call_count}
use Rattle.core_copy.proofs.Beside.{same_targets}
use Rattle.core_copy.proofs.Close.{right_widening}
use Rattle.core_copy.proofs.Fronts.{job_at_front, job_some, none_moved}
use Rattle.core_copy.proofs.Inside.{right_room, target_inside}
use Rattle.core_copy.proofs.Progress.{come_outside, job_ends, job_fails, job_goes_on, put_stays, reads_cell, stays_come}
use Rattle.core_copy.proofs.Progress.{stays_out}
use Rattle.core_copy.specs.JobRun.{JobRun, JobMayBegin, JobSteps, ReadsSector, WritesSector, begun_run, present_sector}
use Rattle.core_copy.specs.JobRun.{source_spot, target_spot}
use Rattle.core_copy.specs.Closed.{IsClosed, IsExceptedAt}
use Rattle.core_copy.specs.Holding.{GoesOnIn, HoldsJob, IsReadExcepted}
use Rattle.core_copy.proofs.Steps.{outs_by_step, present_inside}

-- ---- the run in the pool as it is by now

none_valid : Unmoved ≡ Valid → ⊥
none_valid same = cc

-- Where a job may run, in the pool of a right uberblock, an expansion runs,
run_expands : (uber : Uber) (done : ℕ) (job : Job) → IsRightUber uber → MayRun uber.reflow done job → Expands uber.reflow
run_expands uber done Fill right may = may.1
run_expands uber done Drain right may = ⊎_elim (λ rests. absurd (none_valid (sym rests.2 ∙ may.0))) (λ widens. widens.0) right.reflow
run_expands uber done (Chunk lo hi) right may =
    ⊎_elim (λ rests. absurd (none_moved (sym rests.2 ∙ may.0))) (λ widens. widens.0) right.reflow

-- Law: A job that may run in the pool of a right uberblock may begin.
pub right_begins : (uber : Uber) (done : ℕ) (job : Job) → IsRightUber uber → MayRun uber.reflow done job → JobMayBegin uber.reflow job
right_begins uber done job right may =
    let expands = run_expands uber done job right may in
    record {
      widening = right_widening uber right expands;
      rows = right.rows.1;
      room = right_room uber right expands;
      may_run = subst (λ (front : ℕ). MayRun uber.reflow front job) (sym (job_at_front uber.reflow done job may)) may;
    }

-- Law: A run that begins goes on in its pool.
pub begun_goes_on : (reflow : Reflow) (done : ℕ) (job : Job) → JobMayBegin reflow job → IsFrontOf reflow done
    → MayRun reflow done job → GoesOnIn reflow done (begun_run reflow job)
begun_goes_on reflow done job begins front may = record {
  widening = begins.widening;
  front = front;
  room = begins.room;
  may_run = may;
  moves = record { mark = reflow.mark; on = omega arith; within = inl refl; is = refl };
  made = omega arith;
}

-- Law: A run goes on in its pool over each of its steps.
pub step_goes_on : (reflow : Reflow) (done : ℕ) (run stepped : JobRun) (before after : Point)
    → run.made < call_count run.reflow run.job → JobSteps run before stepped after
    → GoesOnIn reflow done run → GoesOnIn reflow done stepped
step_goes_on reflow done run stepped before after left steps goes = ⊎_elim
    (λ (reads : ReadsSector run before stepped after). moved stepped reads.given reads.next)
    (λ (writes : WritesSector run before stepped after). moved stepped None writes.next)
    steps
  where
    moved : (stepped : JobRun) (read : Option (List ℕ)) → stepped ≡ record run { made = run.made + 1; read = read }
        → GoesOnIn reflow done stepped
    moved stepped read is = subst (λ (r : JobRun). GoesOnIn reflow done r) (sym is) (record {
      widening = goes.widening;
      front = goes.front;
      room = goes.room;
      may_run = goes.may_run;
      moves = goes.moves;
      made = omega (arith, left);
    })

-- Law: The calls of a run that goes on are about sectors of its job.
pub present_in : (reflow : Reflow) (done : ℕ) (run : JobRun) → GoesOnIn reflow done run → run.made < call_count run.reflow run.job
    → CopiesSector reflow run.job (present_sector run)
present_in reflow done run goes left =
    let inside = present_inside run left in
    let end = (same_targets run.reflow done run.job (present_sector run) reflow goes.moves).0 in
    (inside.0, omega (arith, inside.1, end))

-- or the one behind them,
present_at_most : (reflow : Reflow) (done : ℕ) (run : JobRun) → GoesOnIn reflow done run
    → present_sector run ≤ job_end reflow run.job
present_at_most reflow done run goes =
    let some : job_begin run.job < job_end reflow run.job = job_some reflow done run.job goes.widening goes.may_run in
    let end = (same_targets run.reflow done run.job (present_sector run) reflow goes.moves).0 in
    omega (arith, some, end, goes.made)

-- Law: A run reads a sector where its job reads it in the pool as it is by now.
pub source_at : (reflow : Reflow) (done : ℕ) (run : JobRun) → GoesOnIn reflow done run
    → IsSource reflow run.job (present_sector run) (source_spot run).device (source_spot run).device_sector
source_at reflow done run goes =
    subst (λ (s : JobSpot). IsAt s.1 s.0 (source_spot run).device (source_spot run).device_sector)
    (sym (same_targets run.reflow done run.job (present_sector run) reflow goes.moves).1)
    (record { device_is = refl; sector_is = refl })

-- Law: A run writes a sector where its job writes it in the pool as it is by now.
pub target_at : (reflow : Reflow) (done : ℕ) (run : JobRun) → GoesOnIn reflow done run
    → IsTarget reflow run.job (present_sector run) (target_spot run).device (target_spot run).device_sector
target_at reflow done run goes =
    subst (λ (s : JobSpot). IsAt s.1 s.0 (target_spot run).device (target_spot run).device_sector)
    (sym (same_targets run.reflow done run.job (present_sector run) reflow goes.moves).2)
    (record { device_is = refl; sector_is = refl })

-- Law: A bank that has the pool has what a run of it calls.
pub bank_of_run : (reflow : Reflow) (done : ℕ) (run : JobRun) (out : ℕ) (disk : Disk) → GoesOnIn reflow done run
    → HasPool reflow out disk → HasPool run.reflow out disk
bank_of_run reflow done run out disk goes pool =
    by (subst (λ (r : Reflow). HasPool r out disk) goes.moves.is pool)
  where
    by : HasPool (record run.reflow { mark = goes.moves.mark }) out disk → HasPool run.reflow out disk
    by has = record { devices = has.devices; sectors = has.sectors }

-- ---- the begin

-- Law: A run that begins holds each cell that is right at the front.
pub run_begins : (reflow : Reflow) (done : ℕ) (job : Job) (point : Point) (excepted : Excepted) (cell : Cell)
    → RightAt point.disk.reads reflow done point.out excepted cell
    → HoldsJob reflow done (begun_run reflow job) point excepted cell
run_begins reflow done job point excepted cell right = record {
  come = record { right = right; copied = λ low high. absurd (omega (arith, low, high)) };
  held = λ turn. absurd (omega (arith, turn));
}

-- Law: Of a cell outside the job's sectors a run holds no more than that it is right at the front.
pub run_beside : (reflow : Reflow) (done : ℕ) (run : JobRun) (point : Point) (excepted : Excepted) (cell : Cell)
    → GoesOnIn reflow done run
    → (cell.sector < job_begin run.job) ⊎ (job_end reflow run.job ≤ cell.sector)
    → RightAt point.disk.reads reflow done point.out excepted cell
    → HoldsJob reflow done run point excepted cell
run_beside reflow done run point excepted cell goes outside right = record {
  come = come_outside reflow done run.job (present_sector run) point.disk point.out excepted cell
      (⊎_elim (λ before. inl before) (λ behind. inr (omega (arith, behind, some, end, goes.made))) outside) right;
  held = λ turn same. absurd (⊎_elim
      (λ before. omega (arith, before, same))
      (λ behind. omega (arith, behind, same, some, end, goes.made, turn)) outside);
}
  where
    some : job_begin run.job < job_end reflow run.job
    some = job_some reflow done run.job goes.widening goes.may_run

    end : job_end reflow run.job ≡ job_end run.reflow run.job
    end = (same_targets run.reflow done run.job (present_sector run) reflow goes.moves).0

-- ---- a step

-- What a read gave of a cell that is right is the cell.
given_cell : (spot : Spot) (result : Result (Unit {0}) Failed) (bytes : List ℕ) (before : Disk) (cell : Cell)
    → HasGiven before.reads spot result (Some bytes) → before.reads spot.device spot.device_sector ≡ Some cell.bytes
    → bytes ≡ cell.bytes
given_cell spot (Ok value) bytes before cell gave told = gave cell.bytes told
given_cell spot (Err why) bytes before cell gave told = absurd gave

-- Reading the present sector leaves how far the job has come, and what it gives of the cell is the cell.
read_holds : (reflow : Reflow) (done : ℕ) (run stepped : JobRun) (before after : Point) (excepted : Excepted) (cell : Cell)
    → GoesOnIn reflow done run → run.made < call_count run.reflow run.job → cell.sector < cell.row_end
    → ReadsSector run before stepped after → IsWithin before.out after.out
    → HoldsJob reflow done run before excepted cell
    → HoldsJob reflow done stepped after excepted cell
read_holds reflow done run stepped before after excepted cell goes left below reads within holds =
    let turn = reads.turn in
    let same : present_sector run ≡ job_begin run.job + (run.made + 1) / 2 = omega (arith, turn) in
    subst (λ (r : JobRun). HoldsJob reflow done r after excepted cell) (sym reads.next) (record {
      come = subst (λ (n : ℕ). HasComeTo reflow done run.job n after.disk after.out excepted cell) same
          (stays_come reflow done run.job (present_sector run) before.disk after.disk before.out after.out excepted cell within
          (λ d x place in_use. reads.read.unchanged.reads d x) holds.come);
      held = λ odd here none bytes given. is_cell (here ∙ sym same)
          (λ listed. none (subst (λ (s : ℕ). IsExceptedAt excepted s (source_of run.reflow run.job s)) same listed))
          bytes given;
    })
  where
    is_cell : cell.sector ≡ present_sector run → (IsReadExcepted run excepted → ⊥) → (bytes : List ℕ)
        → reads.given ≡ Some bytes → bytes ≡ cell.bytes
    is_cell here trusted bytes given =
        let spot = source_spot run in
        given_cell spot reads.read.result bytes before.disk cell
        (subst (λ (g : Option (List ℕ)). HasGiven before.disk.reads spot reads.read.result g) given reads.read.gave)
        (reads_cell reflow done run.job before.disk.reads before.out excepted cell spot.device spot.device_sector goes.front goes.may_run
        (subst (λ (s : ℕ). CopiesSector reflow run.job s) (sym here) (present_in reflow done run goes left)) below
        (subst (λ (s : ℕ). IsSource reflow run.job s spot.device spot.device_sector) (sym here) (source_at reflow done run goes))
        holds.come.right reads.read.called.in_use (λ listed. trusted
        (subst (λ (s : ℕ). Contains excepted (s, (spot.device, spot.device_sector))) here listed)))

-- A device whose call failed is out.
failed_out : (device : ℕ) (why : Failed) (before after : Point) → Called device (Err why) before after
    → has_device after.out device ≡ true
failed_out device why before after called =
    let test : (device == device) ≡ true = grind (arith, nat_tests) in
    called.out device ∙ ap (λ (b : Bool). has_device before.out device || (b && true)) test
    ∙ ap (λ (b : Bool). b || true) called.in_use

-- Writing what was read of the present sector brings the job past it.
write_comes : (reflow : Reflow) (done : ℕ) (run : JobRun) (bytes : List ℕ) (result : Result (Unit {0}) Failed)
    (before after : Point) (excepted : Excepted) (cell : Cell)
    → GoesOnIn reflow done run → run.made < call_count run.reflow run.job → IsClose reflow cell
    → (cell.sector ≡ present_sector run
    → (Contains excepted (cell.sector, ((target_spot run).device, (target_spot run).device_sector)) → ⊥)
    → bytes ≡ cell.bytes)
    → IsSome (before.disk.reads (target_spot run).device (target_spot run).device_sector)
    → Wrote before.disk after.disk (target_spot run).device (target_spot run).device_sector bytes result
    → Called (target_spot run).device result before after → IsWithin before.out after.out
    → HasComeTo reflow done run.job (present_sector run) before.disk before.out excepted cell
    → HasComeTo reflow done run.job (present_sector run + 1) after.disk after.out excepted cell
write_comes reflow done run bytes (Ok value) before after excepted cell goes left close same told wrote called within come =
    stays_out reflow done run.job (present_sector run + 1) after.disk before.out after.out excepted cell within
    (job_goes_on reflow done run.job (present_sector run) bytes value before.disk after.disk before.out excepted cell _ _
    goes.widening goes.front goes.may_run (present_in reflow done run goes left) close (target_at reflow done run goes)
    same told wrote come)
write_comes reflow done run bytes (Err why) before after excepted cell goes left close same told wrote called within come =
    job_fails reflow done run.job (present_sector run) bytes (Err why) before.disk after.disk before.out after.out excepted cell _ _
    goes.widening goes.front goes.may_run (present_in reflow done run goes left) close (target_at reflow done run goes) wrote within
    (failed_out (target_spot run).device why before after called) come

write_holds : (reflow : Reflow) (done : ℕ) (run stepped : JobRun) (before after : Point) (excepted : Excepted)
    (cell : Cell) → IsClosed excepted → GoesOnIn reflow done run → run.made < call_count run.reflow run.job
    → Tells before.disk → HasPool reflow before.out before.disk
    → IsClose reflow cell → WritesSector run before stepped after → IsWithin before.out after.out
    → HoldsJob reflow done run before excepted cell
    → HoldsJob reflow done stepped after excepted cell
write_holds reflow done run stepped before after excepted cell closed goes left tells pool close writes
    within holds =
    let turn = writes.turn in
    let past : present_sector run + 1 ≡ job_begin run.job + (run.made + 1) / 2 = omega (arith, turn) in
    subst (λ (r : JobRun). HoldsJob reflow done r after excepted cell) (sym writes.next) (record {
      come = subst (λ (n : ℕ). HasComeTo reflow done run.job n after.disk after.out excepted cell) past
          (write_comes reflow done run writes.bytes writes.written.result before after excepted cell goes left close
          (λ here none. holds.held turn here (not_read here none) writes.bytes writes.held) told writes.written.wrote writes.written.called within holds.come);
      held = λ odd. absurd (omega (arith, odd, turn));
    })
  where
    on : IsOnPool reflow (target_spot run).device (target_spot run).device_sector
    on = target_inside reflow done run.job (present_sector run) _ _ goes.widening goes.room goes.may_run
        (present_in reflow done run goes left) (target_at reflow done run goes)

    told : IsSome (before.disk.reads (target_spot run).device (target_spot run).device_sector)
    told = tells _ _ (pool.devices _ on.0 writes.written.called.in_use) (omega (arith, on.1, pool.sectors))

    -- Where the sector may not be wrong at the target, it may not be at the source.
    not_read : cell.sector ≡ present_sector run
        → (Contains excepted (cell.sector, ((target_spot run).device, (target_spot run).device_sector)) → ⊥)
        → IsReadExcepted run excepted → ⊥
    not_read here none listed =
        let same = same_targets run.reflow done run.job (present_sector run) reflow goes.moves in
        none (subst (λ (s : ℕ). Contains excepted (s, ((target_spot run).device, (target_spot run).device_sector)))
        (sym here)
        (subst (IsExceptedAt excepted (present_sector run)) same.2
        (closed.copied reflow run.job (present_sector run) goes.widening (present_in reflow done run goes left)
        (subst (IsExceptedAt excepted (present_sector run)) (sym same.1) listed))))

-- Law: A step keeps what a run holds of each cell, whether its call comes off or not.
pub run_steps : (reflow : Reflow) (done : ℕ) (run stepped : JobRun) (before after : Point) (excepted : Excepted)
    (cell : Cell) → IsClosed excepted → GoesOnIn reflow done run → run.made < call_count run.reflow run.job
    → Tells before.disk → HasPool reflow before.out before.disk
    → IsClose reflow cell → cell.sector < cell.row_end → JobSteps run before stepped after
    → HoldsJob reflow done run before excepted cell
    → HoldsJob reflow done stepped after excepted cell
run_steps reflow done run stepped before after excepted cell closed goes left tells pool close below steps holds =
    let within : IsWithin before.out after.out = (outs_by_step run stepped before after steps).still in
    ⊎_elim
    (λ reads. read_holds reflow done run stepped before after excepted cell goes left below reads within holds)
    (λ writes. write_holds reflow done run stepped before after excepted cell closed goes left tells pool close
    writes within holds)
    steps

-- ---- the end, and calls beside it

-- Law: Once all calls were made each cell is right at the front that the job leaves.
pub run_ends : (reflow : Reflow) (done : ℕ) (run : JobRun) (point : Point) (excepted : Excepted) (cell : Cell)
    → GoesOnIn reflow done run → run.made ≡ call_count run.reflow run.job
    → HoldsJob reflow done run point excepted cell
    → RightAt point.disk.reads reflow (job_end reflow run.job) point.out excepted cell
run_ends reflow done run point excepted cell goes all holds =
    let some : job_begin run.job < job_end reflow run.job = job_some reflow done run.job goes.widening goes.may_run in
    let end = (same_targets run.reflow done run.job (present_sector run) reflow goes.moves).0 in
    job_ends reflow done run.job point.disk point.out excepted cell goes.may_run
    (subst (λ (n : ℕ). HasComeTo reflow done run.job n point.disk point.out excepted cell) (omega (arith, all, some, end)) holds.come)

-- Law: Other calls leave what a run holds of a cell, where they leave what is read of it on devices in use.
pub run_stays : (reflow : Reflow) (done : ℕ) (run : JobRun) (before after : Point) (excepted : Excepted) (cell : Cell)
    → IsWithin before.out after.out
    → ((device device_sector : ℕ) → IsPlaceSoFar reflow done run.job (present_sector run) cell device device_sector
    → has_device after.out device ≡ false
    → after.disk.reads device device_sector ≡ before.disk.reads device device_sector)
    → HoldsJob reflow done run before excepted cell
    → HoldsJob reflow done run after excepted cell
run_stays reflow done run before after excepted cell within same holds = record {
  come = stays_come reflow done run.job (present_sector run) before.disk after.disk before.out after.out excepted cell within same holds.come;
  held = holds.held;
}

-- Law: A put's write of another sector, to where that is required, leaves what a run holds of a cell.
pub run_stays_by_put : (reflow : Reflow) (done : ℕ) (run : JobRun) (row_end other : ℕ) (bytes : List ℕ)
    (result : Result (Unit {0}) Failed) (before after : Point) (excepted : Excepted) (cell : Cell) (device device_sector : ℕ)
    → GoesOnIn reflow done run → IsClose reflow cell → row_end ≤ other + reflow.from → other < sectors_of reflow
    → other ≢ cell.sector → IsRequiredPlace reflow done row_end other device device_sector
    → Wrote before.disk after.disk device device_sector bytes result → IsWithin before.out after.out
    → HoldsJob reflow done run before excepted cell
    → HoldsJob reflow done run after excepted cell
run_stays_by_put reflow done run row_end other bytes result before after excepted cell device device_sector goes close near inside apart required wrote within holds = record {
  come = put_stays reflow done run.job (present_sector run) row_end other bytes result before.disk after.disk before.out after.out excepted
      cell device device_sector goes.widening goes.front goes.may_run (present_at_most reflow done run goes) close near inside apart
      required wrote within holds.come;
  held = holds.held;
}
