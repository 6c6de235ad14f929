-- What stands between two turns stands over each turn of a job, and so does what images keep.
use Rattle.core_turns.proofs.Words.{◌≡◌, inl, inr, ⊎_elim, ℕ, ◌<◌, ◌≤◌, List, [], ◌∷◌, Option, refl, sym, ◌∙◌, ap}
use Rattle.core_turns.proofs.Words.{subst, arith, Contains, Disk, Lawful, Tells, TouchesOnly, Hold, Reflow, Layout}
use Rattle.core_turns.proofs.Words.{Gains, Fill, IsWithin, Uber, count_none, AreAlike, Map, Kept, Setting, IsSound}
use Rattle.core_turns.proofs.Words.{point_of, IsSpare, IsRowOf, KeepsSince, Cell, RightAt, contains_cases}
use Rattle.core_turns.proofs.Words.{contains_none, contains_head, contains_tail, chooses, around_alone, around_begins}
use Rattle.core_turns.proofs.Words.{IsCommitChoice, copied_of, IsCellIn, IsClose, StandAround, CopiesSector, IsTarget}
use Rattle.core_turns.proofs.Words.{MovesMark, call_count, choice_moves, sound_close, job_at_front, job_spare}
use Rattle.core_turns.proofs.Words.{target_free, gains_cases, gains_item, gains_old, IsInPool, CommitRun, shown_at}
use Rattle.core_turns.proofs.Words.{Stage, Lays, sound_paged, begun_run, present_sector, HoldsJob, present_in}
use Rattle.core_turns.proofs.Words.{run_begins, run_steps, step_goes_on, target_at, listed_in_pool, CopyRun, Core}
use Rattle.core_turns.proofs.Words.{CoreState, IsCore, as_begun, at_disk, HasBankOf, BeginsJobSo, CopiesCells, DropsJob}
use Rattle.core_turns.proofs.Words.{IsJobOf, StepsJob, HoldingCall, Putting, Reading, Scrubbing, Copying, AreBeside}
use Rattle.core_turns.proofs.Words.{AreCallsOf, CommitStands, Damage, Excepted, HoldsCall, IsCallOfCore, Stands}
use Rattle.core_turns.proofs.Words.{shown_of}
use Rattle.reflow_mark.specs.declared.reflow.State.TheVariants.{None as Unmoved}
use Rattle.uberblock_ring.specs.Devices.{count_of}
use Rattle.core_commit.specs.declared.commit_run.Stage.TheVariants.{Signs}
use Rattle.core_turns.proofs.free.TakenBack.{each_gained}
use Rattle.core_turns.proofs.state.Cores.{bank_has, bank_within}
use Rattle.core_turns.proofs.state.Frames.{AreOff, IsCallOff, IsOff}
use Rattle.core_turns.proofs.read.Stands.{AddsNoPut, call_loses, stands_held}
use Rattle.core_turns.proofs.state.Holds.{alone_beside, alone_passes, KeepsAlone}
use Rattle.core_turns.proofs.copy.Beside.{off_target}
use Rattle.core_turns.proofs.copy.Calls.{one_job}
use Rattle.core_turns.proofs.copy.Laws.{all_used, target_data}
use Rattle.core_turns.proofs.state.Reads.{of_map_fewer, reads_beside, reads_less}
use Rattle.core_turns.proofs.copy.Turns.{IsWrittenBy, due_runs, hold_at_front, none_left, step_touches_target}
use Rattle.core_turns.proofs.state.Writes.{AreSpare, off_call, off_right, since_written, writes_stand}

-- A job that comes adds no put.
job_adds : {left calls : List HoldingCall} {run : CopyRun} → Gains left calls (Copying run) → AddsNoPut left calls
job_adds {left} {calls} {run} gains put listed = ⊎_elim
    (λ (same : Copying run ≡ Putting put). cc)
    (λ was. was) (gains_cases left calls (Copying run) (Putting put) gains listed)

-- No device is none.
none_counted : count_of 0 ≡ 0
unfolding count_of
none_counted = count_none 64

-- ---- its hold beside that of a commit

-- What a commit holds it holds still, beside the hold of a job that begins,
pub job_begins_alone : {old new : Core} {run : CopyRun} {actor : ℕ} → BeginsJobSo old new actor run
    → KeepsAlone old.pool.done old.holds new.holds
job_begins_alone {old} {new} {run} begins hold exclusive =
    let lo : run.hold.lo ≡ old.pool.done = search (job_at_front, due_runs, arith) in
    alone_beside old.pool.done old.holds new.holds run.hold hold exclusive (cc) (omega arith) begins.holds

-- or of one that is given up.
pub job_drops_alone : {old new : Core} {run : CopyRun} → IsCore old → DropsJob old new run → IsJobOf old run
    → KeepsAlone old.pool.done old.holds new.holds
job_drops_alone {old} {new} {run} is drops of hold exclusive =
    alone_passes old.pool.done old.pool.done old.holds new.holds run.hold hold exclusive (cc)
    (omega (arith, hold_at_front of)) (omega arith) (none_left is of drops.ends).1 drops.ends

-- ---- what stands

module _ {setting : Setting} {last : Kept} {begun : List Kept} {map : Map} {damage : Damage} {contents : ℕ → List ℕ}
    {commit : Option CommitRun} where
  -- A job begins: it has copied nothing.
  pub job_begins_stands : {old new : Core} {disk : Disk} {run : CopyRun} {left calls : List HoldingCall} (actor : ℕ)
      → IsCore old → BeginsJobSo old new actor run → Gains left calls (Copying run)
      → Stands setting last begun map damage contents left commit (at_disk old disk)
      → Stands setting last begun map damage contents calls commit (at_disk new disk)
  job_begins_stands {old} {new} {disk} {run} {left} {calls} actor is begins gains stands =
      stands_held old new disk is (cc) (job_begins_alone begins) (job_adds gains)
      (of_map_fewer map refl (reads_beside refl (λ other was. refl) gains))
      (each_gained gains (inl copies) (λ call was. inr (stands.each call was))) stands
    where
      begins_cell : (wrong : Excepted) (cell : Cell)
          → RightAt disk.reads new.pool.uber.reflow new.pool.done new.pool.out wrong cell
          → HoldsJob new.pool.uber.reflow new.pool.done (begun_run old.pool.uber.reflow run.job.job)
          (point_of new.pool.out disk) wrong cell
      begins_cell cell right = search (run_begins, arith)

      copies : HoldsCall damage (at_disk new disk) [] (Copying run)
      copies = search (begins_cell, arith)

  -- A job is given up: the others stand as they did.
  pub job_drops_stands : {old new : Core} {disk : Disk} {run : CopyRun} {left calls : List HoldingCall} → IsCore old
      → DropsJob old new run → IsJobOf old run → Gains left calls (Copying run)
      → Stands setting last begun map damage contents calls commit (at_disk old disk)
      → Stands setting last begun map damage contents left commit (at_disk new disk)
  job_drops_stands {old} {new} {disk} is drops of gains stands =
      stands_held old new disk is (cc) (job_drops_alone is drops of) (call_loses gains)
      (of_map_fewer map refl (reads_less gains))
      (λ call listed. inr (stands.each call (search gains_old))) stands

-- ---- a step

-- The step is no failed one where no device is out behind it.
module _ {before after : CoreState} {run next : CopyRun} (is : IsCore before.core)
    (lawful : Lawful before.disk) (steps : StepsJob before run after next) (of : IsJobOf before.core run)
    (some : run.job.made < call_count run.job.reflow run.job.job)
    (within : IsWithin before.core.pool.out after.core.pool.out) where
  abbrev reflow : Reflow
  reflow = before.core.pool.uber.reflow

  abbrev done : ℕ
  done = before.core.pool.done

  -- where the job writes
  abbrev places : ℕ → ℕ → Type 0
  places = IsWrittenBy run.job

  touched : TouchesOnly places before.disk after.disk
  touched = search step_touches_target

  -- The sector is one of the job's,
  inside : CopiesSector reflow run.job.job (present_sector run.job)
  inside = present_in reflow done run.job of.goes some

  -- and what is written is its target.
  at_target : (device device_sector : ℕ) → places device device_sector
      → IsTarget reflow run.job.job (present_sector run.job) device device_sector
  at_target device device_sector place = search (target_at, arith)

  -- Blocks of the pool are off it,
  layout_off : {layout : Layout} → IsInPool layout reflow → IsOff places reflow done layout
  layout_off pool content cell device device_sector cell_is place written = search (off_target, inside, at_target)

  table_off : AreOff places before.core
  table_off entry listed = layout_off (listed_in_pool (as_begun before.core) entry is.is is.step listed)

  -- and so is what other calls rely on.
  call_off : (call : HoldingCall) → AreBeside (Copying run) call → IsCallOfCore before.core call
      → IsCallOff places reflow done call
  call_off (Putting put) beside its = layout_off its.pool
  call_off (Reading get) beside its = layout_off its.1.pool
  call_off (Scrubbing scrub) beside its = (
    layout_off (rw its.layout at its.mend.pool),
    layout_off its.mend.pool,
  )
  call_off (Copying other) beside its = absurd (beside.actors (one_job of its))

  -- Not too many devices are out: none is.
  few : count_of before.core.pool.out ≤ before.core.pool.uber.parity
  few = search (none_counted, arith)

  -- It has come one step further with each cell.
  copies_on : Tells before.disk → HasBankOf before.core before.disk
      → CopiesCells reflow done run.job (point_of before.core.pool.out before.disk)
      → CopiesCells reflow done next.job (point_of after.core.pool.out after.disk)
  copies_on tells bank held = record {
    goes = search step_goes_on;
    each = λ whole wrong closed cell close below right.
        run_steps reflow done run.job next.job (point_of before.core.pool.out before.disk)
        (point_of after.core.pool.out after.disk) wrong cell closed of.goes some tells
        (search (bank_has, bank_within, arith)) close below steps.steps
        (held.each steps.whole wrong closed cell close below (record {
          at = λ device device_sector place used kept.
              sym (touched.reads device device_sector (search (target_free, inside, at_target)))
              ∙ right.at device device_sector place (all_used after.core.pool.out device whole) kept;
        }));
  }

  -- ---- the groups

  module _ (setting : Setting) (last : Kept) (begun : List Kept) (calls : List HoldingCall)
      (alike : AreAlike before.core.pool.uber last.uber) where
    last_reflow : last.uber.reflow ≡ reflow
    last_reflow = sym (ap (λ (u : Uber). u.reflow) alike)

    -- The last group stands around the mark.
    last_around : IsSound setting last → StandAround reflow (copied_of reflow done) (last ∷ [])
    last_around sound = subst (λ (r : Reflow). StandAround r (copied_of r done) (last ∷ [])) last_reflow
        (search (around_alone, last_reflow, sound_close))

    -- A fill is made while the last group has come no further than None.
    last_unmoved : run.job.job ≡ Fill → last.uber.reflow.state ≡ Unmoved
    last_unmoved fill = search (last_reflow, arith)

    spare_of : (later : List Kept) → IsSound setting last → StandAround reflow (copied_of reflow done) (last ∷ later)
        → (run.job.job ≡ Fill → (kept : Kept) → Contains (last ∷ later) kept → kept.uber.reflow.state ≡ Unmoved)
        → (device device_sector : ℕ) → places device device_sector → IsSpare setting last later device device_sector
    spare_of later sound around unmoved device device_sector written =
        search (job_spare, sound_paged, inside, at_target)

    -- Beside a commit its group is another of the row.
    module _ (commit : CommitRun) (groups : CommitStands setting last begun calls commit before) where
      choice : (holds : List Hold) × IsCommitChoice reflow done holds commit.uber.reflow
      choice = chooses reflow done commit.uber.reflow of.goes.widening.expands groups.of.next.choice

      moves : MovesMark reflow done commit.uber.reflow
      moves = choice_moves reflow done run.job.job choice.0 commit.uber.reflow of.goes.widening of.goes.front
          of.goes.may_run choice.1

      next_reflow : groups.next.uber.reflow ≡ commit.uber.reflow
      next_reflow = search arith

      next_close : (cell : Cell) → IsCellIn groups.next cell → IsClose reflow cell
      next_close cell its = subst (λ (r : Reflow). IsClose r cell → IsClose reflow cell) (sym (next_reflow ∙ moves.is))
          (search (inside, arith)) (search sound_close)

      next_around : StandAround reflow (copied_of reflow done) (last ∷ groups.next ∷ [])
      next_around = around_begins reflow done choice.0 last groups.next of.goes.widening of.goes.front
          (subst (IsCommitChoice reflow done choice.0) (sym next_reflow) choice.1)
          next_close (last_around groups.come.sound_first)

      next_unmoved : run.job.job ≡ Fill → (kept : Kept) → Contains (last ∷ groups.next ∷ []) kept
          → kept.uber.reflow.state ≡ Unmoved
      next_unmoved fill kept listed = search (last_unmoved, next_reflow, contains_none, contains_cases, arith)

      spare_both : (device device_sector : ℕ) → places device device_sector
          → IsSpare setting last (groups.next ∷ []) device device_sector
      spare_both = search (spare_of, next_around, next_unmoved)

      spare_shown : (stage : Stage) (device device_sector : ℕ) → places device device_sector
          → IsSpare setting last (shown_at groups.next stage) device device_sector
      spare_shown Signs device device_sector written = spare_both device device_sector written
      spare_shown Lays device device_sector written =
          let both = spare_both device device_sector written in
          record {
            ring = both.ring;
            page = both.page;
            cells = λ kept bytes listed. both.cells kept bytes
                (search (contains_head, contains_none, contains_cases, arith));
          }

    -- So nobody asks for what the job writes.
    spare_now : AreSpare places setting last begun calls before
    spare_now = record {
      alone = λ groups. rw (groups.whole few).0 (spare_of [] groups.knows.sound (last_around groups.knows.sound)
          (search (last_unmoved, contains_none, contains_cases, arith)));
      shown = λ commit groups. spare_shown commit groups commit.stage;
      beside = λ commit groups. record {
        region = λ device device_sector written. search (target_data, inside, at_target);
        not_first = λ device device_sector bytes written. (spare_both commit groups device device_sector written).cells
            last bytes (contains_head last (groups.next ∷ []));
        not_next = λ device device_sector bytes written. (spare_both commit groups device device_sector written).cells
            groups.next bytes (search (contains_tail, contains_head));
      };
    }

  -- ---- all that stands

  module _ {setting : Setting} {last : Kept} {begun : List Kept} {map : Map} {damage : Damage} {contents : ℕ → List ℕ}
      {commit : Option CommitRun} {left calls : List HoldingCall} (gains : Gains left calls (Copying run))
      (are : AreCallsOf before.core calls)
      (stands : Stands setting last begun map damage contents calls commit before) where
    -- A step of a job leaves what stands, and has come one call further.
    pub job_steps_stands : {nexts : List HoldingCall} → Lawful after.disk → Gains left nexts (Copying next)
        → Stands setting last begun map damage contents nexts commit after
    job_steps_stands still_lawful again =
        writes_stand after touched within lawful few (spare_now setting last begun calls stands.alike) steps.rest
        still_lawful (off_right before after touched within is.is.front damage.left table_off)
        (λ other beside its. off_call before after touched within is.is.front damage other
        (call_off other beside its))
        gains again (refl, ap (λ (h : Hold). h.actor) steps.hold)
        (λ group spares put listed. spares put (call_loses gains put (job_adds again put listed)))
        (copies_on stands.tells stands.bank (stands.each (Copying run) (gains_item left calls (Copying run) gains))) are
        stands

    -- Each image keeps what it kept, at each moment of it.
    pub job_steps_since : (groups : List Kept) (time : ℕ) → IsRowOf groups last (shown_of begun commit)
        → KeepsSince setting groups time before.disk → KeepsSince setting groups time after.disk
    job_steps_since groups time row =
        since_written after touched within lawful few (spare_now setting last begun calls stands.alike) commit groups
        time row stands.groups
