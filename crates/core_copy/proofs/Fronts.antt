-- The front that a job leaves, the groups around it, and the range that a commit holds beside the job.
use Rattle.std.proofs.Common.{◌≡◌, inr, ⊎_elim, ℕ, ◌*◌, ◌<◌, ◌≤◌, Bool, true, false, List, ◌∷◌, refl, sym, ◌∙◌, subst}
use Rattle.std.proofs.Common.{arith}
use Rattle.std.specs.Prelude.{Contains, ◌==◌, if◌then◌else◌}
use Rattle.std.proofs.lemmas.Bool.Decides.{nat_tests}
use Rattle.reflow_mark.specs.declared.reflow.State.{State}
use Rattle.reflow_mark.specs.declared.reflow.State.TheVariants.{None, Valid, Moved}
use Rattle.reflow_mark.specs.declared.reflow.Reflow.{Reflow}
use Rattle.reflow_mark.specs.Reflow.{scratch_end}
use Rattle.range_locks.specs.declared.hold.Hold.{Hold}
use Rattle.range_locks.specs.declared.hold.HoldKind.{HoldKind}
use Rattle.range_locks.specs.declared.hold.HoldKind.TheVariants.{Shared, Exclusive}
use Rattle.range_locks.specs.Holds.{IsClear}
use Rattle.shadow_write.specs.Required.{IsFrontIn}
use Rattle.reflow_copier.specs.declared.job.Job.{Job}
use Rattle.reflow_copier.specs.declared.job.Job.TheVariants.{Fill, Drain, Chunk}
use Rattle.reflow_copier.specs.Jobs.{job_begin, job_end}
use Rattle.core_state.specs.Keeps.{Kept, Setting}
use Rattle.core_state.specs.Free.{IsSpare}
use Rattle.core_state.specs.JobTurns.{MayRun}
use Rattle.core_state.proofs.Laying.{IsPaged}
use Rattle.mark_choice.specs.CommitChoice.{IsChoiceIn, IsCommitChoice, range_of_commit}
use Rattle.mark_choice.specs.Clear.{HasNoShared}
use Rattle.mark_choice.proofs.Clear.{choice_clear, next_mark_between}
use Rattle.shadow_write.specs.Band.{IsWidening, IsFrontOf, copied_of, copied_in, reach_in}
use Rattle.core_copy.specs.Around.{StandAround}
use Rattle.core_copy.proofs.Spare.{copy_is_spare, fill_is_spare}
use Rattle.core_copy.proofs.Advance.{around_more}
use Rattle.core_copy.specs.Progress.{CopiesSector, IsTarget}

-- Law: A job begins at the front.
pub job_at_front : (reflow : Reflow) (done : ℕ) (job : Job) → MayRun reflow done job → job_begin job ≡ done
job_at_front reflow done Fill may = sym may.2
job_at_front reflow done Drain may = sym may.1
job_at_front reflow done (Chunk lo hi) may = may.1

-- Law: A job has sectors to copy.
pub job_some : (reflow : Reflow) (done : ℕ) (job : Job) → IsWidening reflow → MayRun reflow done job
    → job_begin job < job_end reflow job
job_some reflow done Fill widening may = omega (arith, widening.expands)
job_some reflow done Drain widening may = omega (arith, widening.expands)
job_some reflow done (Chunk lo hi) widening may = may.2

-- States are apart.
pub none_moved : None ≡ Moved → ⊥
none_moved same = cc

pub valid_moved : Valid ≡ Moved → ⊥
valid_moved same = cc

-- Law: The front that a job leaves is one that may be.
pub job_front : (reflow : Reflow) (done : ℕ) (job : Job) → IsWidening reflow → IsFrontOf reflow done → MayRun reflow done job
    → IsFrontOf reflow (job_end reflow job)
job_front reflow done Fill widening front may = record {
  front = subst (λ (s : State). IsFrontIn s reflow (scratch_end reflow)) (sym may.0) (inr (may.1, refl));
  limit = λ is. absurd (none_moved (sym may.0 ∙ is));
}
job_front reflow done Drain widening front may = record {
  front = subst (λ (s : State). IsFrontIn s reflow (scratch_end reflow)) (sym may.0) (inr refl);
  limit = λ is. absurd (valid_moved (sym may.0 ∙ is));
}
job_front reflow done (Chunk lo hi) widening front may = record {
  front = subst (λ (s : State). IsFrontIn s reflow hi) (sym may.0)
      (let at = subst (λ (s : State). IsFrontIn s reflow done) may.0 front.front in
      (omega (arith, at.0, may.1, may.2), may.4));
  limit = λ is. omega (arith, may.3);
}

-- Law: New places that were in use before a job are in use behind it.
pub job_reach : (reflow : Reflow) (done : ℕ) (job : Job) → MayRun reflow done job
    → copied_of reflow done ≤ copied_of reflow (job_end reflow job)
job_reach reflow done Fill may =
    subst (λ (s : State). copied_in s done ≤ copied_in s (scratch_end reflow)) (sym may.0) (omega arith)
job_reach reflow done Drain may =
    subst (λ (s : State). copied_in s done ≤ copied_in s (scratch_end reflow)) (sym may.0) (omega (arith, may.1))
job_reach reflow done (Chunk lo hi) may =
    subst (λ (s : State). copied_in s done ≤ copied_in s hi) (sym may.0) (omega (arith, may.1, may.2))

-- Law: Groups that stood around the mark before a job do so behind it.
pub groups_stay : (reflow : Reflow) (done : ℕ) (job : Job) (groups : List Kept) → MayRun reflow done job
    → StandAround reflow (copied_of reflow done) groups
    → StandAround reflow (copied_of reflow (job_end reflow job)) groups
groups_stay reflow done job groups may =
    around_more reflow (copied_of reflow done) (copied_of reflow (job_end reflow job)) groups (job_reach reflow done job may)

-- Law: A job's writes are spare for each group of a row around the mark.
pub job_spare : (setting : Setting) (first : Kept) (later : List Kept) (reflow : Reflow) (done : ℕ) (job : Job)
    (sector device device_sector : ℕ) → IsPaged first → IsWidening reflow → MayRun reflow done job
    → StandAround reflow (copied_of reflow done) (first ∷ later)
    → (job ≡ Fill → (kept : Kept) → Contains (first ∷ later) kept → kept.uber.reflow.state ≡ None)
    → CopiesSector reflow job sector → IsTarget reflow job sector device device_sector
    → IsSpare setting first later device device_sector
job_spare setting first later reflow done Fill sector device device_sector paged widening may around unmoved inside at =
    fill_is_spare setting first later reflow sector device device_sector paged widening (unmoved refl) inside.1 at
job_spare setting first later reflow done Drain sector device device_sector paged widening may around unmoved inside at =
    copy_is_spare setting first later reflow (copied_of reflow done) sector device device_sector paged widening around
    (subst (λ (s : State). copied_in s done ≤ sector) (sym may.0) (omega (arith, may.1)))
    (subst (λ (s : State). sector < reach_in s reflow) (sym may.0) inside.1) at
job_spare setting first later reflow done (Chunk lo hi) sector device device_sector paged widening may around unmoved inside at =
    copy_is_spare setting first later reflow (copied_of reflow done) sector device device_sector paged widening around
    (subst (λ (s : State). copied_in s done ≤ sector) (sym may.0) (omega (arith, may.1, inside.0)))
    (subst (λ (s : State). sector < reach_in s reflow) (sym may.0) (omega (arith, may.3, inside.1))) at

-- A range that nobody shares, below all exclusive holds, is clear to be held alone.
pub range_clear : (holds : List Hold) (lo hi : ℕ) → lo < hi
    → ((hold : Hold) → Contains holds hold → hold.kind ≡ Exclusive → hi ≤ hold.lo)
    → HasNoShared holds (lo, hi)
    → IsClear holds lo hi Exclusive
range_clear holds lo hi some apart unshared hold listed blocks = by hold.kind refl
  where
    begins : hold.lo < hi
    begins = blocks.overlaps.begins

    by : (kind : HoldKind) → hold.kind ≡ kind → ⊥
    by Exclusive is = let far = apart hold listed is in omega (arith, far, begins)
    by Shared is = unshared hold listed is some blocks.overlaps

module _ (from to rows mark done : ℕ) (holds : List Hold) where
  abbrev at : State → Reflow
  at state = record { from = from; to = to; rows = rows; mark = mark; state = state }

  -- in Moved, by whether the mark comes to the end of the pool
  moved_below : (next : ℕ) (ends : Bool) → (next == rows * from) ≡ ends → next ≤ done
      → (range_of_commit (at Moved)
      (if ends then record { from = to; to = to; rows = rows; mark = 0; state = None }
      else record (at Moved) { state = Moved; mark = next })).1 ≤ done
  moved_below next true is low = let end : next ≡ rows * from = grind (arith, nat_tests, is) in omega (arith, end, low)
  moved_below next false is low = low

  below_in : (state : State) (chosen : Reflow) → IsFrontIn state (at state) done → IsChoiceIn state (at state) done holds chosen
      → (range_of_commit (at state) chosen).1 ≤ done
  below_in None chosen front choice = ⊎_elim
      (λ ready. subst (λ (c : Reflow). (range_of_commit (at None) c).1 ≤ done) (sym ready.1)
      (let all = ready.0.done_is in omega (arith, all)))
      (λ stays. subst (λ (c : Reflow). (range_of_commit (at None) c).1 ≤ done) (sym stays.1) (omega arith))
      choice
  below_in Valid chosen front choice = ⊎_elim
      (λ ready. subst (λ (c : Reflow). (range_of_commit (at Valid) c).1 ≤ done) (sym ready.1)
      (let all = ready.0.done_is in omega (arith, all)))
      (λ stays. subst (λ (c : Reflow). (range_of_commit (at Valid) c).1 ≤ done) (sym stays.1) (omega arith))
      choice
  below_in Moved chosen front choice =
      subst (λ (c : Reflow). (range_of_commit (at Moved) c).1 ≤ done) (sym choice.2)
      (moved_below choice.0 (choice.0 == rows * from) refl (next_mark_between holds mark done choice.0 choice.1 front.0).1)

-- What a commit's choice changes is below the front,
pub range_below : (reflow : Reflow) (done : ℕ) (holds : List Hold) (chosen : Reflow) → IsFrontOf reflow done
    → IsCommitChoice reflow done holds chosen → (range_of_commit reflow chosen).1 ≤ done
range_below reflow done holds chosen front choice =
    below_in reflow.from reflow.to reflow.rows reflow.mark done holds reflow.state chosen front.front choice

-- Law: The range that a commit's choice changes is clear to be held alone beside a job.
pub commit_clear : (reflow : Reflow) (done : ℕ) (holds : List Hold) (chosen : Reflow) → IsFrontOf reflow done
    → ((hold : Hold) → Contains holds hold → hold.kind ≡ Exclusive → done ≤ hold.lo)
    → IsCommitChoice reflow done holds chosen
    → (range_of_commit reflow chosen).0 < (range_of_commit reflow chosen).1
    → IsClear holds (range_of_commit reflow chosen).0 (range_of_commit reflow chosen).1 Exclusive
commit_clear reflow done holds chosen front jobs choice some =
    let below = range_below reflow done holds chosen front choice in
    range_clear holds (range_of_commit reflow chosen).0 (range_of_commit reflow chosen).1 some
    (λ hold listed kind. let far = jobs hold listed kind in omega (arith, below, far))
    (choice_clear reflow done holds chosen choice)
