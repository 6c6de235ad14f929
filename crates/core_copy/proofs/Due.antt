-- Which job is due, and what its calls are about.
use Rattle.std.proofs.Common.{◌≡◌, ℕ, ◌+◌, ◌/◌, ◌%◌, ◌<◌, ◌≤◌, Bool, true, false, Option, Some, refl, sym, arith}
use Rattle.std.specs.Prelude.{IfSome, IfNone, ◌&&◌, ◌==◌, nat_lt, if◌then◌else◌}
use Rattle.std.specs.Prelude.Option.{None as Nothing}
use Rattle.std.proofs.lemmas.Bool.Decides.{nat_tests}
use Rattle.reflow_mark.specs.declared.reflow.State.{State}
use Rattle.reflow_mark.specs.declared.reflow.State.TheVariants.{None, Valid, Moved}
use Rattle.reflow_mark.specs.declared.reflow.Reflow.{Reflow}
use Rattle.reflow_copier.specs.declared.job.Job.{Job}
use Rattle.reflow_copier.specs.declared.job.Job.TheVariants.{Fill, Drain, Chunk}
use Rattle.reflow_copier.specs.declared.job.CallKind.TheVariants.{Read, Write}
use Rattle.reflow_copier.specs.Jobs.{chunk_end, job_begin, job_end, job_call_of, job_in, next_job_of, read_call}
use Rattle.reflow_copier.specs.Jobs.{source_of, target_of, write_call}
use Rattle.core_state.specs.JobTurns.{MayRun}
use Rattle.shadow_write.specs.Band.{IsWidening, IsFrontOf}
use Rattle.core_copy.specs.Progress.{CopiesSector, IsSource, IsTarget, call_count, call_behind}
use Rattle.core_copy.proofs.Fronts.{job_front}

-- The job that is due may run.
pub due_may_run : (reflow : Reflow) (done : ℕ) → IfSome (next_job_of reflow done) (λ job. MayRun reflow done job)
due_may_run reflow done = by reflow.state refl
  where
    fill : (test : Bool) → ((reflow.to == reflow.from + 1) && (done == 0)) ≡ test → reflow.state ≡ None
        → IfSome (if test then Some Fill else Nothing) (λ job. MayRun reflow done job)
    fill true is unmoved = (unmoved, grind (arith, nat_tests, is), grind (arith, nat_tests, is))
    fill false is unmoved = tt

    drain : (test : Bool) → (done == 0) ≡ test → reflow.state ≡ Valid
        → IfSome (if test then Some Drain else Nothing) (λ job. MayRun reflow done job)
    drain true is valid = (valid, grind (arith, nat_tests, is))
    drain false is valid = tt

    chunk : (test : Bool) → nat_lt done (chunk_end reflow done) ≡ test → reflow.state ≡ Moved
        → IfSome (if test then Some (Chunk done (chunk_end reflow done)) else Nothing) (λ job. MayRun reflow done job)
    chunk true is moved = (moved, refl, grind (arith, nat_tests, is), omega arith, omega arith)
    chunk false is moved = tt

    by : (state : State) → reflow.state ≡ state → IfSome (job_in state reflow done) (λ job. MayRun reflow done job)
    by None is = fill ((reflow.to == reflow.from + 1) && (done == 0)) refl is
    by Valid is = drain (done == 0) refl is
    by Moved is = chunk (nat_lt done (chunk_end reflow done)) refl is

-- So the front that it leaves is one that may be.
pub due_front : (reflow : Reflow) (done : ℕ) → IsWidening reflow → IsFrontOf reflow done
    → IfSome (next_job_of reflow done) (λ job. IsFrontOf reflow (job_end reflow job))
due_front reflow done widening front = by (next_job_of reflow done) (due_may_run reflow done)
  where
    by : (due : Option Job) → IfSome due (λ job. MayRun reflow done job) → IfSome due (λ job. IsFrontOf reflow (job_end reflow job))
    by Nothing may = tt
    by (Some job) may = job_front reflow done job widening front may

-- A call that is left is about a sector of the job,
pub call_inside : (reflow : Reflow) (job : Job) (made : ℕ)
    → IfSome (call_behind reflow job made) (λ call. CopiesSector reflow job (job_begin job + made / 2))
call_inside reflow job made = by (nat_lt made (call_count reflow job)) refl
  where
    by : (left : Bool) → nat_lt made (call_count reflow job) ≡ left
        → IfSome (if left then Some (job_call_of reflow job made) else Nothing) (λ call. CopiesSector reflow job (job_begin job + made / 2))
    by true is = let below : made < call_count reflow job = grind (arith, nat_tests, is) in (omega arith, omega (arith, below))
    by false is = tt

-- which a read reads where the job does, and a write writes there.
pub call_places : (reflow : Reflow) (job : Job) (made : ℕ) → IfSome (call_behind reflow job made)
    (λ call. (call.kind ≡ Read → IsSource reflow job (job_begin job + made / 2) call.device call.device_sector)
    × (call.kind ≡ Write → IsTarget reflow job (job_begin job + made / 2) call.device call.device_sector))
call_places reflow job made = by (nat_lt made (call_count reflow job)) (made % 2 == 0)
  where
    reads_no_write : Read ≡ Write → ⊥
    reads_no_write same = cc

    by : (left reads : Bool) → IfSome (if left then Some (if reads then read_call (source_of reflow job (job_begin job + made / 2))
        else write_call (target_of reflow job (job_begin job + made / 2))) else Nothing)
        (λ call. (call.kind ≡ Read → IsSource reflow job (job_begin job + made / 2) call.device call.device_sector)
        × (call.kind ≡ Write → IsTarget reflow job (job_begin job + made / 2) call.device call.device_sector))
    by true true = (λ is. record { device_is = refl; sector_is = refl }, λ is. absurd (reads_no_write is))
    by true false = (λ is. absurd (reads_no_write (sym is)), λ is. record { device_is = refl; sector_is = refl })
    by false reads = tt

-- Where no call is left the job has come to its end.
pub calls_end : (reflow : Reflow) (job : Job) (made : ℕ) → IfNone (call_behind reflow job made)
    (job_begin job ≤ job_end reflow job → made ≤ call_count reflow job → job_begin job + made / 2 ≡ job_end reflow job)
calls_end reflow job made = by (nat_lt made (call_count reflow job)) refl
  where
    by : (left : Bool) → nat_lt made (call_count reflow job) ≡ left
        → IfNone (if left then Some (job_call_of reflow job made) else Nothing)
        (job_begin job ≤ job_end reflow job → made ≤ call_count reflow job → job_begin job + made / 2 ≡ job_end reflow job)
    by true is = tt
    by false is = λ begun within. let above : call_count reflow job ≤ made = grind (arith, nat_tests, is) in omega (arith, begun, within, above)
