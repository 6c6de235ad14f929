-- The call that comes next: it can be made, and making it is the job's step.
use Rattle.std.proofs.Common.{◌≡◌, ◌≢◌, ◌⊎◌, inl, inr, ⊎_elim, ℕ, ◌+◌, ◌%◌, ◌^◌, ◌<◌, Bool, true, false, List, Option}
use Rattle.std.proofs.Common.{Some, None, refl, sym, ◌∙◌, ap, subst, arith}
use Rattle.std.specs.Prelude.{◌==◌, IsSome, nat_lt, if◌then◌else◌}
use Rattle.std.proofs.lemmas.Bool.Decides.{nat_tests}
use Rattle.std.proofs.lemmas.Nat.{pow_pos}
use Rattle.bank_trait.specs.Disk.{Disk}
use Rattle.uberblock_ring.specs.Devices.{has_device}
use Rattle.uberblock_ring.proofs.DeviceSets.{none_in}
use Rattle.reflow_copier.specs.declared.job.JobCall.{JobCall}
use Rattle.reflow_copier.specs.declared.job.CallKind.TheVariants.{Read, Write}
use Rattle.reflow_copier.specs.Jobs.{job_begin, job_call_of, read_call, source_of, target_of, write_call}
use Rattle.core_state.specs.Committing.{Point}
use Rattle.core_state.proofs.Calls.{true_false}
use Rattle.core_state.specs.declared.spot.Spot.{Spot}
use Rattle.core_state.specs.SpotReads.{IsRead}
use Rattle.core_state.proofs.SpotReads.{got_by_step}
use Rattle.core_state.specs.PoolBank.{HasPool}
use Rattle.core_state.specs.Outs.{OnlyFailedGoOut}
use Rattle.core_state.proofs.Outs.{outs_called}
use Rattle.core_state.proofs.Below.{below_by_call}
use Rattle.core_copy.specs.Progress.{CopiesSector, IsOnPool, call_behind, call_count}
use Rattle.core_copy.proofs.Inside.{source_inside, target_inside}
use Rattle.core_copy.specs.JobRun.{HoldsRead, IsCallable, IsJobRun, IsSpotWritten, JobRun, JobSteps, MakesCall}
use Rattle.core_copy.specs.JobRun.{present_sector, source_spot, spot_called, target_spot}

-- The next call reads the present sector at its source, or writes it at its target.
pub record IsReadCall (run : JobRun) (call : JobCall) : Type 0 where
  pub turn : run.made % 2 ≡ 0
  pub kind : call.kind ≡ Read
  pub spot : spot_called call ≡ source_spot run

pub record IsWriteCall (run : JobRun) (call : JobCall) : Type 0 where
  pub turn : run.made % 2 ≡ 1
  pub kind : call.kind ≡ Write
  pub spot : spot_called call ≡ target_spot run

write_no_read : (call : JobCall) → call.kind ≡ Write → call.kind ≢ Read
write_no_read call writes reads = cc

-- A call that is behind those made is one of the two,
pub call_turns : (run : JobRun) (call : JobCall) → call_behind run.reflow run.job run.made ≡ Some call
    → IsReadCall run call ⊎ IsWriteCall run call
call_turns run call is =
    by (nat_lt run.made (call_count run.reflow run.job)) (run.made % 2 == 0) refl is
  where
    same_call : (one : JobCall) → Some one ≡ Some call → one ≡ call
    same_call one same = cc

    by : (left reads : Bool) → (run.made % 2 == 0) ≡ reads
        → (if left then Some (if reads then read_call (source_of run.reflow run.job (present_sector run))
        else write_call (target_of run.reflow run.job (present_sector run))) else None) ≡ Some call
        → IsReadCall run call ⊎ IsWriteCall run call
    by true true turn next = inl (subst (λ (c : JobCall). IsReadCall run c) (same_call _ next)
        (record { turn = grind (arith, nat_tests, turn); kind = refl; spot = refl }))
    by true false turn next = inr (subst (λ (c : JobCall). IsWriteCall run c) (same_call _ next)
        (record { turn = grind (arith, nat_tests, turn); kind = refl; spot = refl }))
    by false reads turn next = absurd (cc)

-- and is left.
pub call_left : (run : JobRun) (call : JobCall) → call_behind run.reflow run.job run.made ≡ Some call
    → run.made < call_count run.reflow run.job
call_left run call is = by (nat_lt run.made (call_count run.reflow run.job)) refl is
  where
    by : (left : Bool) → nat_lt run.made (call_count run.reflow run.job) ≡ left
        → (if left then Some (job_call_of run.reflow run.job run.made) else None) ≡ Some call
        → run.made < call_count run.reflow run.job
    by true is next = grind (arith, nat_tests, is)
    by false is next = absurd (cc)

-- The present sector is one of the job's while a call is left,
pub present_inside : (run : JobRun) → run.made < call_count run.reflow run.job
    → CopiesSector run.reflow run.job (present_sector run)
present_inside run left = (omega arith, omega (arith, left))

-- so source and target are on the pool.
pub source_on_pool : (run : JobRun) → IsJobRun run → run.made < call_count run.reflow run.job
    → IsOnPool run.reflow (source_spot run).device (source_spot run).device_sector
source_on_pool run is left =
    source_inside run.reflow (job_begin run.job) run.job (present_sector run) _ _ is.begun.widening is.begun.room is.begun.may_run
    (present_inside run left) (record { device_is = refl; sector_is = refl })

pub target_on_pool : (run : JobRun) → IsJobRun run → run.made < call_count run.reflow run.job
    → IsOnPool run.reflow (target_spot run).device (target_spot run).device_sector
target_on_pool run is left =
    target_inside run.reflow (job_begin run.job) run.job (present_sector run) _ _ is.begun.widening is.begun.room is.begun.may_run
    (present_inside run left) (record { device_is = refl; sector_is = refl })

-- The spot of the next call is on the pool,
pub call_on_pool : (run : JobRun) (call : JobCall) → IsJobRun run
    → call_behind run.reflow run.job run.made ≡ Some call
    → IsOnPool run.reflow (spot_called call).device (spot_called call).device_sector
call_on_pool run call is next = ⊎_elim
    (λ (reads : IsReadCall run call). subst (λ (s : Spot). IsOnPool run.reflow s.device s.device_sector) (sym reads.spot)
    (source_on_pool run is (call_left run call next)))
    (λ (writes : IsWriteCall run call). subst (λ (s : Spot). IsOnPool run.reflow s.device s.device_sector) (sym writes.spot)
    (target_on_pool run is (call_left run call next)))
    (call_turns run call next)

-- so the call can be made while no device is out,
pub call_can_be_made : (run : JobRun) (call : JobCall) (out : ℕ) (disk : Disk) → IsJobRun run
    → call_behind run.reflow run.job run.made ≡ Some call → out ≡ 0 → HasPool run.reflow out disk
    → IsCallable (spot_called call) out disk
call_can_be_made run call out disk is next whole pool =
    let on : IsOnPool run.reflow (spot_called call).device (spot_called call).device_sector = call_on_pool run call is next in
    let used = subst (λ (o : ℕ). has_device o call.device ≡ false) (sym whole) (none_in call.device) in
    record {
      in_use = used;
      device = pool.devices call.device on.0 used;
      few = omega (arith, on.0, is.begun.widening.expands, is.begun.widening.narrow);
      device_sector = omega (arith, on.1, pool.sectors);
    }

-- and a write has bytes to write.
pub write_has_bytes : (run : JobRun) (call : JobCall) → HoldsRead run
    → call_behind run.reflow run.job run.made ≡ Some call → call.kind ≢ Read → IsSome run.read
write_has_bytes run call read next writes = ⊎_elim
    (λ (reads : IsReadCall run call). absurd (writes reads.kind))
    (λ (is : IsWriteCall run call). let held = read is.turn in subst IsSome (sym held.1) refl)
    (call_turns run call next)

-- Making the next call is the job's step.
pub call_steps : (run stepped : JobRun) (call : JobCall) (given : Option (List ℕ)) (before after : Point)
    → call_behind run.reflow run.job run.made ≡ Some call → MakesCall call run.read given before after
    → stepped ≡ record run { made = run.made + 1; read = given }
    → JobSteps run before stepped after
call_steps run stepped call given before after next made is = ⊎_elim
    (λ (reads : IsReadCall run call). ⊎_elim
    (λ read. inl (record {
      turn = reads.turn;
      given = given;
      read = subst (λ (s : Spot). IsRead s given before after) reads.spot read.1;
      next = is;
    }))
    (λ wrote. absurd (wrote.0 reads.kind))
    made)
    (λ (writes : IsWriteCall run call). ⊎_elim
    (λ read. absurd (write_no_read call writes.kind read.0))
    (λ wrote. inr (record {
      turn = writes.turn;
      bytes = wrote.2.0;
      held = wrote.2.1;
      written = subst (λ (s : Spot). IsSpotWritten s wrote.2.0 before after) writes.spot wrote.2.2;
      next = is ∙ ap (λ (r : Option (List ℕ)). record run { made = run.made + 1; read = r }) wrote.1;
    }))
    made)
    (call_turns run call next)

-- A step puts a device out only where its call failed,
pub outs_by_step : (run stepped : JobRun) (before after : Point) → JobSteps run before stepped after
    → OnlyFailedGoOut before after
outs_by_step run stepped before after (inl reads) =
    outs_called (source_spot run).device reads.read.result before after reads.read.called reads.read.failed
outs_by_step run stepped before after (inr writes) =
    outs_called (target_spot run).device writes.written.result before after writes.written.called writes.written.wrote.failed

-- and one of the pool.
pub below_by_step : (run stepped : JobRun) (before after : Point) → IsJobRun run
    → run.made < call_count run.reflow run.job → before.out ≡ 0 → JobSteps run before stepped after
    → after.out < 2 ^ run.reflow.to
below_by_step run stepped before after is left whole steps = by steps
  where
    none_below : before.out < 2 ^ run.reflow.to
    none_below = subst (λ (out : ℕ). out < 2 ^ run.reflow.to) (sym whole) (pow_pos run.reflow.to)

    by : JobSteps run before stepped after → after.out < 2 ^ run.reflow.to
    by (inl reads) = below_by_call (source_spot run).device reads.read.result before after run.reflow.to reads.read.called
        (source_on_pool run is left).0 none_below
    by (inr writes) = below_by_call (target_spot run).device writes.written.result before after run.reflow.to writes.written.called
        (target_on_pool run is left).0 none_below

-- While no device is out, a read has come off.
pub read_by_step : (run stepped : JobRun) (before after : Point) → JobSteps run before stepped after → after.out ≡ 0
    → HoldsRead stepped
read_by_step run stepped before after (inl reads) whole =
    subst (λ (r : JobRun). HoldsRead r) (sym reads.next) (λ turn. by reads.given reads.read)
  where
    by : (given : Option (List ℕ)) → IsRead (source_spot run) given before after → (bytes : List ℕ) × (given ≡ Some bytes)
    by (Some bytes) read = (bytes, refl)
    by None read = absurd (true_false (sym (got_by_step (source_spot run) None before after (inr read))
        ∙ subst (λ (o : ℕ). has_device o (source_spot run).device ≡ false) (sym whole) (none_in (source_spot run).device)))
read_by_step run stepped before after (inr writes) whole =
    subst (λ (r : JobRun). HoldsRead r) (sym writes.next) (λ (turn : (run.made + 1) % 2 ≡ 1). absurd (let even = writes.turn in omega (arith, even, turn)))
