-- What a step of a commit that a device may join leaves of its group.
use Rattle.std.proofs.Common.{◌≡◌, inl, inr, ⊎_elim, ℕ, ◌+◌, ◌^◌, ◌<◌, ◌≤◌, List, [], Some, Result, refl, sym, ◌∙◌, ap}
use Rattle.std.proofs.Common.{subst, arith}
use Rattle.std.specs.Prelude.{slice_get}
use Rattle.std.proofs.lemmas.Bool.{cases_lt}
use Rattle.bank_trait.specs.declared.Failed.{Failed}
use Rattle.bank_trait.specs.Disk.{Disk, Later, Synced, Wrote}
use Rattle.uberblock_ring.specs.Uberblock.{area_sector}
use Rattle.uberblock_ring.proofs.DeviceSets.{none_above}
use Rattle.commit_job.specs.declared.call.CommitCall.{CommitCall}
use Rattle.commit_job.specs.Stages.{calls_left, after_next}
use Rattle.core_state.specs.Committing.{Point, point_of}
use Rattle.core_commit.specs.declared.commit_run.CommitStep.{CommitStep}
use Rattle.core_commit.specs.declared.commit_run.CommitStep.TheVariants.{Called, Ended}
use Rattle.core_commit.specs.Ran.{FitsBank, IsLaying, index_part}
use Rattle.core_commit.specs.CommitTurns.{CommitRun, CommitSteps, HasCalled, IsMadeReady}
use Rattle.core_commit.specs.declared.guest.Guest.{Guest}
use Rattle.core_commit.specs.declared.guest.Guest.TheVariants.{Laid, Settled}
use Rattle.core_commit.specs.declared.guest.JoinTurn.TheVariants.{GuestWrite, GuestSync}
use Rattle.core_commit.specs.JoinRun.{JoinRun, IsJoinRun}
use Rattle.core_commit.specs.JoinTurns.{IsNextTurnOf, guest_after, HasLaidGuest, HasSyncedGuest, FitsJoin}

nothing : {call : CommitCall} → slice_get [] 0 ≡ Some call → ⊥
nothing is = cc

some_same : {one two : CommitCall} → Some one ≡ Some two → one ≡ two
some_same same = cc

-- While a call of the first half comes next the second one does not begin.
pub still_lays : (out : ℕ) (run ready : CommitRun) (call : CommitCall)
    → slice_get (calls_left out run.calls) 0 ≡ Some call → IsLaying call → IsMadeReady out run ready → ready ≡ run
still_lays out run ready call next laying (inl (goes, same)) = same
still_lays out run ready call next laying (inr (laid, same)) = absurd (laying (laid.1 call next))

-- A call of the first half was made: of the group nothing has changed but which calls are left.
pub record HasLaidOn (run : CommitRun) (before : Point) (stepped : CommitRun) (after : Point) : Type 0 where
  pub called : HasCalled run before stepped after
  pub left : stepped ≡ record run { calls = after_next before.out run.calls }

pub laid_on : (result : CommitStep) (run stepped : CommitRun) (before after : Point) (call : CommitCall)
    → slice_get (calls_left before.out run.calls) 0 ≡ Some call → IsLaying call
    → CommitSteps run before stepped after result
    → HasLaidOn run before stepped after
laid_on Called run stepped before after call next laying did = record {
  called = did;
  left = did.left ∙ ap (λ (r : CommitRun). record r { calls = after_next before.out run.calls })
      (still_lays before.out run did.ready call next laying did.is_ready);
}
laid_on Ended run stepped before after call next laying did =
    absurd (nothing (subst (λ (calls : List CommitCall). slice_get calls 0 ≡ Some call) did.none next))

-- So the commit stays in its first half.
pub still_joins : (join : JoinRun) (before after : Point) (stepped : JoinRun) → IsJoinRun join
    → HasLaidOn join.run before stepped.run after → IsJoinRun stepped
still_joins join before after stepped is laid = record {
  rest = subst (λ (r : CommitRun). r.uber.reflow.to ≡ r.uber.reflow.from) (sym laid.left) is.rest;
  room = subst (λ (r : CommitRun). r.uber.reflow.to < 16) (sym laid.left) is.room;
  lays = ap (λ (r : CommitRun). r.stage) laid.left ∙ is.lays;
}

-- What can be written on the bank still can.
pub fits_on : (join stepped : JoinRun) (before after : Point) → HasLaidOn join.run before stepped.run after
    → Later before.disk after.disk → FitsJoin join before.out before.disk
    → FitsBank stepped.run.uber stepped.run.entries after.out after.disk → after.out < 2 ^ stepped.run.uber.reflow.to
    → FitsJoin stepped after.out after.disk
fits_on join stepped before after laid later was now below =
    let same : stepped.run.uber.reflow.to ≡ join.run.uber.reflow.to =
    ap (λ (r : CommitRun). r.uber.reflow.to) laid.left in
    record {
      bank = record {
        devices = λ device low used. ⊎_elim
            (λ (old : device < stepped.run.uber.reflow.to). now.devices device old used)
            (λ (new : stepped.run.uber.reflow.to ≤ device).
            let there = was.bank.devices device (omega (arith, low, same))
            (none_above before.out join.run.uber.reflow.to device was.below (omega (arith, new, same))) in
            let devices = later.devices in omega (arith, there, devices))
            (cases_lt device stepped.run.uber.reflow.to);
        few = (let few = was.bank.few in omega (arith, few, same));
        sectors = now.sectors;
        area = now.area;
        counted = now.counted;
        count = now.count;
      };
      below = below;
    }

-- A call on the device that may join, as the code makes it.
module _ (join : JoinRun) (out device : ℕ) (before after : Disk) (result : Result (Unit {0}) Failed) (guest : Guest)
    (device_is : device ≡ join.run.uber.reflow.to) where
  pub guest_laid : (part : ℕ) → IsNextTurnOf join out (GuestWrite part)
      → guest ≡ guest_after result (Laid (part + 1))
      → Wrote before after device (area_sector join.run.uber.area + part) (index_part join.run.entries part) result
      → HasLaidGuest join (point_of out before) (record { run = join.run; guest = guest }) (point_of out after)
  guest_laid part turn guest_is wrote = record {
    part = part;
    turn = turn;
    result = result;
    wrote = subst (λ (d : ℕ). Wrote before after d (area_sector join.run.uber.area + part)
        (index_part join.run.entries part) result) device_is wrote;
    new_is = ap (λ (g : Guest). record { run = join.run; guest = g }) guest_is;
    out = refl;
  }

  pub guest_synced : IsNextTurnOf join out GuestSync → guest ≡ guest_after result Settled
      → Synced before after device result
      → HasSyncedGuest join (point_of out before) (record { run = join.run; guest = guest }) (point_of out after)
  guest_synced turn guest_is synced = record {
    turn = turn;
    result = result;
    synced = subst (λ (d : ℕ). Synced before after d result) device_is synced;
    new_is = ap (λ (g : Guest). record { run = join.run; guest = g }) guest_is;
    out = refl;
  }
