-- What a step of a commit that a device may join leaves alone, and that a free ring shows no uberblock.
use Rattle.std.proofs.Common.{◌≡◌, inl, inr, ℕ, ◌^◌, ◌<◌, true, None, sym, subst, arith}
use Rattle.bank_trait.specs.Disk.{Disk}
use Rattle.uberblock_ring.specs.Devices.{has_device}
use Rattle.attach_ring.specs.Ring.{HasReadRing, RingRead}
use Rattle.attach_ring.proofs.Rings.{free_shows_none}
use Rattle.core_state.specs.Committing.{Point}
use Rattle.core_state.specs.Rings.{ReadsNoUber}
use Rattle.core_commit.specs.declared.commit_run.CommitStep.{CommitStep}
use Rattle.core_commit.specs.declared.commit_run.CommitStep.TheVariants.{Called}
use Rattle.core_commit.specs.CommitTurns.{CommitRun, CommitSteps}
use Rattle.core_commit.specs.Spared.{HaveGoneOut}
use Rattle.core_commit.specs.Widening.{widened_run}
use Rattle.core_commit.proofs.Stepping.{steps_gone, steps_went}
use Rattle.core_commit.specs.declared.join_run.JoinStep.{JoinStep}
use Rattle.core_commit.specs.declared.join_run.JoinStep.TheVariants.{GoesOn, Joined, Dropped}
use Rattle.core_commit.specs.JoinRun.{JoinRun}
use Rattle.core_commit.specs.JoinTurns.{JoinSteps}
use Rattle.core_commit.specs.Joining.{SparesPool}

-- Nobody goes out for a call on the device that may join.
none_gone : (before after : Point) → after.out ≡ before.out → HaveGoneOut before before.out after
none_gone before after same = record {
  earlier = λ device out. out;
  stay = λ device out. subst (λ (o : ℕ). has_device o device ≡ true) (sym same) out;
  each = λ device out. inl (subst (λ (o : ℕ). has_device o device ≡ true) same out);
}

steps_spare : (result : CommitStep) (run stepped : CommitRun) (width : ℕ) (before after : Point)
    → CommitSteps run before stepped after result → SparesPool width before after
steps_spare result run stepped width before after did =
    let spares = (steps_went result run stepped before after did).spares in
    record { later = spares.later; reads = λ device sector below used region. spares.reads device sector used region }

-- Law: In a step devices go out for calls that failed on them alone, none for a call on the device that may join.
pub join_gone : (old : JoinRun) (before : Point) (result : JoinStep) (after : Point) → JoinSteps old before result after
    → HaveGoneOut before before.out after
join_gone old before (GoesOn new) after (inl pool) = steps_gone Called old.run new.run before after pool.called
join_gone old before (GoesOn new) after (inr (inl laid)) = none_gone before after laid.out
join_gone old before (GoesOn new) after (inr (inr synced)) = none_gone before after synced.out
join_gone old before (Joined run) after did = steps_gone did.result (widened_run old.run) run before after did.steps
join_gone old before (Dropped run why) after did = steps_gone did.result old.run run before after did.steps

-- Law: A step touches the rings and the index areas of the pool's devices alone.
pub join_spares : (old : JoinRun) (before : Point) (result : JoinStep) (after : Point)
    → JoinSteps old before result after
    → SparesPool old.run.uber.reflow.to before after
join_spares old before (GoesOn new) after (inl pool) =
    steps_spare Called old.run new.run old.run.uber.reflow.to before after pool.called
join_spares old before (GoesOn new) after (inr (inl laid)) = record {
  later = laid.wrote.goes_on.later;
  reads = λ device sector below used region. laid.wrote.others_read device sector
      (inl (λ same. omega (arith, same, below)));
}
join_spares old before (GoesOn new) after (inr (inr synced)) = record {
  later = synced.synced.goes_on.later;
  reads = λ device sector below used region. synced.synced.others_read device sector
      (λ same. omega (arith, same, below));
}
join_spares old before (Joined run) after did =
    steps_spare did.result (widened_run old.run) run old.run.uber.reflow.to before after did.steps
join_spares old before (Dropped run why) after did =
    steps_spare did.result old.run run old.run.uber.reflow.to before after did.steps

-- Law: A ring that was read whole, and of which no slot is taken, shows no uberblock.
pub free_is_blank : (disk : Disk) (ring : RingRead) → HasReadRing disk ring → ring.slots ≡ 32 → ring.taken ≡ None
    → ring.device < 2 ^ 32
    → ReadsNoUber disk ring.device
free_is_blank disk ring read whole free fits = record {
  none = λ uber right is. free_shows_none disk ring uber ring.device read whole free right fits is;
}
