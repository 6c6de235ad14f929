-- The choice of a commit may still be recorded once a job beside it has moved the front.
use Rattle.std.proofs.Common.{◌≡◌, inr, ⊎_elim, ℕ, ◌+◌, ◌<◌, ◌≤◌, List, [], ◌∷◌, Some, refl, sym, ap, subst, arith}
use Rattle.std.specs.Prelude.{Contains}
use Rattle.reflow_mark.specs.declared.reflow.State.{State}
use Rattle.reflow_mark.specs.declared.reflow.State.TheVariants.{None, Valid, Moved}
use Rattle.reflow_mark.specs.declared.reflow.Reflow.{Reflow}
use Rattle.reflow_mark.specs.Reflow.{scratch_end}
use Rattle.range_locks.specs.declared.hold.Hold.{Hold}
use Rattle.range_locks.specs.declared.hold.HoldKind.TheVariants.{Shared}
use Rattle.range_locks.proofs.Lists.{first_listed, listed_cases, none_listed}
use Rattle.reflow_copier.specs.declared.job.Job.{Job}
use Rattle.reflow_copier.specs.declared.job.Job.TheVariants.{Fill, Drain, Chunk}
use Rattle.reflow_copier.specs.Jobs.{job_end}
use Rattle.core_state.specs.JobTurns.{MayRun}
use Rattle.shadow_write.specs.Required.{IsFrontIn}
use Rattle.mark_choice.specs.CommitChoice.{IsChoiceIn, IsFilledOrDrained, IsNextMark, MayRecord, Chooses}
use Rattle.mark_choice.proofs.Recording.{chooses}
use Rattle.mark_choice.proofs.Clear.{next_mark_between}
use Rattle.shadow_write.specs.Band.{IsFrontOf, IsWidening}

abbrev shared_hold : ℕ → ℕ → Hold
shared_hold lo hi = record { lo = lo; hi = hi; actor = 0; kind = Shared }

only : (hold other : Hold) → Contains (hold ∷ []) other → hold ≡ other
only hold other listed = ⊎_elim (λ same. same) (λ none. absurd (none_listed other none))
    (listed_cases hold other [] listed)

-- A hold of a sector keeps the mark there, wherever the front is above it.
next_mark_stays : (mark later next : ℕ) → mark ≤ next → next ≤ later
    → IsNextMark (shared_hold next (next + 1) ∷ []) mark later next
next_mark_stays mark later next above below = record {
  shared = Some next;
  first = (
    above,
    record { hold = own; listed = first_listed own []; shared = refl; begins = refl },
    λ sector from begins. let at = begins_at begins.hold begins.listed in
        let is = begins.begins in omega (arith, at, is),
  );
  next_is = inr (
    (λ straddles. let at = begins_at straddles.hold straddles.listed in
        let low = straddles.begins in omega (arith, at, low, above)),
    omega (arith, below),
  );
}
  where
    own : Hold
    own = shared_hold next (next + 1)

    begins_at : (hold : Hold) → Contains (own ∷ []) hold → next ≡ hold.lo
    begins_at hold listed = ap (λ (h : Hold). h.lo) (only own hold listed)

module _ (reflow : Reflow) (done : ℕ) (chosen : Reflow) (widening : IsWidening reflow) where
  abbrev scratch_hold : Hold
  scratch_hold = shared_hold 0 (scratch_end reflow)

  some : 0 < scratch_end reflow
  some = let widens = widening.expands in omega (arith, widens)

  -- Beside a hold of all that goes through the scratch area nothing is filled or drained for good.
  held_is_not_ready : (later : ℕ) → IsFilledOrDrained reflow later (scratch_hold ∷ []) → ⊥
  held_is_not_ready later ready = ready.clear scratch_hold (first_listed scratch_hold [])
      (record { overlaps = record { begins = some; ends = some }; exclusive = inr refl })

  not_yet : (holds : List Hold) → done ≡ 0 → IsFilledOrDrained reflow done holds → ⊥
  not_yet holds none ready = let all = ready.done_is in omega (arith, none, all, some)

  recorded : (state : State) (later : ℕ) (holds : List Hold) → reflow.state ≡ state
      → IsChoiceIn state reflow later holds chosen → MayRecord reflow later chosen
  recorded state later holds is choice = Chooses holds (subst (λ (s : State). IsChoiceIn s reflow later holds chosen) (sym is) choice)

  choice_in : (state : State) → MayRecord reflow done chosen → reflow.state ≡ state
      → (holds : List Hold) × IsChoiceIn state reflow done holds chosen
  choice_in state records is =
      let its = chooses reflow done chosen widening.expands records in
      (its.0, subst (λ (s : State). IsChoiceIn s reflow done its.0 chosen) is its.1)

  leaves : (job : Job) → IsFrontOf reflow done → MayRun reflow done job → MayRecord reflow done chosen
      → MayRecord reflow (job_end reflow job) chosen
  leaves Fill front may records = let choice = choice_in None records may.0 in
      recorded None (scratch_end reflow) (scratch_hold ∷ []) may.0
      (inr (held_is_not_ready (scratch_end reflow), ⊎_elim (λ ready. absurd (not_yet choice.0 may.2 ready.0)) (λ stays. stays.1) choice.1))
  leaves Drain front may records = let choice = choice_in Valid records may.0 in
      recorded Valid (scratch_end reflow) (scratch_hold ∷ []) may.0
      (inr (held_is_not_ready (scratch_end reflow), ⊎_elim (λ ready. absurd (not_yet choice.0 may.1 ready.0)) (λ stays. stays.1) choice.1))
  leaves (Chunk lo hi) front may records =
      let choice = choice_in Moved records may.0 in
      let low = (subst (λ (s : State). IsFrontIn s reflow done) may.0 front.front).0 in
      let next : ℕ = choice.1.0 in
      let between = next_mark_between choice.0 reflow.mark done next choice.1.1 low in
      recorded Moved hi (shared_hold next (next + 1) ∷ []) may.0
      (next, next_mark_stays reflow.mark hi next between.0 (omega (arith, between.1, may.1, may.2)), choice.1.2)

-- Law: A choice that was made while a job ran may still be recorded once the job has ended.
pub run_leaves_choice : (reflow : Reflow) (done : ℕ) (job : Job) (chosen : Reflow) → IsWidening reflow
    → IsFrontOf reflow done → MayRun reflow done job → MayRecord reflow done chosen
    → MayRecord reflow (job_end reflow job) chosen
run_leaves_choice reflow done job chosen widening front may records =
    leaves reflow done chosen widening job front may records
