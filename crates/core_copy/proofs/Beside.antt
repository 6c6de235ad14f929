-- A commit that chooses its reflow while a job is under way leaves the job as it is.
use Rattle.std.proofs.Common.{◌≡◌, inl, inr, ⊎_elim, ℕ, ◌/◌, ◌<◌, ◌≤◌, Bool, true, false, List, refl, sym, ◌∙◌, ap}
use Rattle.std.proofs.Common.{subst, arith}
use Rattle.std.specs.Prelude.{◌==◌, if◌then◌else◌}
use Rattle.std.proofs.lemmas.Bool.Decides.{nat_tests}
use Rattle.std.proofs.Math.Nat.{div-mul-le_self, le-div_iff_mul-le}
use Rattle.bank_trait.specs.Disk.{Disk}
use Rattle.width_map.specs.Place.{limit_of}
use Rattle.reflow_mark.specs.declared.reflow.State.{State}
use Rattle.reflow_mark.specs.declared.reflow.State.TheVariants.{None, Valid, Moved}
use Rattle.reflow_mark.specs.declared.reflow.Reflow.{Reflow}
use Rattle.reflow_mark.specs.Reflow.{IsMark, sectors_of}
use Rattle.range_locks.specs.declared.hold.Hold.{Hold}
use Rattle.shadow_write.specs.Required.{IsFrontIn}
use Rattle.reflow_copier.specs.declared.job.Job.{Job}
use Rattle.reflow_copier.specs.declared.job.Job.TheVariants.{Fill, Drain, Chunk}
use Rattle.reflow_copier.specs.Jobs.{Spot, job_end, source_of, target_of}
use Rattle.core_state.specs.Whole.{Excepted, Cell, RightAt}
use Rattle.core_state.specs.JobTurns.{MayRun, IsCopied}
use Rattle.mark_choice.specs.CommitChoice.{IsChoiceIn, IsCommitChoice}
use Rattle.mark_choice.proofs.Clear.{next_mark_between}
use Rattle.shadow_write.specs.Band.{IsWidening, IsFrontOf}
use Rattle.core_copy.specs.Behind.{front_behind, front_in}
use Rattle.core_copy.proofs.Advance.{answered_right}
use Rattle.core_copy.specs.Progress.{HasComeTo, MovesMark}
use Rattle.core_copy.proofs.Fronts.{none_moved, valid_moved}

-- The limit goes on with the mark.
limit_goes : (width mark next : ℕ) → 0 < width → mark ≤ next → limit_of width mark ≤ limit_of width next
limit_goes width mark next some on =
    let rows : mark / width ≤ next / width =
    (le-div_iff_mul-le {k = width} {x = mark / width} {y = next} some).1 (omega (arith, div-mul-le_self mark width, on)) in
    omega (arith, rows, on)

stays_put : (reflow : Reflow) (done : ℕ) (chosen : Reflow) → chosen ≡ reflow → MovesMark reflow done chosen
stays_put reflow done chosen is = record { mark = reflow.mark; on = omega arith; within = inl refl; is = is }

-- Law: A commit that is chosen beside a job may move the mark, and changes nothing else.
pub choice_moves : (reflow : Reflow) (done : ℕ) (job : Job) (holds : List Hold) (chosen : Reflow) → IsWidening reflow
    → IsFrontOf reflow done → MayRun reflow done job → IsCommitChoice reflow done holds chosen
    → MovesMark reflow done chosen
choice_moves reflow done Fill holds chosen widening front may choice = ⊎_elim
    (λ ready. absurd (let all = ready.0.done_is in omega (arith, all, may.2, widening.expands)))
    (λ stays. stays_put reflow done chosen stays.1)
    (subst (λ (s : State). IsChoiceIn s reflow done holds chosen) may.0 choice)
choice_moves reflow done Drain holds chosen widening front may choice = ⊎_elim
    (λ ready. absurd (let all = ready.0.done_is in omega (arith, all, may.1, widening.expands)))
    (λ stays. stays_put reflow done chosen stays.1)
    (subst (λ (s : State). IsChoiceIn s reflow done holds chosen) may.0 choice)
choice_moves reflow done (Chunk lo hi) holds chosen widening front may choice =
    let moved : IsChoiceIn Moved reflow done holds chosen = subst (λ (s : State). IsChoiceIn s reflow done holds chosen) may.0 choice in
    let stands : IsFrontIn Moved reflow done = subst (λ (s : State). IsFrontIn s reflow done) may.0 front.front in
    let between = next_mark_between holds reflow.mark done moved.0 moved.1 stands.0 in
    by moved.0 (moved.0 == sectors_of reflow) refl between.0 between.1 moved.2
  where
    by : (next : ℕ) (ends : Bool) → (next == sectors_of reflow) ≡ ends → reflow.mark ≤ next → next ≤ done
        → chosen ≡ (if ends then record { from = reflow.to; to = reflow.to; rows = reflow.rows; mark = 0; state = None }
        else record reflow { state = Moved; mark = next })
        → MovesMark reflow done chosen
    by next true is low high chosen_is =
        let end : next ≡ sectors_of reflow = grind (arith, nat_tests, is) in
        absurd (omega (arith, end, high, may.1, may.2, may.4))
    by next false is low high chosen_is = record {
      mark = next;
      on = low;
      within = inr (may.0, high);
      is = chosen_is ∙ ap (λ (s : State). record { from = reflow.from; to = reflow.to; rows = reflow.rows; mark = next; state = s }) (sym may.0);
    }

-- So the front stays where it is,
same_front : (state : State) (done mark : ℕ) → front_in state state done mark ≡ done
same_front None done mark = refl
same_front Valid done mark = refl
same_front Moved done mark = refl

-- Law: Behind the answer of a commit beside a job the front is the same.
pub front_stays_behind : (reflow : Reflow) (done : ℕ) (chosen : Reflow) → MovesMark reflow done chosen
    → front_behind reflow done chosen ≡ done
front_stays_behind reflow done chosen moves =
    subst (λ (c : Reflow). front_behind reflow done c ≡ done) (sym moves.is) (same_front reflow.state done moves.mark)

-- In Moved a job begins in the pool.
front_inside : (reflow : Reflow) (done : ℕ) (job : Job) → MayRun reflow done job → reflow.state ≡ Moved → done < sectors_of reflow
front_inside reflow done Fill may is = absurd (none_moved (sym may.0 ∙ is))
front_inside reflow done Drain may is = absurd (valid_moved (sym may.0 ∙ is))
front_inside reflow done (Chunk lo hi) may is = omega (arith, may.1, may.2, may.4)

-- Law: Behind that answer the pool is still one that is being widened, and its front where it may be.
pub goes_on_behind : (reflow : Reflow) (done : ℕ) (job : Job) (chosen : Reflow) → IsWidening reflow → IsFrontOf reflow done
    → MayRun reflow done job → MovesMark reflow done chosen
    → IsWidening chosen × IsFrontOf chosen done
goes_on_behind reflow done job chosen widening front may moves =
    subst (λ (c : Reflow). IsWidening c × IsFrontOf c done) (sym moves.is) (⊎_elim
    (λ same. subst (λ (m : ℕ). IsWidening (record reflow { mark = m }) × IsFrontOf (record reflow { mark = m }) done) (sym same)
    (widening, front))
    (λ on. (
      record {
        expands = widening.expands;
        some = widening.some;
        narrow = widening.narrow;
        mark = subst (λ (s : State). IsMark s (record reflow { mark = moves.mark })) (sym on.0)
            (let was : IsMark Moved reflow = subst (λ (s : State). IsMark s reflow) on.0 widening.mark in
            (omega (arith, was.0, moves.on), omega (arith, on.1, front_inside reflow done job may on.0)));
      },
      record {
        front = subst (λ (s : State). IsFrontIn s (record reflow { mark = moves.mark }) done) (sym on.0)
            (let was : IsFrontIn Moved reflow done = subst (λ (s : State). IsFrontIn s reflow done) on.0 front.front in
            (on.1, was.1));
        limit = λ is. let was = front.limit is in
            let further = limit_goes reflow.from reflow.mark moves.mark widening.some moves.on in omega (arith, was, further, moves.on);
      },
    ))
    moves.within)

-- Law: Behind that answer the job may still run.
pub still_may_run : (reflow : Reflow) (done : ℕ) (job : Job) (chosen : Reflow) → IsWidening reflow → MayRun reflow done job
    → MovesMark reflow done chosen → MayRun chosen done job
still_may_run reflow done job chosen widening may moves =
    subst (λ (c : Reflow). MayRun c done job) (sym moves.is) (by job may)
  where
    by : (j : Job) → MayRun reflow done j → MayRun (record reflow { mark = moves.mark }) done j
    by Fill runs = runs
    by Drain runs = runs
    by (Chunk lo hi) runs =
        let further = limit_goes reflow.from reflow.mark moves.mark widening.some moves.on in
        (runs.0, runs.1, runs.2, omega (arith, runs.3, further), runs.4)

-- Law: Behind that answer the job copies the same sectors between the same places.
pub same_targets : (reflow : Reflow) (done : ℕ) (job : Job) (sector : ℕ) (chosen : Reflow) → MovesMark reflow done chosen
    → (job_end chosen job ≡ job_end reflow job) × (source_of chosen job sector ≡ source_of reflow job sector)
    × (target_of chosen job sector ≡ target_of reflow job sector)
same_targets reflow done job sector chosen moves =
    subst (λ (c : Reflow). (job_end c job ≡ job_end reflow job) × (source_of c job sector ≡ source_of reflow job sector)
    × (target_of c job sector ≡ target_of reflow job sector)) (sym moves.is) (by job)
  where
    by : (j : Job) → (let at : Reflow = record reflow { mark = moves.mark } in
        (job_end at j ≡ job_end reflow j) × (source_of at j sector ≡ source_of reflow j sector)
        × (target_of at j sector ≡ target_of reflow j sector))
    by Fill = (refl, refl, refl)
    by Drain = (refl, refl, refl)
    by (Chunk lo hi) = (refl, refl, refl)

-- Law: Behind that answer the job has come as far with each cell of the pool.
pub come_behind : (reflow : Reflow) (done : ℕ) (job : Job) (next : ℕ) (holds : List Hold) (chosen : Reflow) (disk : Disk)
    (out : ℕ) (excepted : Excepted) (cell : Cell) → IsWidening reflow → IsFrontOf reflow done → MayRun reflow done job
    → IsCommitChoice reflow done holds chosen → cell.sector < sectors_of reflow
    → HasComeTo reflow done job next disk out excepted cell
    → HasComeTo chosen done job next disk out excepted cell
come_behind reflow done job next holds chosen disk out excepted cell widening front may choice inside come =
    let moves : MovesMark reflow done chosen = choice_moves reflow done job holds chosen widening front may choice in
    record {
      right = subst (λ (f : ℕ). RightAt disk.reads chosen f out excepted cell) (front_stays_behind reflow done chosen moves)
          (answered_right reflow done holds chosen disk.reads out excepted cell widening front choice inside come.right);
      copied = λ low high. subst (λ (s : Spot). IsCopied excepted disk out s cell)
          (sym (same_targets reflow done job cell.sector chosen moves).2) (come.copied low high);
    }
