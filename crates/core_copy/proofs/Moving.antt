-- A run beside which the mark of its pool goes on.
use Rattle.std.proofs.Common.{◌≡◌, ◌⊎◌, inl, inr, ⊎_elim, ℕ, ◌<◌, ◌≤◌, List, sym, ◌∙◌, subst, arith}
use Rattle.reflow_mark.specs.declared.reflow.Reflow.{Reflow}
use Rattle.reflow_mark.specs.declared.reflow.State.TheVariants.{Moved}
use Rattle.reflow_mark.specs.Reflow.{scratch_end, sectors_of}
use Rattle.range_locks.specs.declared.hold.Hold.{Hold}
use Rattle.core_state.specs.Committing.{Point}
use Rattle.core_state.specs.Whole.{Cell, Excepted}
use Rattle.mark_choice.specs.CommitChoice.{IsCommitChoice}
use Rattle.core_copy.specs.Progress.{MovesMark}
use Rattle.core_copy.proofs.Beside.{come_behind, goes_on_behind, still_may_run}
use Rattle.core_copy.specs.JobRun.{JobRun, present_sector}
use Rattle.core_copy.specs.Holding.{GoesOnIn, HoldsJob}

-- A mark that has gone on twice has gone on.
moves_then : (first mid last : Reflow) (done : ℕ) → MovesMark first done mid → MovesMark mid done last → MovesMark first done last
moves_then first mid last done one two =
    by (subst (λ (m : Reflow). MovesMark m done last) one.is two)
  where
    within : (mark : ℕ) → (mark ≡ one.mark) ⊎ ((first.state ≡ Moved) × (mark ≤ done))
        → (mark ≡ first.mark) ⊎ ((first.state ≡ Moved) × (mark ≤ done))
    within mark (inr on) = inr on
    within mark (inl same) = ⊎_elim (λ still. inl (same ∙ still))
        (λ on. inr (on.0, omega (arith, same, on.1))) one.within

    by : MovesMark (record first { mark = one.mark }) done last → MovesMark first done last
    by then = record {
      mark = then.mark;
      on = let further = one.on in omega (arith, further, then.on);
      within = within then.mark then.within;
      is = then.is;
    }

-- Law: Behind the answer of a commit that was chosen beside it, a run goes on in the pool.
pub moved_goes_on : (reflow : Reflow) (done : ℕ) (run : JobRun) (chosen : Reflow) → MovesMark reflow done chosen
    → GoesOnIn reflow done run → GoesOnIn chosen done run
moved_goes_on reflow done run chosen moves goes =
    let stands = goes_on_behind reflow done run.job chosen goes.widening goes.front goes.may_run moves in
    record {
      widening = stands.0;
      front = stands.1;
      room = subst (λ (c : Reflow). scratch_end c < sectors_of c) (sym moves.is) goes.room;
      may_run = still_may_run reflow done run.job chosen goes.widening goes.may_run moves;
      moves = moves_then run.reflow reflow chosen done goes.moves moves;
      made = goes.made;
    }

-- Law: Behind that answer a run holds each cell of the pool that it held.
pub moved_holds : (reflow : Reflow) (done : ℕ) (run : JobRun) (holds : List Hold) (chosen : Reflow) (point : Point)
    (excepted : Excepted) (cell : Cell) → GoesOnIn reflow done run → IsCommitChoice reflow done holds chosen
    → cell.sector < sectors_of reflow → HoldsJob reflow done run point excepted cell
    → HoldsJob chosen done run point excepted cell
moved_holds reflow done run holds chosen point excepted cell goes choice inside held = record {
  come = come_behind reflow done run.job (present_sector run) holds chosen point.disk point.out excepted cell goes.widening goes.front
      goes.may_run choice inside held.come;
  held = held.held;
}
