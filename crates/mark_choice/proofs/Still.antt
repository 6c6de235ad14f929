-- A commit at the front of an opening records the reflow as it stands, and holds nothing.
use Rattle.std.proofs.Common.{◌≡◌, ⊎_elim, ℕ, ◌+◌, ◌*◌, ◌<◌, Bool, true, false, List, refl, sym, subst, arith, ◌∙◌, ap}
use Rattle.std.specs.Prelude.{◌==◌, if◌then◌else◌}
use Rattle.std.proofs.lemmas.Bool.Decides.{nat_tests}
use Rattle.reflow_mark.specs.declared.reflow.State.{State}
use Rattle.reflow_mark.specs.declared.reflow.State.TheVariants.{None, Valid, Moved}
use Rattle.reflow_mark.specs.declared.reflow.Reflow.{Reflow}
use Rattle.reflow_mark.specs.Reflow.{Expands, IsRightReflow}
use Rattle.range_locks.specs.declared.hold.Hold.{Hold}
use Rattle.shadow_write.specs.Required.{front_after_stop}
use Rattle.mark_choice.specs.CommitChoice.{IsChoiceIn, IsCommitChoice, range_of_commit}
use Rattle.mark_choice.proofs.Clear.{next_mark_between}

not_at_rest : Moved ≡ None → ⊥
not_at_rest same = cc

module _ (from to rows mark done : ℕ) (holds : List Hold) where
  abbrev at : State → Reflow
  at state = record { from = from; to = to; rows = rows; mark = mark; state = state }

  -- A mark that is not at the end of the pool and stays.
  mark_stays : (next : ℕ) (ends : Bool) → (next == rows * from) ≡ ends → next ≡ mark → mark < rows * from
      → (if ends then record { from = to; to = to; rows = rows; mark = 0; state = None }
      else record (at Moved) { state = Moved; mark = next }) ≡ at Moved
  mark_stays next true is same low = let end : next ≡ rows * from = grind (arith, nat_tests, is) in
      absurd (omega (arith, end, same, low))
  mark_stays next false is same low = ap (λ (m : ℕ). record (at Moved) { mark = m }) same

  -- Where all is filled or drained the front is not 0.
  not_ready : to ≡ from + 1 → done ≡ 32 * to → done ≡ 0 → ⊥
  not_ready grows all low = omega (arith, grows, all, low)

  in_state : (state : State) (chosen : Reflow) → IsRightReflow (at state)
      → (Expands (at state) → done ≡ front_after_stop (at state)) → IsChoiceIn state (at state) done holds chosen
      → chosen ≡ at state
  in_state None chosen right none choice = ⊎_elim
      (λ ready. absurd (not_ready ready.0.expands ready.0.done_is (none ready.0.expands)))
      (λ stays. stays.1)
      choice
  in_state Valid chosen right none choice = ⊎_elim
      (λ ready. absurd (not_ready ready.0.expands ready.0.done_is (none ready.0.expands)))
      (λ stays. stays.1)
      choice
  in_state Moved chosen right none choice = ⊎_elim
      (λ rests. absurd (not_at_rest rests.2))
      (λ expands. let low = none expands.0 in
      let between = next_mark_between holds mark done choice.0 choice.1 (omega (arith, low)) in
      choice.2 ∙ mark_stays choice.0 (choice.0 == rows * from) refl (omega (arith, low, between.0, between.1)) expands.1.1)
      right

pub choice_still : (reflow : Reflow) (done : ℕ) (holds : List Hold) (chosen : Reflow) → IsRightReflow reflow
    → (Expands reflow → done ≡ front_after_stop reflow) → IsCommitChoice reflow done holds chosen
    → chosen ≡ reflow
choice_still reflow done holds chosen right none choice =
    in_state reflow.from reflow.to reflow.rows reflow.mark done holds reflow.state chosen right none choice

-- no sector's standing changes
range_still : (state : State) (from to rows mark : ℕ) →
    let same : Reflow = record { from = from; to = to; rows = rows; mark = mark; state = state } in
    (range_of_commit same same).0 ≡ (range_of_commit same same).1
range_still None from to rows mark = refl
range_still Valid from to rows mark = refl
range_still Moved from to rows mark = refl

pub nothing_held : (before chosen : Reflow) → chosen ≡ before
    → (range_of_commit before chosen).0 ≡ (range_of_commit before chosen).1
nothing_held before chosen same = subst (λ (c : Reflow). (range_of_commit before c).0 ≡ (range_of_commit before c).1)
    (sym same) (range_still before.state before.from before.to before.rows before.mark)
