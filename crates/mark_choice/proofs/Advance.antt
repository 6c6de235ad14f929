-- A commit's choice asks for nothing that isn't right already.
use Rattle.std.proofs.Common.{◌≡◌, inl, inr, ⊎_elim, ℕ, ◌+◌, ◌*◌, ◌≤◌, Bool, true, false, List, refl, sym, subst, arith}
use Rattle.std.specs.Prelude.{◌==◌, if◌then◌else◌}
use Rattle.std.proofs.lemmas.Bool.Decides.{nat_tests}
use Rattle.reflow_mark.specs.declared.reflow.State.{State}
use Rattle.reflow_mark.specs.declared.reflow.State.TheVariants.{None, Valid, Moved}
use Rattle.reflow_mark.specs.declared.reflow.Reflow.{Reflow}
use Rattle.reflow_mark.specs.Reflow.{IsMark}
use Rattle.range_locks.specs.declared.hold.Hold.{Hold}
use Rattle.shadow_write.specs.Required.{IsFrontIn, front_after_stop}
use Rattle.mark_choice.specs.CommitChoice.{IsChoiceIn, IsCommitChoice}
use Rattle.shadow_write.specs.Band.{IsWidening, StaysIn, IsFrontOf, copied_of}
use Rattle.shadow_write.proofs.Within.{front_stays}
use Rattle.mark_choice.specs.Advance.{AsksNoMore}
use Rattle.mark_choice.proofs.Clear.{next_mark_between}

module _ (from to rows mark : ℕ) (done : ℕ) (expands : to ≡ from + 1) where
  abbrev at : State → Reflow
  at state = record { from = from; to = to; rows = rows; mark = mark; state = state }

  -- The reflow that it has: what was filled, drained or copied since is not asked for.
  same_asks_no_more : (state : State) → IsFrontIn state (at state) done → AsksNoMore (at state) done (at state)
  same_asks_no_more None front row_end sector device device_sector inside (inl old) = inl old
  same_asks_no_more None front row_end sector device device_sector inside (inr (inl scratch)) =
      let low = scratch.0.1 in absurd (omega (arith, low))
  same_asks_no_more None front row_end sector device device_sector inside (inr (inr new)) = absurd new.0
  same_asks_no_more Valid front row_end sector device device_sector inside (inl old) = inl old
  same_asks_no_more Valid front row_end sector device device_sector inside (inr (inl scratch)) = inr (inl scratch)
  same_asks_no_more Valid front row_end sector device device_sector inside (inr (inr new)) =
      let low = new.0 in absurd (omega (arith, low))
  same_asks_no_more Moved front row_end sector device device_sector inside (inl old) = inl old
  same_asks_no_more Moved front row_end sector device device_sector inside (inr (inl scratch)) = inr (inl scratch)
  same_asks_no_more Moved front row_end sector device device_sector inside (inr (inr new)) =
      inr (inr (omega (arith, front.0, new.0), new.1))

  -- The scratch area is valid from now on.
  valid_asks_no_more : done ≡ 32 * to
      → AsksNoMore (at None) done (record { from = from; to = to; rows = rows; mark = 32 * to; state = Valid })
  valid_asks_no_more all row_end sector device device_sector inside (inl old) = inl (tt, old.1)
  valid_asks_no_more all row_end sector device device_sector inside (inr (inl scratch)) =
      inr (inl ((expands, omega (arith, all, scratch.0)), scratch.1))
  valid_asks_no_more all row_end sector device device_sector inside (inr (inr new)) =
      let low = new.0 in absurd (omega (arith, low))

  -- What went through the scratch area is moved.
  drained_asks_no_more : mark ≡ 32 * to → done ≡ 32 * to
      → AsksNoMore (at Valid) done (record { from = from; to = to; rows = rows; mark = 32 * to; state = Moved })
  drained_asks_no_more mark_is all row_end sector device device_sector inside (inl old) = inl (omega (arith, mark_is, old.0), old.1)
  drained_asks_no_more mark_is all row_end sector device device_sector inside (inr (inl scratch)) = absurd scratch.0
  drained_asks_no_more mark_is all row_end sector device device_sector inside (inr (inr new)) =
      inr (inr (omega (arith, all, new.0), new.1))

  -- The mark goes on.
  moved_asks_no_more : (next : ℕ) → mark ≤ next → next ≤ done
      → AsksNoMore (at Moved) done (record { from = from; to = to; rows = rows; mark = next; state = Moved })
  moved_asks_no_more next low high row_end sector device device_sector inside (inl old) = inl (omega (arith, low, old.0), old.1)
  moved_asks_no_more next low high row_end sector device device_sector inside (inr (inl scratch)) = absurd scratch.0
  moved_asks_no_more next low high row_end sector device device_sector inside (inr (inr new)) =
      inr (inr (omega (arith, high, new.0), new.1))

  -- All is moved: the pool has the new width.
  ended_asks_no_more : rows * from ≤ done
      → AsksNoMore (at Moved) done (record { from = to; to = to; rows = rows; mark = 0; state = None })
  ended_asks_no_more all row_end sector device device_sector inside (inl old) =
      inr (inr (omega (arith, inside, all), old.1))
  ended_asks_no_more all row_end sector device device_sector inside (inr (inl scratch)) =
      let grows = scratch.0.0 in absurd (omega (arith, grows))
  ended_asks_no_more all row_end sector device device_sector inside (inr (inr new)) = absurd new.0

  moved_to_asks_no_more : (next : ℕ) (ends : Bool) → (next == rows * from) ≡ ends → mark ≤ next → next ≤ done
      → AsksNoMore (at Moved) done (if ends then record { from = to; to = to; rows = rows; mark = 0; state = None }
      else record (at Moved) { state = Moved; mark = next })
  moved_to_asks_no_more next true is low high =
      let end : next ≡ rows * from = grind (arith, nat_tests, is) in ended_asks_no_more (omega (arith, end, high))
  moved_to_asks_no_more next false is low high = moved_asks_no_more next low high

  in_state : (state : State) (holds : List Hold) (chosen : Reflow) → IsMark state (at state) → IsFrontIn state (at state) done
      → IsChoiceIn state (at state) done holds chosen → AsksNoMore (at state) done chosen
  in_state None holds chosen is front choice = ⊎_elim
      (λ ready. subst (λ (c : Reflow). AsksNoMore (at None) done c) (sym ready.1) (valid_asks_no_more (let all = ready.0.done_is in omega (arith, all))))
      (λ stays. subst (λ (c : Reflow). AsksNoMore (at None) done c) (sym stays.1) (same_asks_no_more None front))
      choice
  in_state Valid holds chosen is front choice = ⊎_elim
      (λ ready. subst (λ (c : Reflow). AsksNoMore (at Valid) done c) (sym ready.1)
      (drained_asks_no_more (omega (arith, is)) (let all = ready.0.done_is in omega (arith, all))))
      (λ stays. subst (λ (c : Reflow). AsksNoMore (at Valid) done c) (sym stays.1) (same_asks_no_more Valid front))
      choice
  in_state Moved holds chosen is front choice =
      let between = next_mark_between holds mark done choice.0 choice.1 front.0 in
      subst (λ (c : Reflow). AsksNoMore (at Moved) done c) (sym choice.2)
      (moved_to_asks_no_more choice.0 (choice.0 == rows * from) refl between.0 between.1)

-- A commit's choice asks for nothing that isn't right already.
pub choice_asks_no_more : (reflow : Reflow) (done : ℕ) (holds : List Hold) (chosen : Reflow) → IsWidening reflow
    → IsFrontOf reflow done → IsCommitChoice reflow done holds chosen
    → AsksNoMore reflow done chosen
choice_asks_no_more reflow done holds chosen widening front choice =
    in_state reflow.from reflow.to reflow.rows reflow.mark done widening.expands reflow.state holds chosen widening.mark front.front choice

-- And so it stays in the band.
pub choice_within : (reflow : Reflow) (done : ℕ) (holds : List Hold) (chosen : Reflow) → IsWidening reflow
    → IsFrontOf reflow done → IsCommitChoice reflow done holds chosen
    → StaysIn reflow (copied_of reflow done) chosen (front_after_stop chosen)
choice_within reflow done holds chosen widening front choice row_end sector device device_sector close inside required =
    front_stays reflow done widening front row_end sector device device_sector close inside
    (choice_asks_no_more reflow done holds chosen widening front choice row_end sector device device_sector inside
    required)
