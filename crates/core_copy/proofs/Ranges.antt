-- A commit that ends, or a job, changes the standing of the rows that it holds alone.
use Rattle.std.proofs.Common.{◌≡◌, inl, inr, ⊎_elim, ℕ, ◌+◌, ◌*◌, ◌<◌, ◌≤◌, Bool, true, false, List, refl, sym, subst}
use Rattle.std.proofs.Common.{arith}
use Rattle.std.specs.Prelude.{◌==◌, if◌then◌else◌}
use Rattle.std.proofs.lemmas.Bool.Decides.{nat_tests}
use Rattle.reflow_mark.specs.declared.reflow.State.{State}
use Rattle.reflow_mark.specs.declared.reflow.State.TheVariants.{None, Valid, Moved}
use Rattle.reflow_mark.specs.declared.reflow.Reflow.{Reflow}
use Rattle.reflow_mark.specs.Reflow.{IsMark, sectors_of}
use Rattle.range_locks.specs.declared.hold.Hold.{Hold}
use Rattle.shadow_write.specs.Required.{IsRequiredPlace, IsFrontIn}
use Rattle.mark_choice.specs.CommitChoice.{IsChoiceIn, IsCommitChoice, range_of_commit}
use Rattle.shadow_write.specs.Band.{AsksSame, IsWidening, IsFrontOf}
use Rattle.core_copy.specs.Behind.{AsksNoMoreAt, IsOutside, front_behind}
use Rattle.mark_choice.proofs.Clear.{next_mark_between}

module _ (from to rows mark : ℕ) (done : ℕ) (expands : to ≡ from + 1) where
  abbrev at : State → Reflow
  at state = record { from = from; to = to; rows = rows; mark = mark; state = state }

  -- What holds of the reflow that a commit chose, once its group is answered.
  record Behind (reflow chosen : Reflow) : Type 0 where
    shrinks : AsksNoMoreAt reflow done chosen (front_behind reflow done chosen)
    same : (first row_end sector : ℕ) → first ≤ sector → sector < row_end → row_end ≤ sectors_of reflow
        → IsOutside (range_of_commit reflow chosen).0 (range_of_commit reflow chosen).1 first row_end
        → AsksSame reflow done chosen (front_behind reflow done chosen) row_end sector

  same_behind : (state : State) → Behind (at state) (at state)
  same_behind None = record { shrinks = λ e s d x inside is. is; same = λ f e s low high all away d x. (λ is. is, λ is. is) }
  same_behind Valid = record { shrinks = λ e s d x inside is. is; same = λ f e s low high all away d x. (λ is. is, λ is. is) }
  same_behind Moved = record { shrinks = λ e s d x inside is. is; same = λ f e s low high all away d x. (λ is. is, λ is. is) }

  abbrev valid_at : Reflow
  valid_at = record { from = from; to = to; rows = rows; mark = 32 * to; state = Valid }

  behind_range : (lo hi first row_end sector : ℕ) → lo ≡ 0 → first ≤ sector → sector < row_end → IsOutside lo hi first row_end
      → hi ≤ sector
  behind_range lo hi first row_end sector zero low high (inl none) = omega (arith, none, zero)
  behind_range lo hi first row_end sector zero low high (inr (inl before)) = absurd (omega (arith, before, zero, high))
  behind_range lo hi first row_end sector zero low high (inr (inr behind)) = omega (arith, behind, low)

  valid_behind : done ≡ 32 * to → Behind (at None) valid_at
  valid_behind all = record {
    shrinks = λ e s d x inside is. shrink e s d x is;
    same = λ f e s low high top away d x. (there e s d x (behind_range 0 (32 * to) f e s refl low high away) high, shrink e s d x);
  }
    where
      shrink : (e s d x : ℕ) → IsRequiredPlace valid_at 0 e s d x → IsRequiredPlace (at None) done e s d x
      shrink e s d x (inl old) = inl (tt, old.1)
      shrink e s d x (inr (inl scratch)) = inr (inl ((expands, omega (arith, all, scratch.0)), scratch.1))
      shrink e s d x (inr (inr new)) = let low = new.0 in absurd (omega (arith, low))

      there : (e s d x : ℕ) → 32 * to ≤ s → s < e → IsRequiredPlace (at None) done e s d x → IsRequiredPlace valid_at 0 e s d x
      there e s d x far high (inl old) = inl (omega (arith, far, high), old.1)
      there e s d x far high (inr (inl scratch)) = let low = scratch.0.1 in absurd (omega (arith, low, all, far))
      there e s d x far high (inr (inr new)) = absurd new.0

  abbrev moved_at : ℕ → Reflow
  moved_at next = record { from = from; to = to; rows = rows; mark = next; state = Moved }

  drained_behind : mark ≡ 32 * to → done ≡ 32 * to → Behind (at Valid) (moved_at (32 * to))
  drained_behind mark_is all = record {
    shrinks = λ e s d x inside is. shrink e s d x is;
    same = λ f e s low high top away d x. (there e s d x (behind_range 0 (32 * to) f e s refl low high away) high, shrink e s d x);
  }
    where
      shrink : (e s d x : ℕ) → IsRequiredPlace (moved_at (32 * to)) (32 * to) e s d x → IsRequiredPlace (at Valid) done e s d x
      shrink e s d x (inl old) = inl (omega (arith, mark_is, old.0), old.1)
      shrink e s d x (inr (inl scratch)) = absurd scratch.0
      shrink e s d x (inr (inr new)) = inr (inr (omega (arith, all, new.0), new.1))

      there : (e s d x : ℕ) → 32 * to ≤ s → s < e → IsRequiredPlace (at Valid) done e s d x
          → IsRequiredPlace (moved_at (32 * to)) (32 * to) e s d x
      there e s d x far high (inl old) = inl (omega (arith, far, high), old.1)
      there e s d x far high (inr (inl scratch)) = let low = scratch.0 in absurd (omega (arith, low, far))
      there e s d x far high (inr (inr new)) = let low = new.0 in absurd (omega (arith, low, all, far))

  moved_behind : (next : ℕ) → mark ≤ next → next ≤ done → Behind (at Moved) (moved_at next)
  moved_behind next low_next high_next = record {
    shrinks = λ e s d x inside is. shrink e s d x is;
    same = λ f e s low high top away d x. (there f e s d x low high away, shrink e s d x);
  }
    where
      shrink : (e s d x : ℕ) → IsRequiredPlace (moved_at next) done e s d x → IsRequiredPlace (at Moved) done e s d x
      shrink e s d x (inl old) = inl (omega (arith, low_next, old.0), old.1)
      shrink e s d x (inr (inl scratch)) = absurd scratch.0
      shrink e s d x (inr (inr new)) = inr (inr new)

      above : (f e s : ℕ) → f ≤ s → s < e → IsOutside mark next f e → mark < e → next < e
      above f e s low high (inl none) over = omega (arith, none, over)
      above f e s low high (inr (inl before)) over = absurd (omega (arith, before, over))
      above f e s low high (inr (inr behind)) over = omega (arith, behind, low, high)

      there : (f e s d x : ℕ) → f ≤ s → s < e → IsOutside mark next f e → IsRequiredPlace (at Moved) done e s d x
          → IsRequiredPlace (moved_at next) done e s d x
      there f e s d x low high away (inl old) = inl (above f e s low high away old.0, old.1)
      there f e s d x low high away (inr (inl scratch)) = absurd scratch.0
      there f e s d x low high away (inr (inr new)) = inr (inr new)

  abbrev ended_at : Reflow
  ended_at = record { from = to; to = to; rows = rows; mark = 0; state = None }

  ended_behind : rows * from ≤ done → mark ≤ rows * from → Behind (at Moved) ended_at
  ended_behind all below = record {
    shrinks = λ e s d x inside is. shrink e s d x inside is;
    same = λ f e s low high top away d x. (there f e s d x low high top away, shrink e s d x (omega (arith, high, top)));
  }
    where
      shrink : (e s d x : ℕ) → s < rows * from → IsRequiredPlace ended_at 0 e s d x → IsRequiredPlace (at Moved) done e s d x
      shrink e s d x inside (inl old) = inr (inr (omega (arith, inside, all), old.1))
      shrink e s d x inside (inr (inl scratch)) = let low = scratch.0.1 in absurd (omega (arith, low))
      shrink e s d x inside (inr (inr new)) = absurd new.0

      not_above : (f e s : ℕ) → f ≤ s → s < e → e ≤ rows * from → IsOutside mark (rows * from) f e → mark < e → ⊥
      not_above f e s low high top (inl none) over = omega (arith, none, over, top)
      not_above f e s low high top (inr (inl before)) over = omega (arith, before, over)
      not_above f e s low high top (inr (inr behind)) over = omega (arith, behind, low, high, top)

      there : (f e s d x : ℕ) → f ≤ s → s < e → e ≤ rows * from → IsOutside mark (rows * from) f e
          → IsRequiredPlace (at Moved) done e s d x
          → IsRequiredPlace ended_at 0 e s d x
      there f e s d x low high top away (inl old) = absurd (not_above f e s low high top away old.0)
      there f e s d x low high top away (inr (inl scratch)) = absurd scratch.0
      there f e s d x low high top away (inr (inr new)) = inl (tt, new.1)

  to_behind : (next : ℕ) (ends : Bool) → (next == rows * from) ≡ ends → mark ≤ next → next ≤ done
      → Behind (at Moved) (if ends then record { from = to; to = to; rows = rows; mark = 0; state = None }
      else record (at Moved) { state = Moved; mark = next })
  to_behind next true is low high =
      let end : next ≡ rows * from = grind (arith, nat_tests, is) in
      ended_behind (omega (arith, end, high)) (omega (arith, end, low))
  to_behind next false is low high = moved_behind next low high

  in_state : (state : State) (holds : List Hold) (chosen : Reflow) → IsMark state (at state) → IsFrontIn state (at state) done
      → IsChoiceIn state (at state) done holds chosen → Behind (at state) chosen
  in_state None holds chosen is front choice = ⊎_elim
      (λ ready. subst (λ (c : Reflow). Behind (at None) c) (sym ready.1) (valid_behind (let all = ready.0.done_is in omega (arith, all))))
      (λ stays. subst (λ (c : Reflow). Behind (at None) c) (sym stays.1) (same_behind None))
      choice
  in_state Valid holds chosen is front choice = ⊎_elim
      (λ ready. subst (λ (c : Reflow). Behind (at Valid) c) (sym ready.1)
      (drained_behind (omega (arith, is)) (let all = ready.0.done_is in omega (arith, all))))
      (λ stays. subst (λ (c : Reflow). Behind (at Valid) c) (sym stays.1) (same_behind Valid))
      choice
  in_state Moved holds chosen is front choice =
      let between = next_mark_between holds mark done choice.0 choice.1 front.0 in
      subst (λ (c : Reflow). Behind (at Moved) c) (sym choice.2)
      (to_behind choice.0 (choice.0 == rows * from) refl between.0 between.1)

-- Once a commit's group is answered, nothing more is asked for than before,
pub answered_shrinks : (reflow : Reflow) (done : ℕ) (holds : List Hold) (chosen : Reflow) → IsWidening reflow
    → IsFrontOf reflow done → IsCommitChoice reflow done holds chosen
    → AsksNoMoreAt reflow done chosen (front_behind reflow done chosen)
answered_shrinks reflow done holds chosen widening front choice =
    (in_state reflow.from reflow.to reflow.rows reflow.mark done widening.expands reflow.state holds chosen widening.mark front.front choice).shrinks

-- Law: A row outside the sectors that a commit holds is required at the same places behind its answer.
pub answered_same : (reflow : Reflow) (done : ℕ) (holds : List Hold) (chosen : Reflow) → IsWidening reflow
    → IsFrontOf reflow done → IsCommitChoice reflow done holds chosen
    → (first row_end sector : ℕ) → first ≤ sector → sector < row_end → row_end ≤ sectors_of reflow
    → IsOutside (range_of_commit reflow chosen).0 (range_of_commit reflow chosen).1 first row_end
    → AsksSame reflow done chosen (front_behind reflow done chosen) row_end sector
answered_same reflow done holds chosen widening front choice =
    (in_state reflow.from reflow.to reflow.rows reflow.mark done widening.expands reflow.state holds chosen widening.mark front.front choice).same
