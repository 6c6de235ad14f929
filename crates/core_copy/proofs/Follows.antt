-- What a pool records at a commit follows on from what it had, whether it is being widened or not.
use Rattle.std.proofs.Common.{◌≡◌, inl, inr, ⊎_elim, ℕ, ◌+◌, ◌*◌, ◌<◌, ◌≤◌, Bool, true, false, List, refl, sym, ◌∙◌}
use Rattle.std.proofs.Common.{subst, arith}
use Rattle.std.specs.Prelude.{◌==◌, if◌then◌else◌}
use Rattle.std.proofs.Math.Nat.{mul-le-mul_right}
use Rattle.reflow_mark.specs.declared.reflow.State.{State}
use Rattle.reflow_mark.specs.declared.reflow.State.TheVariants.{None, Valid, Moved}
use Rattle.reflow_mark.specs.declared.reflow.Reflow.{Reflow}
use Rattle.reflow_mark.specs.Reflow.{Expands, IsRightReflow, at_rest, scratch_end, sectors_of}
use Rattle.range_locks.specs.declared.hold.Hold.{Hold}
use Rattle.shadow_write.specs.Required.{IsFrontIn, IsRequiredPlace}
use Rattle.uberblock_ring.specs.Uberblock.{Uber}
use Rattle.uberblock_ring.specs.Valid.{IsRightUber}
use Rattle.mark_choice.specs.CommitChoice.{IsChoiceIn, IsCommitChoice, IsWiderByOne, MayRecord, Chooses, Widens}
use Rattle.shadow_write.specs.Band.{AsksSame, IsFrontOf, IsWidening}
use Rattle.shadow_write.proofs.Within.{stop_asks_no_more}
use Rattle.mark_choice.proofs.Advance.{choice_asks_no_more}
use Rattle.mark_choice.specs.CommitChoice.{KeepsOrEnds}
use Rattle.core_copy.specs.Behind.{AsksNoMoreAt, FollowsOn, GoesOn, GoesOnOrEnds, HasEnded, begun, front_behind}
use Rattle.core_copy.specs.Behind.{front_in}
use Rattle.core_copy.proofs.Advance.{choice_goes, front_stays_behind}
use Rattle.core_copy.proofs.Ranges.{answered_same, answered_shrinks}

-- ---- a reflow that stays

-- A pool that is not being widened records its reflow as it stands.
rest_stays : (state : State) (reflow : Reflow) (done : ℕ) (holds : List Hold) (chosen : Reflow) → state ≡ None
    → reflow.to ≡ reflow.from → IsChoiceIn state reflow done holds chosen
    → chosen ≡ reflow
rest_stays None reflow done holds chosen none rests choice = ⊎_elim
    (λ ready. (let expands = ready.0.expands in absurd (omega (arith, rests, expands))))
    (λ stays. stays.1)
    choice
rest_stays Valid reflow done holds chosen none rests choice = absurd (differ none)
  where
    differ : Valid ≡ None → ⊥
    differ same = cc
rest_stays Moved reflow done holds chosen none rests choice = absurd (differ none)
  where
    differ : Moved ≡ None → ⊥
    differ same = cc

-- A reflow that is recorded as it stands follows on from itself.
same_follows : (reflow : Reflow) (done : ℕ) → IsRightReflow reflow → IsFrontOf reflow done → FollowsOn reflow done reflow
same_follows reflow done right front = record {
  right = right;
  widths = inl (inl (refl, refl, refl));
  front = subst (λ (n : ℕ). IsFrontOf reflow n) (sym (front_stays_behind reflow done)) front;
  stop = λ e s d x inside required. stop_asks_no_more reflow done e s d x front required;
  behind = subst (λ (n : ℕ). AsksNoMoreAt reflow done reflow n) (sym (front_stays_behind reflow done))
      (λ e s d x inside required. required);
  rows = λ f e s low high top away. subst (λ (n : ℕ). AsksSame reflow done reflow n e s) (sym (front_stays_behind reflow done))
      (λ d x. (λ required. required, λ required. required));
}

-- ---- an expansion

-- What is chosen keeps the widths and the rows, or ends the expansion.
ends_or_keeps : (reflow : Reflow) (next : ℕ) (ends : Bool) → Expands reflow
    → KeepsOrEnds reflow (if ends then record { from = reflow.to; to = reflow.to; rows = reflow.rows; mark = 0; state = None }
    else record reflow { state = Moved; mark = next })
ends_or_keeps reflow next true expands = inr (expands, refl)
ends_or_keeps reflow next false expands = inl (refl, refl, refl)

choice_keeps : (state : State) (reflow : Reflow) (done : ℕ) (holds : List Hold) (chosen : Reflow) → Expands reflow
    → IsChoiceIn state reflow done holds chosen
    → KeepsOrEnds reflow chosen
choice_keeps None reflow done holds chosen expands choice = ⊎_elim
    (λ ready. subst (λ (c : Reflow). KeepsOrEnds reflow c) (sym ready.1) (inl (refl, refl, refl)))
    (λ stays. subst (λ (c : Reflow). KeepsOrEnds reflow c) (sym stays.1) (inl (refl, refl, refl)))
    choice
choice_keeps Valid reflow done holds chosen expands choice = ⊎_elim
    (λ ready. subst (λ (c : Reflow). KeepsOrEnds reflow c) (sym ready.1) (inl (refl, refl, refl)))
    (λ stays. subst (λ (c : Reflow). KeepsOrEnds reflow c) (sym stays.1) (inl (refl, refl, refl)))
    choice
choice_keeps Moved reflow done holds chosen expands choice =
    subst (λ (c : Reflow). KeepsOrEnds reflow c) (sym choice.2)
    (ends_or_keeps reflow choice.0 (choice.0 == sectors_of reflow) expands)

-- Where all is moved the front behind the answer is 0.
ended_front : (state : State) (reflow : Reflow) (done : ℕ) → scratch_end reflow < sectors_of reflow
    → sectors_of reflow ≤ done → IsFrontIn state reflow done
    → front_in state None done 0 ≡ 0
ended_front None reflow done room all (inl zero) = absurd (omega (arith, room, all, zero))
ended_front None reflow done room all (inr filled) = (let is = filled.1 in absurd (omega (arith, room, all, is)))
ended_front Valid reflow done room all front = refl
ended_front Moved reflow done room all front = refl

rest_front : (width rows : ℕ) → IsFrontOf (at_rest width rows) 0
rest_front width rows = record { front = inl refl; limit = λ same. absurd (differ same) }
  where
    differ : None ≡ Moved → ⊥
    differ same = cc

-- What it comes to is right, with its front where it may be.
record IsPlaced (reflow : Reflow) (done : ℕ) (chosen : Reflow) : Type 0 where
  right : IsRightReflow chosen
  front : IsFrontOf chosen (front_behind reflow done chosen)

goes_placed : (reflow : Reflow) (done : ℕ) (chosen : Reflow) → scratch_end reflow < sectors_of reflow
    → IsFrontOf reflow done → GoesOnOrEnds reflow done chosen
    → IsPlaced reflow done chosen
goes_placed reflow done chosen room at (GoesOn widening front) = record {
  right = inr (widening.expands, widening.mark);
  front = front;
}
goes_placed reflow done chosen room at (HasEnded all is) =
    subst (λ (c : Reflow). IsPlaced reflow done c) (sym is) (record {
      right = inl (refl, refl, refl);
      front = subst (λ (n : ℕ). IsFrontOf (at_rest reflow.to reflow.rows) n)
          (sym (ended_front reflow.state reflow done room all at.front)) (rest_front reflow.to reflow.rows);
    })

-- What goes through the scratch area ends inside the pool.
scratch_inside : (reflow : Reflow) → Expands reflow → 2 ≤ reflow.from → 64 ≤ reflow.rows → scratch_end reflow < sectors_of reflow
scratch_inside reflow expands wide high =
    let most : 64 * reflow.from ≤ reflow.rows * reflow.from = mul-le-mul_right reflow.from high in
    omega (arith, most, expands, wide)

-- An expansion that chooses goes on or ends.
widening_follows : (reflow : Reflow) (done : ℕ) (holds : List Hold) (chosen : Reflow) → IsWidening reflow
    → IsFrontOf reflow done → scratch_end reflow < sectors_of reflow → IsCommitChoice reflow done holds chosen
    → FollowsOn reflow done chosen
widening_follows reflow done holds chosen widening front room choice = record {
  right = placed.right;
  widths = inl (choice_keeps reflow.state reflow done holds chosen widening.expands choice);
  front = placed.front;
  stop = choice_asks_no_more reflow done holds chosen widening front choice;
  behind = answered_shrinks reflow done holds chosen widening front choice;
  rows = answered_same reflow done holds chosen widening front choice;
}
  where
    placed : IsPlaced reflow done chosen
    placed = goes_placed reflow done chosen room front (choice_goes reflow done holds chosen widening front room choice)

-- ---- a device that joins

-- Nothing is moved yet, and so the old places alone are asked for, as before.
asked_before : (from rows row_end sector device device_sector : ℕ)
    → IsRequiredPlace (begun from rows) 0 row_end sector device device_sector
    → IsRequiredPlace (at_rest from rows) 0 row_end sector device device_sector
asked_before from rows row_end sector device device_sector required = ⊎_elim
    (λ old. inl old)
    (λ others. ⊎_elim (λ scratch. absurd (let none = scratch.0.1 in omega (arith, none))) (λ new. absurd new.0) others)
    required

asked_after : (from rows row_end sector device device_sector : ℕ)
    → IsRequiredPlace (at_rest from rows) 0 row_end sector device device_sector
    → IsRequiredPlace (begun from rows) 0 row_end sector device device_sector
asked_after from rows row_end sector device device_sector required = ⊎_elim
    (λ old. inl old)
    (λ others. ⊎_elim (λ scratch. absurd (let none = scratch.0.1 in omega (arith, none))) (λ new. absurd new.0) others)
    required

joined_follows : (from rows : ℕ) → from < 16 → FollowsOn (at_rest from rows) 0 (begun from rows)
joined_follows from rows room = record {
  right = inr (omega arith, refl);
  widths = inr (record { rest = refl; room = room; wider_is = refl });
  front = record { front = inl refl; limit = λ same. absurd (differ same) };
  stop = λ e s d x inside required. asked_before from rows e s d x required;
  behind = λ e s d x inside required. asked_before from rows e s d x required;
  rows = λ first e s low high top away d x.
      (λ required. asked_after from rows e s d x required, λ required. asked_before from rows e s d x required);
}
  where
    differ : None ≡ Moved → ⊥
    differ same = cc

-- A right reflow of one width is that of a pool at rest.
rests_so : (reflow : Reflow) → IsRightReflow reflow → reflow.to ≡ reflow.from → reflow ≡ at_rest reflow.from reflow.rows
rests_so reflow right rest = ⊎_elim
    (λ rests. λ i. record { from = reflow.from; to = rest i; rows = reflow.rows; mark = rests.1 i; state = rests.2 i })
    (λ expands. let grows = expands.0 in absurd (omega (arith, rest, grows)))
    right

rest_has_none : (from rows done : ℕ) → IsFrontOf (at_rest from rows) done → done ≡ 0
rest_has_none from rows done front = ⊎_elim
    (λ none. none)
    (λ filled. let grows = filled.0 in absurd (omega (arith, grows)))
    front.front

wider_follows : (reflow : Reflow) (done : ℕ) (wider : Reflow) → IsRightReflow reflow → IsFrontOf reflow done
    → IsWiderByOne reflow wider
    → FollowsOn reflow done wider
wider_follows reflow done wider right front is =
    let rests = rests_so reflow right is.rest in
    let none = rest_has_none reflow.from reflow.rows done (subst (λ (r : Reflow). IsFrontOf r done) rests front) in
    let wider_so : begun reflow.from reflow.rows ≡ wider =
    (λ i. record (sym rests i) { to = sym is.rest i + 1 }) ∙ sym is.wider_is in
    subst (λ (at : Reflow × ℕ). FollowsOn at.0 at.1 wider) (λ i. (sym rests i, sym none i))
    (subst (λ (w : Reflow). FollowsOn (at_rest reflow.from reflow.rows) 0 w) wider_so
    (joined_follows reflow.from reflow.rows (let room = is.room in let rest = is.rest in omega (arith, room, rest))))

-- ---- all of them

-- Law: A reflow that a commit records is right, its front may be, and all that it asks for is asked for already.
pub follows : (uber : Uber) (done : ℕ) (chosen : Reflow) → IsRightUber uber → IsFrontOf uber.reflow done
    → MayRecord uber.reflow done chosen
    → FollowsOn uber.reflow done chosen
follows uber done chosen right front (Widens wider) = wider_follows uber.reflow done chosen right.reflow front wider
follows uber done chosen right front (Chooses holds choice) = ⊎_elim
    (λ rests. subst (λ (c : Reflow). FollowsOn uber.reflow done c)
    (sym (rest_stays uber.reflow.state uber.reflow done holds chosen rests.2 rests.0 choice))
    (same_follows uber.reflow done right.reflow front))
    (λ expands.
    let wide = right.widths in
    let parity = right.parity.0 in
    let grows = expands.0 in
    widening_follows uber.reflow done holds chosen (record {
      expands = grows;
      some = omega (arith, wide.0);
      narrow = omega (arith, wide.1, grows);
      mark = expands.1;
    }) front (scratch_inside uber.reflow grows (omega (arith, wide.0, parity)) right.rows.0) choice)
    right.reflow

-- What is chosen beside some holds keeps the widths, or ends an expansion.
pub choice_widths : (uber : Uber) (done : ℕ) (holds : List Hold) (chosen : Reflow) → IsRightUber uber
    → IsCommitChoice uber.reflow done holds chosen
    → KeepsOrEnds uber.reflow chosen
choice_widths uber done holds chosen right choice = ⊎_elim
    (λ rests. subst (λ (c : Reflow). KeepsOrEnds uber.reflow c)
    (sym (rest_stays uber.reflow.state uber.reflow done holds chosen rests.2 rests.0 choice)) (inl (refl, refl, refl)))
    (λ expands. choice_keeps uber.reflow.state uber.reflow done holds chosen expands.0 choice)
    right.reflow
