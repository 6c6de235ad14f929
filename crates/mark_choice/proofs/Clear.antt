-- No shared hold has a sector whose standing a commit's choice changes.
use Rattle.std.proofs.Common.{◌≡◌, inr, ⊎_elim, ℕ, ◌*◌, ◌<◌, ◌≤◌, Bool, true, false, List, Some, refl, sym, subst}
use Rattle.std.proofs.Common.{arith}
use Rattle.std.specs.Prelude.{Contains, ◌==◌, if◌then◌else◌, Option}
use Rattle.std.specs.Prelude.Option.{None as Nothing}
use Rattle.std.proofs.lemmas.Bool.{cases_lt}
use Rattle.std.proofs.lemmas.Bool.Decides.{nat_tests}
use Rattle.reflow_mark.specs.declared.reflow.State.{State}
use Rattle.reflow_mark.specs.declared.reflow.State.TheVariants.{None, Valid, Moved}
use Rattle.reflow_mark.specs.declared.reflow.Reflow.{Reflow}
use Rattle.range_locks.specs.declared.hold.Hold.{Hold}
use Rattle.range_locks.specs.declared.hold.HoldKind.TheVariants.{Shared, Exclusive}
use Rattle.range_locks.specs.Holds.{IsClear, IsFirstSharedFrom}
use Rattle.mark_choice.specs.CommitChoice.{IsNextMark, IsChoiceIn, IsCommitChoice, lesser, range_of_commit}
use Rattle.mark_choice.specs.Clear.{HasNoShared}

-- An empty range has no sector.
none_shared : (holds : List Hold) (at : ℕ) → HasNoShared holds (at, at)
none_shared holds at hold listed shared some overlaps = omega (arith, some)

-- A range that is clear for a hold of its own has no shared one.
clear_shared : (holds : List Hold) (lo hi : ℕ) → IsClear holds lo hi Exclusive → HasNoShared holds (lo, hi)
clear_shared holds lo hi clear hold listed shared some overlaps =
    clear hold listed (record { overlaps = overlaps; exclusive = inr refl })

-- No shared hold begins between the mark and the next one.
none_between : (holds : List Hold) (mark done next : ℕ) (shared : Option ℕ) → IsFirstSharedFrom holds mark shared
    → next ≡ lesser done shared → (hold : Hold) → Contains holds hold → hold.kind ≡ Shared → mark ≤ hold.lo
    → next ≤ hold.lo
none_between holds mark done next Nothing none is hold listed kind above =
    absurd (none hold.lo above (record { hold = hold; listed = listed; shared = kind; begins = refl }))
none_between holds mark done next (Some shared) first is hold listed kind above =
    let low = first.2 hold.lo above (record { hold = hold; listed = listed; shared = kind; begins = refl }) in
    omega (arith, is, low)

pub next_mark_clear : (holds : List Hold) (mark done next : ℕ) → IsNextMark holds mark done next
    → HasNoShared holds (mark, next)
next_mark_clear holds mark done next is hold listed shared some overlaps = ⊎_elim
    (λ stays. omega (arith, stays.1, some))
    (λ goes. ⊎_elim
    (λ (below : hold.lo < mark). goes.0 (record {
      hold = hold;
      listed = listed;
      shared = shared;
      begins = below;
      ends = overlaps.ends;
    }))
    (λ (above : mark ≤ hold.lo).
    let far = none_between holds mark done next is.shared is.first goes.1 hold listed shared above in
    let begins = overlaps.begins in
    omega (arith, far, begins))
    (cases_lt hold.lo mark))
    is.next_is

-- The mark does not go back, and no further than the front.
lesser_between : (holds : List Hold) (mark done : ℕ) (shared : Option ℕ) → mark ≤ done
    → IsFirstSharedFrom holds mark shared → (mark ≤ lesser done shared) × (lesser done shared ≤ done)
lesser_between holds mark done Nothing low first = (low, omega arith)
lesser_between holds mark done (Some shared) low first = (omega (arith, low, first.0), omega arith)

pub next_mark_between : (holds : List Hold) (mark done next : ℕ) → IsNextMark holds mark done next → mark ≤ done
    → (mark ≤ next) × (next ≤ done)
next_mark_between holds mark done next is low = ⊎_elim
    (λ stays. (omega (arith, stays.1), omega (arith, low, stays.1)))
    (λ goes. let between = lesser_between holds mark done is.shared low is.first in
    (omega (arith, between.0, goes.1), omega (arith, between.1, goes.1)))
    is.next_is

module _ (from to rows mark done : ℕ) (holds : List Hold) where
  abbrev at : State → Reflow
  at state = record { from = from; to = to; rows = rows; mark = mark; state = state }

  -- in Moved, by whether the mark comes to the end of the pool
  moved_clear : (next : ℕ) (ends : Bool) → (next == rows * from) ≡ ends → HasNoShared holds (mark, next)
      → HasNoShared holds (range_of_commit (at Moved)
      (if ends then record { from = to; to = to; rows = rows; mark = 0; state = None }
      else record (at Moved) { state = Moved; mark = next }))
  moved_clear next true is clear =
      let end : next ≡ rows * from = grind (arith, nat_tests, is) in
      subst (λ (e : ℕ). HasNoShared holds (mark, e)) end clear
  moved_clear next false is clear = clear

  in_state : (state : State) (chosen : Reflow) → IsChoiceIn state (at state) done holds chosen
      → HasNoShared holds (range_of_commit (at state) chosen)
  in_state None chosen choice = ⊎_elim
      (λ ready. subst (λ (c : Reflow). HasNoShared holds (range_of_commit (at None) c)) (sym ready.1)
      (clear_shared holds 0 (32 * to) ready.0.clear))
      (λ stays. subst (λ (c : Reflow). HasNoShared holds (range_of_commit (at None) c)) (sym stays.1)
      (none_shared holds 0))
      choice
  in_state Valid chosen choice = ⊎_elim
      (λ ready. subst (λ (c : Reflow). HasNoShared holds (range_of_commit (at Valid) c)) (sym ready.1)
      (clear_shared holds 0 (32 * to) ready.0.clear))
      (λ stays. subst (λ (c : Reflow). HasNoShared holds (range_of_commit (at Valid) c)) (sym stays.1)
      (none_shared holds 0))
      choice
  in_state Moved chosen choice =
      subst (λ (c : Reflow). HasNoShared holds (range_of_commit (at Moved) c)) (sym choice.2)
      (moved_clear choice.0 (choice.0 == rows * from) refl (next_mark_clear holds mark done choice.0 choice.1))

pub choice_clear : (reflow : Reflow) (done : ℕ) (holds : List Hold) (chosen : Reflow)
    → IsCommitChoice reflow done holds chosen → HasNoShared holds (range_of_commit reflow chosen)
choice_clear reflow done holds chosen choice =
    in_state reflow.from reflow.to reflow.rows reflow.mark done holds reflow.state chosen choice
