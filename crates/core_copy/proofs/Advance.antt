-- The groups around a mark over a whole expansion: a commit begins, is answered, or ends the expansion.
use Rattle.std.proofs.Common.{◌≡◌, ◌≢◌, inl, inr, ⊎_elim, ℕ, ◌+◌, ◌*◌, ◌/◌, ◌<◌, ◌≤◌, Bool, true, false, List, [], ◌∷◌}
use Rattle.std.proofs.Common.{Some, refl, sym, ◌∙◌, ap, subst, arith}
use Rattle.std.specs.Prelude.{Contains, ◌==◌, if◌then◌else◌}
use Rattle.std.proofs.Math.Nat.{le-div_iff_mul-le, div-mul-le_self}
use Rattle.std.proofs.lemmas.Bool.Decides.{nat_tests}
use Rattle.bank_trait.specs.Disk.{Image, Known}
use Rattle.width_map.specs.declared.birth.Birth.{Birth}
use Rattle.width_map.specs.Births.{births_after}
use Rattle.width_map.specs.Place.{limit_of}
use Rattle.width_map.proofs.Growing.{older_keep}
use Rattle.reflow_mark.specs.declared.reflow.State.{State}
use Rattle.reflow_mark.specs.declared.reflow.State.TheVariants.{None, Valid, Moved}
use Rattle.reflow_mark.specs.declared.reflow.Reflow.{Reflow}
use Rattle.reflow_mark.specs.Reflow.{IsMark, scratch_end, sectors_of}
use Rattle.row_layout.specs.Layout.{Layout}
use Rattle.range_locks.specs.declared.hold.Hold.{Hold}
use Rattle.shadow_write.specs.Required.{IsFrontIn, front_after_stop}
use Rattle.block_record.specs.declared.entry.IndexEntry.{IndexEntry}
use Rattle.uberblock_ring.specs.Devices.{has_device}
use Rattle.core_state.specs.Index.{IsIndexOf, KeptBlock, layout_of}
use Rattle.core_state.specs.Map.{Map}
use Rattle.core_state.specs.Whole.{Excepted, Cell, IsCellOf, KeepsBlock, IsCell, RightAt, IsWhole}
use Rattle.core_state.specs.Keeps.{Kept}
use Rattle.core_state.specs.Certain.{CellsOn}
use Rattle.mark_choice.specs.CommitChoice.{IsChoiceIn, IsCommitChoice, births_of_commit}
use Rattle.core_state.proofs.Listed.{contains_cases}
use Rattle.shadow_write.specs.Band.{IsWidening, StaysIn, IsFrontOf, copied_of, copied_in}
use Rattle.core_copy.specs.Behind.{GoesOnOrEnds, GoesOn, HasEnded, AsksNoMoreAt, front_behind, front_in}
use Rattle.core_copy.specs.Around.{IsClose, IsCellIn, StandAround}
use Rattle.shadow_write.proofs.Within.{near_within, now_near, stop_front, before_within}
use Rattle.mark_choice.proofs.Advance.{choice_asks_no_more, choice_within}
use Rattle.mark_choice.proofs.Clear.{next_mark_between}
use Rattle.core_copy.proofs.Ranges.{answered_shrinks}

-- ---- what is right now is right as the chosen reflow asks for it

-- Law: Each cell that is right at the front is right as the chosen reflow asks for it after a stop.
pub advance_right : (reflow : Reflow) (done : ℕ) (holds : List Hold) (chosen : Reflow) (known : Known) (out : ℕ) (excepted : Excepted) (cell : Cell)
    → IsWidening reflow → IsFrontOf reflow done → IsCommitChoice reflow done holds chosen
    → cell.sector < sectors_of reflow → RightAt known reflow done out excepted cell
    → RightAt known chosen (front_after_stop chosen) out excepted cell
advance_right reflow done holds chosen known out excepted cell widening front choice inside right = record {
  at = λ d x required in_use not_excepted. right.at d x
      (choice_asks_no_more reflow done holds chosen widening front choice cell.row_end cell.sector d x inside required) in_use not_excepted;
}

-- Law: Each cell that is right at the front is right as the chosen reflow asks for it behind the answer.
pub answered_right : (reflow : Reflow) (done : ℕ) (holds : List Hold) (chosen : Reflow) (known : Known) (out : ℕ) (excepted : Excepted) (cell : Cell)
    → IsWidening reflow → IsFrontOf reflow done → IsCommitChoice reflow done holds chosen
    → cell.sector < sectors_of reflow → RightAt known reflow done out excepted cell
    → RightAt known chosen (front_behind reflow done chosen) out excepted cell
answered_right reflow done holds chosen known out excepted cell widening front choice inside right = record {
  at = λ d x required in_use not_excepted. right.at d x
      (answered_shrinks reflow done holds chosen widening front choice cell.row_end cell.sector d x inside required) in_use not_excepted;
}

-- The births that a group records say of its blocks what those before it said.
same_layout : (parity : ℕ) (before chosen : Reflow) (births : List Birth) (group : ℕ) (entry : IndexEntry) → entry.birth ≤ group
    → layout_of parity (births_of_commit before chosen births group) entry ≡ layout_of parity births entry
same_layout parity before chosen births group entry old = by (chosen.from == before.from)
  where
    by : (same : Bool) → layout_of parity (if same then births else births_after births group) entry ≡ layout_of parity births entry
    by true = refl
    by false = ap (λ (w : ℕ). let l : Layout = layout_of parity births entry in
        let m : Layout = record { start = l.start; sectors = l.sectors; parity = l.parity; width = w } in m)
        (older_keep births group entry.birth (omega (arith, old)))

pub same_cells : (parity : ℕ) (before chosen : Reflow) (births : List Birth) (group : ℕ) (entries : List IndexEntry) (others : List KeptBlock) (map : Map) (cell : Cell)
    → ((entry : IndexEntry) (content : List ℕ) → KeepsBlock entries others map entry content → entry.birth ≤ group)
    → IsCellOf parity (births_of_commit before chosen births group) entries others map cell
    → IsCellOf parity births entries others map cell
same_cells parity before chosen births group entries others map cell old is = record {
  entry = is.entry;
  content = is.content;
  keeps = is.keeps;
  cell_is = subst (λ (l : Layout). IsCell l is.content cell) (same_layout parity before chosen births group is.entry (old is.entry is.content is.keeps)) is.cell_is;
}

-- Law: The cells of a group with the chosen reflow are right on each device in use.
pub advance_cells : (reflow : Reflow) (done : ℕ) (holds : List Hold) (births : List Birth) (next : Kept)
    (known : Known) (out device : ℕ) → IsWidening reflow → IsFrontOf reflow done → IsCommitChoice reflow done holds next.uber.reflow
    → next.uber.births ≡ births_of_commit reflow next.uber.reflow births next.uber.group
    → ((entry : IndexEntry) (content : List ℕ) → KeepsBlock next.entries next.others next.map entry content → entry.birth ≤ next.uber.group)
    → ((cell : Cell) → IsCellOf next.uber.parity births next.entries next.others next.map cell
    → IsClose reflow cell × RightAt known reflow done out next.excepted cell)
    → has_device out device ≡ false
    → CellsOn known next device
advance_cells reflow done holds births next known out device widening front choice births_are old right in_use = record {
  at = λ x bytes asks not_excepted.
      let cell_is : IsCellOf next.uber.parity births next.entries next.others next.map asks.cell =
      same_cells next.uber.parity reflow next.uber.reflow births next.uber.group next.entries next.others next.map asks.cell old
      (subst (λ (b : List Birth). IsCellOf next.uber.parity b next.entries next.others next.map asks.cell) births_are asks.cell_is) in
      let is = right asks.cell cell_is in
      (advance_right reflow done holds next.uber.reflow known out next.excepted asks.cell widening front choice
      is.0.inside is.1).at device x asks.place in_use not_excepted
      ∙ ap (λ (b : List ℕ). Some b) asks.bytes_are;
}

-- Law: Where these cells are certain the group is whole.
pub advance_whole : (devices : ℕ) (known : Known) (next : Kept) (image : Image)
    → IsIndexOf next.entries next.map
    → ((d x : ℕ) (bytes : List ℕ) → known d x ≡ Some bytes → image d x ≡ bytes)
    → ((device : ℕ) → device < devices → has_device next.uber.out device ≡ false → CellsOn known next device)
    → IsWhole devices next.excepted image next.uber next.entries next.others next.map
advance_whole devices known next image index fits cells = record {
  index = index;
  right = λ cell device of inside in_use. record {
    at = λ x place not_excepted. ap (λ (b : List ℕ). Some b) (fits device x cell.bytes
        ((cells device inside in_use).at x cell.bytes
        (record { cell = cell; cell_is = of; place = place; bytes_are = refl }) not_excepted));
  };
}

-- ---- the groups of the row stay around the mark

-- New places may be in use up to a later sector.
stays_more : (reflow : Reflow) (copied more : ℕ) (other : Reflow) (done : ℕ) → copied ≤ more → StaysIn reflow copied other done
    → StaysIn reflow more other done
stays_more reflow copied more other done within stays row_end sector d x close inside required = ⊎_elim
    (λ old. inl old)
    (λ rest. inr (⊎_elim (λ scratch. inl scratch) (λ new. inr (omega (arith, within, new.0), new.1)) rest))
    (stays row_end sector d x close inside required)

-- A job ends.
pub around_more : (reflow : Reflow) (copied more : ℕ) (groups : List Kept) → copied ≤ more → StandAround reflow copied groups
    → StandAround reflow more groups
around_more reflow copied more groups within around = record {
  stays = λ kept listed. stays_more reflow copied more kept.uber.reflow (front_after_stop kept.uber.reflow) within (around.stays kept listed);
  close = around.close;
}

-- Law: Beside a commit that moves the mark, the last group and the next one stand around it.
pub around_begins : (reflow : Reflow) (done : ℕ) (holds : List Hold) (last next : Kept) → IsWidening reflow → IsFrontOf reflow done
    → IsCommitChoice reflow done holds next.uber.reflow
    → ((cell : Cell) → IsCellIn next cell → IsClose reflow cell)
    → StandAround reflow (copied_of reflow done) (last ∷ [])
    → StandAround reflow (copied_of reflow done) (last ∷ next ∷ [])
around_begins reflow done holds last next widening front choice close around = record {
  stays = λ kept listed. ⊎_elim
      (λ (is : kept ≡ last). around.stays kept (subst (λ (k : Kept). Contains (last ∷ []) k) (sym is) (0, omega arith, refl)))
      (λ (more : Contains (next ∷ []) kept). subst (λ (k : Kept). StaysIn reflow (copied_of reflow done) k.uber.reflow (front_after_stop k.uber.reflow))
      (sym (only next kept more)) (choice_within reflow done holds next.uber.reflow widening front choice))
      (contains_cases last (next ∷ []) kept listed);
  close = λ kept cell listed of. ⊎_elim
      (λ (is : kept ≡ last). around.close kept cell (subst (λ (k : Kept). Contains (last ∷ []) k) (sym is) (0, omega arith, refl)) of)
      (λ (more : Contains (next ∷ []) kept). close cell (subst (λ (k : Kept). IsCellIn k cell) (only next kept more) of))
      (contains_cases last (next ∷ []) kept listed);
}
  where
    only : (one kept : Kept) → Contains (one ∷ []) kept → kept ≡ one
    only one kept listed = ⊎_elim (λ is. is) (λ none. absurd (omega (arith, none.1))) (contains_cases one [] kept listed)

-- Law: Once it is answered a group stands around its own mark.
pub around_alone : (next : Kept) (done : ℕ) → IsWidening next.uber.reflow → IsFrontOf next.uber.reflow done
    → ((cell : Cell) → IsCellIn next cell → IsClose next.uber.reflow cell)
    → StandAround next.uber.reflow (copied_of next.uber.reflow done) (next ∷ [])
around_alone next done widening front close = record {
  stays = λ kept listed. subst (λ (k : Kept). StaysIn next.uber.reflow (copied_of next.uber.reflow done) k.uber.reflow (front_after_stop k.uber.reflow))
      (sym (only kept listed))
      (stays_more next.uber.reflow (copied_of next.uber.reflow (front_after_stop next.uber.reflow)) (copied_of next.uber.reflow done)
      next.uber.reflow (front_after_stop next.uber.reflow) (stop_low next.uber.reflow.from next.uber.reflow.to next.uber.reflow.rows
      next.uber.reflow.mark next.uber.reflow.state front.front)
      (near_within next.uber.reflow (copied_of next.uber.reflow (front_after_stop next.uber.reflow)) next.uber.reflow
      (front_after_stop next.uber.reflow) widening
      (now_near next.uber.reflow (front_after_stop next.uber.reflow) widening (stop_front next.uber.reflow widening))));
  close = λ kept cell listed of. close cell (subst (λ (k : Kept). IsCellIn k cell) (only kept listed) of);
}
  where
    only : (kept : Kept) → Contains (next ∷ []) kept → kept ≡ next
    only kept listed = ⊎_elim (λ is. is) (λ none. absurd (omega (arith, none.1))) (contains_cases next [] kept listed)

    stop_low : (from to rows mark : ℕ) (state : State)
        → IsFrontIn state (record { from = from; to = to; rows = rows; mark = mark; state = state }) done
        → copied_in state (front_after_stop (record { from = from; to = to; rows = rows; mark = mark; state = state })) ≤ copied_in state done
    stop_low from to rows mark None front = omega arith
    stop_low from to rows mark Valid front = omega arith
    stop_low from to rows mark Moved front = omega (arith, front.0)

-- ---- what a commit chose, once its group is answered

limit_grows : (from mark next : ℕ) → 0 < from → mark ≤ next → limit_of from mark ≤ limit_of from next
limit_grows from mark next some low =
    let rows : mark / from ≤ next / from =
    (le-div_iff_mul-le {k = from} {x = mark / from} {y = next} some).1 (omega (arith, low, div-mul-le_self mark from)) in
    omega (arith, low, rows)

module _ (from to rows mark : ℕ) (done : ℕ) (expands : to ≡ from + 1) (some : 0 < from) (narrow : from ≤ 15) where
  abbrev at : State → Reflow
  at state = record { from = from; to = to; rows = rows; mark = mark; state = state }

  none_moved : (state : State) → state ≡ Moved → state ≡ None → ⊥
  none_moved state is none = absurd (differ (sym is ∙ none))
    where
      differ : Moved ≡ None → ⊥
      differ same = cc

  same_goes : (state : State) → IsMark state (at state) → IsFrontOf (at state) done → GoesOnOrEnds (at state) done (at state)
  same_goes None is front = GoesOn (record { expands = expands; some = some; narrow = narrow; mark = is }) front
  same_goes Valid is front = GoesOn (record { expands = expands; some = some; narrow = narrow; mark = is }) front
  same_goes Moved is front = GoesOn (record { expands = expands; some = some; narrow = narrow; mark = is }) front

  valid_goes : GoesOnOrEnds (at None) done (record { from = from; to = to; rows = rows; mark = 32 * to; state = Valid })
  valid_goes = GoesOn (record { expands = expands; some = some; narrow = narrow; mark = refl })
      (record { front = inl refl; limit = λ is. omega arith })

  drained_goes : 32 * to < rows * from → GoesOnOrEnds (at Valid) done (record { from = from; to = to; rows = rows; mark = 32 * to; state = Moved })
  drained_goes room = GoesOn (record { expands = expands; some = some; narrow = narrow; mark = (omega arith, room) })
      (record { front = (omega arith, omega (arith, room)); limit = λ is. omega arith })

  moved_goes : (next : ℕ) → IsMark Moved (at Moved) → IsFrontOf (at Moved) done → mark ≤ next → next ≤ done → next < rows * from
      → GoesOnOrEnds (at Moved) done (record { from = from; to = to; rows = rows; mark = next; state = Moved })
  moved_goes next is front low high inside = GoesOn
      (record { expands = expands; some = some; narrow = narrow; mark = (omega (arith, is.0, low), inside) })
      (record {
        front = (high, (let at = front.front in omega (arith, at.1)));
        limit = λ now. let limit = front.limit refl in omega (arith, limit, low, limit_grows from mark next some low);
      })

  moved_to_goes : (next : ℕ) (ends : Bool) → (next == rows * from) ≡ ends → IsMark Moved (at Moved) → IsFrontOf (at Moved) done
      → mark ≤ next → next ≤ done
      → GoesOnOrEnds (at Moved) done (if ends then record { from = to; to = to; rows = rows; mark = 0; state = None }
      else record (at Moved) { state = Moved; mark = next })
  moved_to_goes next true test is front low high = HasEnded (let end : next ≡ rows * from = grind (arith, nat_tests, test) in omega (arith, end, high)) refl
  moved_to_goes next false test is front low high = moved_goes next is front low high
      (let not_end : next ≢ rows * from = λ same. grind (arith, nat_tests, test, same) in
      let at = front.front in omega (arith, not_end, high, at.1))

  in_state : (state : State) (holds : List Hold) (chosen : Reflow) → 32 * to < rows * from → IsMark state (at state) → IsFrontOf (at state) done
      → IsChoiceIn state (at state) done holds chosen → GoesOnOrEnds (at state) done chosen
  in_state None holds chosen room is front choice = ⊎_elim
      (λ ready. subst (λ (c : Reflow). GoesOnOrEnds (at None) done c) (sym ready.1) valid_goes)
      (λ stays. subst (λ (c : Reflow). GoesOnOrEnds (at None) done c) (sym stays.1) (same_goes None is front))
      choice
  in_state Valid holds chosen room is front choice = ⊎_elim
      (λ ready. subst (λ (c : Reflow). GoesOnOrEnds (at Valid) done c) (sym ready.1) (drained_goes room))
      (λ stays. subst (λ (c : Reflow). GoesOnOrEnds (at Valid) done c) (sym stays.1) (same_goes Valid is front))
      choice
  in_state Moved holds chosen room is front choice =
      let between = next_mark_between holds mark done choice.0 choice.1 front.front.0 in
      subst (λ (c : Reflow). GoesOnOrEnds (at Moved) done c) (sym choice.2)
      (moved_to_goes choice.0 (choice.0 == rows * from) refl is front between.0 between.1)

-- Law: Behind the answer the front is where it may be, or the expansion has ended and all was copied.
pub choice_goes : (reflow : Reflow) (done : ℕ) (holds : List Hold) (chosen : Reflow) → IsWidening reflow → IsFrontOf reflow done
    → scratch_end reflow < sectors_of reflow → IsCommitChoice reflow done holds chosen
    → GoesOnOrEnds reflow done chosen
choice_goes reflow done holds chosen widening front room choice =
    in_state reflow.from reflow.to reflow.rows reflow.mark done widening.expands widening.some widening.narrow reflow.state holds chosen room
    widening.mark front choice

-- Where the reflow stays, so does the front.
front_stays_in : (state : State) (done mark : ℕ) → front_in state state done mark ≡ done
front_stays_in None done mark = refl
front_stays_in Valid done mark = refl
front_stays_in Moved done mark = refl

-- Law: A commit that leaves the reflow leaves the front.
pub front_stays_behind : (reflow : Reflow) (done : ℕ) → front_behind reflow done reflow ≡ done
front_stays_behind reflow done = front_stays_in reflow.state done reflow.mark

-- ---- an attach

-- The pool that has just been attached to asks for what it asked for at rest,
pub attach_shrinks : (from rows : ℕ)
    → AsksNoMoreAt (record { from = from; to = from; rows = rows; mark = 0; state = None }) 0
    (record { from = from; to = from + 1; rows = rows; mark = 0; state = None }) 0
attach_shrinks from rows e s d x inside (inl old) = inl old
attach_shrinks from rows e s d x inside (inr (inl scratch)) = let low = scratch.0.1 in absurd (omega (arith, low))
attach_shrinks from rows e s d x inside (inr (inr new)) = absurd new.0

-- Law: The last group at one width and the one that begins an expansion stand around the mark 0.
pub around_attaches : (from rows : ℕ) (last next : Kept) → 0 < from → from ≤ 15
    → last.uber.reflow ≡ record { from = from; to = from; rows = rows; mark = 0; state = None }
    → next.uber.reflow ≡ record { from = from; to = from + 1; rows = rows; mark = 0; state = None }
    → ((kept : Kept) (cell : Cell) → Contains (last ∷ next ∷ []) kept → IsCellIn kept cell → IsClose next.uber.reflow cell)
    → StandAround next.uber.reflow 0 (last ∷ next ∷ [])
around_attaches from rows last next some narrow last_is next_is close = record {
  stays = λ kept listed. ⊎_elim
      (λ (is : kept ≡ last). subst (λ (k : Kept). StaysIn next.uber.reflow 0 k.uber.reflow (front_after_stop k.uber.reflow)) (sym is) last_stays)
      (λ (more : Contains (next ∷ []) kept). ⊎_elim
      (λ (is : kept ≡ next). subst (λ (k : Kept). StaysIn next.uber.reflow 0 k.uber.reflow (front_after_stop k.uber.reflow)) (sym is) next_stays)
      (λ none. absurd (omega (arith, none.1)))
      (contains_cases next [] kept more))
      (contains_cases last (next ∷ []) kept listed);
  close = close;
}
  where
    wide : Reflow
    wide = record { from = from; to = from + 1; rows = rows; mark = 0; state = None }

    widening : IsWidening (record { from = from; to = from + 1; rows = rows; mark = 0; state = None })
    widening = record { expands = refl; some = some; narrow = narrow; mark = refl }

    wide_stays : StaysIn (record { from = from; to = from + 1; rows = rows; mark = 0; state = None }) 0
        (record { from = from; to = from + 1; rows = rows; mark = 0; state = None }) 0
    wide_stays = near_within (record { from = from; to = from + 1; rows = rows; mark = 0; state = None }) 0
        (record { from = from; to = from + 1; rows = rows; mark = 0; state = None }) 0 widening
        (now_near (record { from = from; to = from + 1; rows = rows; mark = 0; state = None }) 0 widening
        (record { front = inl refl; limit = λ is. omega arith }))

    next_stays : StaysIn next.uber.reflow 0 next.uber.reflow (front_after_stop next.uber.reflow)
    next_stays = subst (λ (r : Reflow). StaysIn r 0 r (front_after_stop r)) (sym next_is) wide_stays

    last_stays : StaysIn next.uber.reflow 0 last.uber.reflow (front_after_stop last.uber.reflow)
    last_stays = subst (λ (r : Reflow). StaysIn r 0 last.uber.reflow (front_after_stop last.uber.reflow)) (sym next_is)
        (subst (λ (r : Reflow). StaysIn (record { from = from; to = from + 1; rows = rows; mark = 0; state = None }) 0 r (front_after_stop r)) (sym last_is)
        (before_within (record { from = from; to = from + 1; rows = rows; mark = 0; state = None }) 0
        (record { from = from; to = from; rows = rows; mark = 0; state = None }) 0 widening refl refl refl refl))
