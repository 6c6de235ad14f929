use Rattle.std.proofs.Common.{ap, ◌∙◌, [], ◌∷◌}
use Rattle.std.specs.Prelude.{Option as OptionOf}
use Rattle.atomic_table.specs.Table.{Me}
use Rattle.turn_lock.specs.Turn.{StandsFor}
use Rattle.turn_lock.specs.declared.view.View.{View}
use Rattle.turn_lock.specs.Seats.{Sitting}
use Rattle.turn_lock.proofs.Sittings.{some_state, seat_took, seat_full}
use Rattle.turn_lock.proofs.turns.Turns.take.Goals as goal

pub lift-requires-clause-full : goal.lift-requires-clause-full
lift-requires-clause-full g c =
    let taken = c.in-Ok.ensures.took in
    let found = some_state g.S.Represents.represents c.self.inside.table.shared.key taken.1 taken.0 taken.3 in (
      found.0,
      ap (λ (m : Me (OptionOf g.row.S.Denot) (View g.row.E.Denot)). m.1) taken.2
          ∙ ap (λ (slot : OptionOf g.row.S.Denot). (0, slot) ∷ []) found.1,
    )

pub invariant_of-seat : goal.invariant_of-seat
invariant_of-seat g c = seat_took (StandsFor g.S.Represents.represents c.self.inside.table.shared.key) c.seat.inside.seat.me c.wait_for_turn.new.seat.me c.lift.new.seat.me
    c.in-Ok.events c.seat.invariant.live c.in-Ok.ensures.took c.lift.ensures.empty

pub invariant_of-seat-in-Err : goal.invariant_of-seat-in-Err
invariant_of-seat-in-Err g c = seat_full c.seat.inside.seat.me c.wait_for_turn.new.seat.me c.seat.inside.events c.seat.invariant
    (ap (λ (s : Sitting g.row.E.Denot). s.holds) c.seat.view_is ∙ c.requires.free) c.in-Err.ensures.full
