use Rattle.std.proofs.Common.{ap, ◌∙◌}
use Rattle.turn_lock.specs.Seats.{Sitting}
use Rattle.turn_lock.proofs.Sittings.{seat_split}
use Rattle.turn_lock.proofs.turns.Turns.split.Goals as goal

pub invariant_of-seat : goal.invariant_of-seat
invariant_of-seat g c = seat_split c.seat.inside.seat.me c.split.new.seat.me c.seat.inside.events c.seat.invariant
    (ap (λ (s : Sitting g.row.E.Denot). s.holds) c.seat.view_is ∙ c.requires.free) c.split.ensures.kept
