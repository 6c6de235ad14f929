use Rattle.std.proofs.Common.{ap, ◌∙◌, Some}
use Rattle.std.specs.Prelude.{Option as OptionOf}
use Rattle.atomic_table.specs.Table.{Me}
use Rattle.turn_lock.specs.Turn.{name_of}
use Rattle.turn_lock.specs.declared.view.View.{View}
use Rattle.turn_lock.specs.Seats.{Lock, Sitting}
use Rattle.turn_lock.proofs.Sittings.{laid_after, seat_gave}
use Rattle.turn_lock.proofs.turns.Turns.give.Goals as goal

pub end_with-requires-clause-state : goal.end_with-requires-clause-state
end_with-requires-clause-state g c = (
  c.args.held.state,
  ap (λ (m : Me (OptionOf g.row.S.Denot) (View g.row.E.Denot)). m.1) c.lay.ensures.state,
  laid_after g.S.Represents.represents c.self.inside.table.shared.key c.args.self.now.base (ap (λ (l : Lock g.row.K.Denot). l.base) c.self.view_is)
      c.args.seat.now c.seat.inside.seat.table_id c.seat.inside.seat.me.0 c.lay.new.seat.me.0 c.seat.view_is
      (ap (λ (m : Me (OptionOf g.row.S.Denot) (View g.row.E.Denot)). m.0) c.lay.ensures.state) c.args.held.state
      (record { by = name_of c.lay.new.seat.me.0.members; entry = c.args.entry.now }) c.requires.stands,
)

pub invariant_of-seat : goal.invariant_of-seat
invariant_of-seat g c = seat_gave c.seat.inside.seat.me c.lay.new.seat.me c.end_with.new.seat.me c.seat.inside.events (Some c.args.held.state) c.args.entry.now
    c.seat.invariant (ap (λ (s : Sitting g.row.E.Denot). s.holds) c.seat.view_is ∙ c.requires.holds) c.lay.ensures.state c.end_with.ensures.gave
