use Rattle.std.proofs.Common.{ap}
use Rattle.std.specs.Prelude.{Option as OptionOf}
use Rattle.atomic_table.specs.Table.{Me}
use Rattle.turn_lock.specs.declared.view.View.{View}
use Rattle.turn_lock.specs.Seats.{Lock}
use Rattle.turn_lock.proofs.Sittings.{laid_before}
use Rattle.turn_lock.proofs.turns.Turns.give_back.Goals as goal

pub end_as_before-requires-clause-state : goal.end_as_before-requires-clause-state
end_as_before-requires-clause-state g c = (
  c.args.held.state,
  ap (λ (m : Me (OptionOf g.row.S.Denot) (View g.row.E.Denot)). m.1) c.lay.ensures.state,
  laid_before g.S.Represents.represents c.self.inside.table.shared.key c.args.self.now.base (ap (λ (l : Lock g.row.K.Denot). l.base) c.self.view_is)
      c.args.seat.now c.seat.inside.seat.table_id c.seat.inside.seat.me.0 c.lay.new.seat.me.0 c.seat.view_is
      (ap (λ (m : Me (OptionOf g.row.S.Denot) (View g.row.E.Denot)). m.0) c.lay.ensures.state) c.args.held.state c.requires.stands,
)
