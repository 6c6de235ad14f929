use Rattle.std.proofs.Common.{ap}
use Rattle.turn_lock.specs.Seats.{Lock}
use Rattle.turn_lock.proofs.Sittings.{last_state, ended_of}
use Rattle.turn_lock.proofs.turns.Turns.close.Goals as goal

pub end_all-requires-clause-state : goal.end_all-requires-clause-state
end_all-requires-clause-state g c = last_state g.S.Represents.represents c.self.inside.table.shared.key c.into_inner-last.result.me
    c.wait_to_close-word.new.seat.me c.wait_to_close-word.result c.into_inner-last.ensures.live c.wait_to_close-word.ensures.took

pub returns : goal.returns
returns g c = record {
  ended = ended_of g.S.Represents.represents c.self.inside.table.shared.key c.args.self.base (ap (λ (l : Lock g.row.K.Denot). l.base) c.self.view_is)
      c.args.seat c.into_inner-last.result.table_id c.into_inner-last.result.me c.wait_to_close-word.new.seat.me c.end_all.new.seat.me
      c.wait_to_close-word.result c.into_inner-last.ensures.seat c.into_inner-last.ensures.live c.into_inner-last.ensures.most
      c.wait_to_close-word.ensures.took c.end_all.ensures.ended c.take_out.result c.take_out.ensures.stands;
}
