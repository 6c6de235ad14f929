use Rattle.std.proofs.Common.{arith, Some, None}
use Rattle.turn_lock.specs.Turn.{StandsFor}
use Rattle.turn_lock.proofs.Gives.{end_any}
use Rattle.turn_lock.proofs.step.end_as_before.Goals as goal

pub store-requires : goal.store-requires
store-requires g c =
    let shared = c.args.shared.now in
    let seat = c.args.seat.now in
    let state = c.requires.state in (
      c.requires.table,
      omega (arith, c.requires.shape.0),
      end_any (StandsFor g.S.Represents.represents shared.key) shared.table_id.slots seat.id c.args.next seat.me c.requires.live (Some state.0) None
          c.requires.shape.1 c.requires.held state.1 state.2 c.requires.next c.requires.room,
    )
