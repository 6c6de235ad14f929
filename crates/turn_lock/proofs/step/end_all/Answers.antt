use Rattle.std.proofs.Common.{arith, Some}
use Rattle.turn_lock.specs.Turn.{StandsFor}
use Rattle.turn_lock.proofs.Gives.{last_any}
use Rattle.turn_lock.proofs.step.end_all.Goals as goal

pub store-requires : goal.store-requires
store-requires g c =
    let shared = c.args.shared.now in
    let seat = c.args.seat.now in
    let state = c.requires.state in (
      c.requires.table,
      omega (arith, c.requires.shape.0),
      last_any (StandsFor g.S.Represents.represents shared.key) shared.table_id.slots seat.id c.args.word seat.me (Some state.0)
          c.requires.shape.1 c.requires.held state.1 state.2 c.requires.word,
    )
