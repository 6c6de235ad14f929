use Rattle.std.proofs.Common.{arith}
use Rattle.turn_lock.specs.Turn.{StandsFor}
use Rattle.turn_lock.proofs.Seats.{join_any}
use Rattle.turn_lock.proofs.step.join.Goals as goal

pub join_seat-requires : goal.join_seat-requires
join_seat-requires g c =
    let live = c.requires.live in (
      c.requires.tables.0,
      c.requires.tables.1,
      c.requires.free.2,
      omega (arith, c.requires.shape.0),
      join_any (StandsFor g.S.Represents.represents c.args.shared.now.key) c.args.seat.now.id c.args.other.id c.args.seat.now.me.0 c.args.other.me.0 live.0 live.1 live.2 c.requires.free.0 c.requires.free.1,
    )
