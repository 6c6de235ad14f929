use Rattle.std.proofs.Common.{arith}
use Rattle.turn_lock.specs.Turn.{StandsFor}
use Rattle.turn_lock.proofs.Seats.{split_any}
use Rattle.turn_lock.proofs.step.split.Goals as goal

pub split_seat-requires : goal.split_seat-requires
split_seat-requires g c =
    let live = c.requires.live in (
      c.requires.table,
      omega (arith, c.requires.shape.0),
      split_any (StandsFor g.S.Represents.represents c.args.shared.now.key) c.args.seat.now.id c.args.seat.now.me.0 live.0 live.1 live.2 c.requires.free,
    )
