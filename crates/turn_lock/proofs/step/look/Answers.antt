use Rattle.std.proofs.Common.{arith}
use Rattle.turn_lock.specs.Turn.{StandsFor}
use Rattle.turn_lock.proofs.Takes.{look_any}
use Rattle.turn_lock.proofs.step.look.Goals as goal

pub load-requires : goal.load-requires
load-requires g c = (
  c.requires.table,
  omega (arith, c.requires.shape.0),
  look_any (StandsFor g.S.Represents.represents c.args.shared.now.key) c.args.shared.now.table_id.slots c.args.seat.now.id c.args.seat.now.me c.requires.shape.1 c.requires.free,
)
