use Rattle.std.proofs.Common.{ap, ◌∙◌, Some, None}
use mathlib.Core.Option.{some}
use Rattle.turn_lock.specs.Turn.{StandsFor}
use Rattle.turn_lock.proofs.Gives.{final_state}
use Rattle.turn_lock.proofs.step.take_out.Goals as goal

pub unreachable-requires : goal.unreachable-requires
unreachable-requires g c =
    final_state (StandsFor g.S.Represents.represents c.args.table.shared.key) c.args.seat.id c.args.seat.me.0 _ _ None c.requires.ended
    c.close_with-closed.ensures.values.2 (c.take-last.ensures.value ∙ ap some c.in-None.is)

pub returns : goal.returns
returns g c = record {
  stands = final_state (StandsFor g.S.Represents.represents c.args.table.shared.key) c.args.seat.id c.args.seat.me.0 _ _ (Some c.in-Some.state) c.requires.ended
      c.close_with-closed.ensures.values.2 (c.take-last.ensures.value ∙ ap some c.in-Some.is);
}
