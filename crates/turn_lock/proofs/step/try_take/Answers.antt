use Rattle.std.proofs.Common.{arith, sym, subst, ◌==◌, ◌+◌}
use Rattle.std.specs.Prelude.{Option as OptionOf}
use prog.Atomic.{either}
use Rattle.atomic_table.specs.Table.{Allows}
use Rattle.turn_lock.specs.Turn.{Rule, StandsFor, StandsIf, Acquires}
use Rattle.turn_lock.proofs.Takes.{take_any}
use Rattle.turn_lock.proofs.step.try_take.Goals as goal

pub compare_exchange-requires : goal.compare_exchange-requires
compare_exchange-requires g c =
    let shared = c.args.shared.now in
    let seat = c.args.seat.now in
    let at = c.args.at in
    let live = c.requires.live in (
      c.requires.table,
      omega (arith, c.requires.shape.0),
      subst (λ (b : OptionOf g.row.K.Denot). Allows (Rule (StandsFor g.S.Represents.represents shared.key)) shared.table_id.slots seat.id seat.me 0
          (λ n. either (n == at) (at + 1) n) (Acquires (StandsIf g.S.Represents.represents b) seat.me at)) (sym c.requires.base)
          (take_any (StandsFor g.S.Represents.represents shared.key) shared.table_id.slots seat.id seat.me at c.requires.shape.1
          live.0 live.1 live.2 c.requires.free.0 c.requires.free.1 c.requires.even),
    )
