use Rattle.std.proofs.Common.{arith, sym, subst, Some}
use Rattle.std.specs.Prelude.{Option as OptionOf}
use Rattle.atomic_table.specs.Table.{Allows}
use Rattle.turn_lock.specs.Turn.{Rule, StandsFor, Releases}
use Rattle.turn_lock.proofs.Gives.{end_any}
use Rattle.turn_lock.proofs.step.end_with.Goals as goal

pub store-requires : goal.store-requires
store-requires g c =
    let shared = c.args.shared.now in
    let seat = c.args.seat.now in
    let state = c.requires.state in (
      c.requires.table,
      omega (arith, c.requires.shape.0),
      subst (λ (e : OptionOf g.row.E.Denot). Allows (Rule (StandsFor g.S.Represents.represents shared.key)) shared.table_id.slots seat.id seat.me 0
          (λ n. c.args.next) (λ n. Releases e seat.me)) (sym c.requires.entry)
          (end_any (StandsFor g.S.Represents.represents shared.key) shared.table_id.slots seat.id c.args.next seat.me c.requires.live (Some state.0) (Some c.args.entry.now)
          c.requires.shape.1 c.requires.held state.1 state.2 c.requires.next c.requires.room),
    )
