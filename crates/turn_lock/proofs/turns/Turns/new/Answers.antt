use Rattle.std.proofs.Common.{sym, subst, Some, List, [], ◌∷◌}
use Rattle.std.specs.Prelude.{Option as OptionOf}
use Rattle.atomic_table.specs.Table.{opening}
use Rattle.turn_lock.specs.Turn.{Rule, StandsFor, alone}
use Rattle.turn_lock.proofs.Openings.{opening_rule}
use Rattle.turn_lock.proofs.turns.Turns.new.Goals as goal

pub new-requires : goal.new-requires
new-requires g c =
    subst (λ (slots : List (OptionOf g.row.S.Denot)). Rule (StandsFor g.S.Represents.represents c.args.base.now) (opening (0 ∷ []) slots (alone {E = g.row.E.Denot})))
    (sym c.in_ok-slots.ensures.slots) (opening_rule (StandsFor g.S.Represents.represents c.args.base.now) (Some c.args.state) c.requires.stands)
