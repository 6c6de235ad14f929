use Rattle.std.proofs.Common.{◌<◌, List, length, sym, ◌∙◌, ap, subst}
use Rattle.width_map.specs.declared.birth.Birth.{Birth}
use Rattle.reflow_mark.specs.declared.reflow.Reflow.{Reflow}
use Rattle.core_commit.proofs.NewBirth.{other_ends, room_for}
use Rattle.core_commit.proofs.next_group.births_behind.Goals as goal

pub add-requires-clause-room : goal.add-requires-clause-room
add-requires-clause-room c = subst (λ (births : List Birth). length births < 16) (sym c.births.ensures.value)
    (room_for c.args.uber.now c.requires.right
    (other_ends c.args.uber.now.reflow c.args.chosen.now c.requires.widths
    (λ same. c.if-chosen-reflow.true (same ∙ ap (λ (r : Reflow). r.from) (sym c.reflow.ensures.value)))))
