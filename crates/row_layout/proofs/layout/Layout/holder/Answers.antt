use Rattle.row_layout.proofs.Inverse.{holder_in_high, holder_in_low}
use Rattle.row_layout.proofs.layout.Layout.holder.Goals as goal

pub returns-then-content-reached : goal.returns-then-content-reached
returns-then-content-reached c =
    let at = holder_in_high c.args.self.now c.args.content c.left_over-left_over.result c.rows-rows.result c.parity.result c.rows-rows.ensures.within.is
    c.left_over-left_over.ensures.value c.rows-rows.ensures.value c.parity.ensures.value c.requires.content c.if-content-reached.either in
    record { place = at.place; behind_parity = at.behind_parity }

pub returns-else-content-reached : goal.returns-else-content-reached
returns-else-content-reached c =
    let at = holder_in_low c.args.self.now c.args.content c.left_over-left_over.result c.rows-rows.result c.parity-else-content-reached.result c.rows-rows.ensures.within.is
    c.left_over-left_over.ensures.value c.rows-rows.ensures.value c.parity-else-content-reached.ensures.value c.requires.content c.if-content-reached.false in
    record { place = at.place; behind_parity = at.behind_parity }
