use Rattle.std.proofs.Common.{ℕ, ◌+◌, ap}
use Rattle.row_layout.proofs.Parts.{before_high, before_low}
use Rattle.row_layout.proofs.layout.Layout.content_at.Goals as goal

pub returns-then-column-left_over : goal.returns-then-column-left_over
returns-then-column-left_over c =
    record { value = ap (λ (k : ℕ). k + c.args.row) (before_high c.args.self.now c.args.column c.left_over-left_over.result c.rows-rows.result c.left_over-left_over.ensures.value c.rows-rows.ensures.value c.if-column-left_over.either) }

pub returns-else-column-left_over : goal.returns-else-column-left_over
returns-else-column-left_over c =
    record { value = ap (λ (k : ℕ). k + c.args.row) (before_low c.args.self.now c.args.column c.left_over-left_over.result c.rows-rows.result c.left_over-left_over.ensures.value c.rows-rows.ensures.value c.if-column-left_over.false) }
