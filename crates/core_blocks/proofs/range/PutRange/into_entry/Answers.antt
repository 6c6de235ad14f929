use Rattle.std.proofs.Common.{◌≡◌, ℕ, sym, ◌∙◌, ap, subst}
use Rattle.row_layout.specs.Layout.{Layout}
use Rattle.core_blocks.specs.declared.range.PutRange.{PutRange}
use Rattle.core_blocks.specs.Blocks.{IsUnderWay}
use Rattle.core_blocks.specs.Puts.{layout_at}
use Rattle.core_blocks.proofs.range.PutRange.into_entry.Goals as goal

pub returns-clause-under_way : goal.returns-clause-under_way
returns-clause-under_way c blocks under_way is =
    let layout : c.args.self.layout ≡ layout_at blocks.parity blocks.births c.start.result
    c.args.len_bytes c.args.self.birth =
    is.layout_is ∙ ap (λ (start : ℕ). layout_at blocks.parity blocks.births start
    c.args.len_bytes c.args.self.birth) (sym c.start.ensures.value) in
    subst (IsUnderWay blocks) (ap (λ (l : Layout). let range : PutRange =
    record { id = c.args.self.id; birth = c.args.self.birth; layout = l } in range) layout)
    under_way
