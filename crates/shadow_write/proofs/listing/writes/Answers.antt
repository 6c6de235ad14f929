use Rattle.std.proofs.Common.{◌≡◌, ℕ, List, sym, ap, ◌∙◌, subst, arith}
use Rattle.reflow_mark.specs.declared.reflow.Reflow.{Reflow}
use Rattle.row_layout.specs.Layout.{Layout, rows_of}
use Rattle.shadow_write.specs.declared.write.Write.{Write}
use Rattle.shadow_write.specs.Writes.{AreRequired, LeaveNoneOut, writes_of, writes_of_rows}
use Rattle.shadow_write.proofs.Whole.{are_required, none_left_out}
use Rattle.shadow_write.proofs.listing.writes.Goals as goal

-- All rows are done.
all_of : (layout : Layout) (reflow : Reflow) (done row : ℕ) (writes : List Write) → row ≡ rows_of layout
    → writes ≡ writes_of_rows layout reflow done row → writes ≡ writes_of layout reflow done
all_of layout reflow done row writes last is = is ∙ ap (λ (rows : ℕ). writes_of_rows layout reflow done rows) last

pub returns-clause-required : goal.returns-clause-required
returns-clause-required c =
    let last : c.loop-row.row ≡ rows_of c.args.layout.now = omega arith in
    subst (λ (writes : List Write). AreRequired c.args.layout.now c.args.reflow.now c.args.done writes)
    (sym (all_of _ _ c.args.done _ _ last c.loop-row.invariant))
    (are_required c.args.layout.now c.args.reflow.now c.args.done)

pub returns-clause-none_out : goal.returns-clause-none_out
returns-clause-none_out c = λ right front.
    let last : c.loop-row.row ≡ rows_of c.args.layout.now = omega arith in
    subst (λ (writes : List Write). LeaveNoneOut c.args.layout.now writes)
    (sym (all_of _ _ c.args.done _ _ last c.loop-row.invariant))
    (none_left_out c.args.layout.now c.args.reflow.now c.args.done right front)
