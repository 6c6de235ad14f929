use Rattle.std.proofs.Common.{◌≡◌, ◌∙◌, ℕ, ◌*◌, ap, arith, length}
use Rattle.row_layout.specs.Layout.{columns_of}
use Rattle.reconstruct.proofs.Places.{in_part, before_part}
use Rattle.reconstruct.proofs.encoding.encode_row_among.Goals as goal

first : (c : goal.After-columns-2-1) → length c.split_at_mut-before.result.0.now ≡ c.args.row * columns_of c.args.layout.now
first c = c.split_at_mut-before.ensures.front_len ∙ ap (λ (k : ℕ). c.args.row * k) c.cols-cols.ensures.value

pub returns-clause-here : goal.returns-clause-here
returns-clause-here c = λ column low.
    in_part c.split_at_mut-before.result.0.now c.encode_row.new.columns c.split_at_mut-here.result.1.now (c.args.row * columns_of c.args.layout.now) column (first c)
    (omega (arith, low))
    ∙ c.encode_row.ensures column low

pub returns-clause-before : goal.returns-clause-before
returns-clause-before c = λ place low.
    before_part c.args.columns.now c.split_at_mut-before.result.0.now _ c.split_at_mut-before.result.1.now place c.split_at_mut-before.ensures.value
    (omega (arith, low, first c))
