use Rattle.std.proofs.Common.{rules, ℕ, ◌+◌, ◌-◌, ◌++◌, ◌∙◌, ap}
use Rattle.reconstruct.specs.Suspects.{mark_for, pairs_of_width}
use Rattle.reconstruct.proofs.Pairs.{one_width_more, all_inside}
use Rattle.reconstruct.proofs.suspecting.suspects.Goals as goal

pub loop-narrower-preserved : goal.loop-narrower-preserved
loop-narrower-preserved c =
    let width : ℕ = c.loop-narrower.narrower - 1 + 1 in
    one_width_more (mark_for c.args.births.now c.args.to c.args.mark) _ c.loop-narrower.narrower
    c.loop-narrower.pairs.items c.push_width.new.pairs.items _ c.loop-narrower-test.true c.loop-narrower.invariant
    (c.in_ok-push_width.ensures
    ∙ ap (λ (k : ℕ). c.loop-narrower.pairs.items ++ pairs_of_width k width width) c.mark_for.ensures)

pub returns-clause-inside : goal.returns-clause-inside
returns-clause-inside c =
    all_inside c.args.births.now c.args.to c.args.mark c.push_width-2.new.pairs.items (search rules)
