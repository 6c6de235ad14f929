use Rattle.std.proofs.Common.{ℕ, ◌+◌, ◌*◌, ◌∙◌, ap, get_or, arith}
use Rattle.std.specs.Prelude.{bit_xor}
use Rattle.gf_parity.specs.Field.{product}
use Rattle.gf_parity.proofs.Lanewise.{one_more_stored}
use Rattle.gf_solve.proofs.columns.add_products.Goals as goal

pub loop-part-preserved : goal.loop-part-preserved
loop-part-preserved c = record {
  below = one_more_stored 16 c.loop-part.part c.loop-part.out c.store.new.out c.added.result
      (λ place. bit_xor (get_or c.args.out.now place 0) (product c.args.factor (get_or c.args.column.now place 0)))
      c.loop-part.invariant.below c.store.ensures.before c.store.ensures.lanes
      (λ lane low.
      c.added.ensures.lanes lane low
      ∙ (λ i. bit_xor ((c.loaded-in-loop-part.ensures.lanes lane low ∙ c.loop-part.invariant.above (c.loop-part.part * 16 + lane) (omega arith)) i)
      ((c.times-bytes.ensures.lanes lane low ∙ ap (λ (k : ℕ). product k (get_or c.loaded.result lane 0)) c.of-products.ensures
      ∙ ap (product c.args.factor) (c.loaded.ensures.lanes lane low)) i)));
  above = λ place high. c.store.ensures.after place (omega (arith, high)) ∙ c.loop-part.invariant.above place (omega (arith, high));
}

pub returns : goal.returns
returns c = λ at low. c.loop-part.invariant.below at (omega (arith, low, c.loop-part-test.false))
