use Rattle.std.proofs.Common.{ℕ, ◌+◌, ◌∙◌, ap, sym, refl, List}
use Rattle.std.proofs.lemmas.Simd.{get_or-replicate}
use Rattle.std.proofs.lemmas.List.{take_all}
use Rattle.gf_parity.specs.Parity.{r_of, bytes_at}
use Rattle.gf_parity.proofs.Horner.{r_none, r_more}
use Rattle.gf_parity.proofs.columns.r_from.Goals as goal

pub loop-column-init : goal.loop-column-init
loop-column-init c = record { long = refl; lanes = λ lane low. get_or-replicate 64 lane 0 0 low ∙ sym (r_none (c.args.at + lane)) }

pub loop-column-preserved : goal.loop-column-preserved
loop-column-preserved c = record {
  long = c.quadruple_and_add-sum.ensures.long;
  lanes = λ lane low.
      c.quadruple_and_add-sum.ensures.lanes lane low
      ∙ r_more (c.args.at + lane) c.loop-column.column-index _ c.args.content.now _ c.loop-column-test.true (c.loop-column.invariant.lanes lane low);
}

pub returns-clause-lanes : goal.returns-clause-lanes
returns-clause-lanes c = λ lane low.
    c.loop-column.invariant.lanes lane low
    ∙ ap (λ (k : List (List ℕ)). r_of (bytes_at (c.args.at + lane) k)) (take_all c.loop-column.column-index c.args.content.now c.loop-column-test.false)
