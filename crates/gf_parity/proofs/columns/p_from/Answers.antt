use Rattle.std.proofs.Common.{ℕ, ◌+◌, ◌∙◌, ap, sym, refl, get_or, List}
use Rattle.std.specs.Prelude.{bit_xor}
use Rattle.std.proofs.lemmas.Simd.{get_or-replicate}
use Rattle.std.proofs.lemmas.List.{take_all}
use Rattle.gf_parity.specs.Parity.{p_of, bytes_at}
use Rattle.gf_parity.proofs.Horner.{p_none, p_more}
use Rattle.gf_parity.proofs.columns.p_from.Goals as goal

pub loop-column-init : goal.loop-column-init
loop-column-init c = record { long = refl; lanes = λ lane low. get_or-replicate 64 lane 0 0 low ∙ sym (p_none (c.args.at + lane)) }

pub loop-column-preserved : goal.loop-column-preserved
loop-column-preserved c = record {
  long = c.added-sum.ensures.long;
  lanes = λ lane low.
      c.added-sum.ensures.lanes lane low
      ∙ ap (λ (k : ℕ). bit_xor (get_or c.loop-column.sum lane 0) k) (c.loaded.ensures.lanes lane low)
      ∙ p_more (c.args.at + lane) c.loop-column.column-index _ c.args.content.now _ c.loop-column-test.true (c.loop-column.invariant.lanes lane low);
}

pub returns-clause-lanes : goal.returns-clause-lanes
returns-clause-lanes c = λ lane low.
    c.loop-column.invariant.lanes lane low
    ∙ ap (λ (k : List (List ℕ)). p_of (bytes_at (c.args.at + lane) k)) (take_all c.loop-column.column-index c.args.content.now c.loop-column-test.false)
