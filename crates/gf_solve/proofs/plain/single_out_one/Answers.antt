use Rattle.std.proofs.Common.{◌∙◌, ℕ, sym, ap, arith}
use Rattle.std.specs.Prelude.{slice_index}
use Rattle.gf_parity.specs.Field.{product}
use Rattle.gf_solve.specs.Inverse.{inverse_of}
use Rattle.gf_solve.specs.Weight.{weight}
use Rattle.gf_solve.proofs.Singled.{weight_below, weight_some}
use Rattle.gf_solve.proofs.Units.{taken_off}
use Rattle.gf_solve.proofs.Returned.{put_on}
use Rattle.gf_parity.proofs.Laws.{product_below}
use Rattle.gf_solve.proofs.plain.single_out_one.Goals as goal

pub inverse-requires : goal.inverse-requires
inverse-requires c = λ none. weight_some c.args.which c.args.x (omega arith) c.requires.x (sym c.weight.ensures ∙ none)

pub returns-clause-found : goal.returns-clause-found
returns-clause-found c = λ at first low byte lack.
    c.scale.ensures.value at low ∙ ap (λ (k : ℕ). product k (slice_index c.args.lack.now at)) (c.inverse.ensures.value ∙ ap inverse_of c.weight.ensures)
    ∙ ap (product (inverse_of (weight c.args.which c.args.x))) lack
    ∙ taken_off (weight c.args.which c.args.x) first (weight_below c.args.which c.args.x (omega arith)) byte
    (weight_some c.args.which c.args.x (omega arith) c.requires.x)

pub returns-clause-bytes : goal.returns-clause-bytes
returns-clause-bytes c = λ at low. rw (c.scale.ensures.value at low) (product_below c.inverse.result (slice_index c.args.lack.now at) (omega arith))

pub returns-clause-gives : goal.returns-clause-gives
returns-clause-gives c = λ at low.
    ap (product (weight c.args.which c.args.x)) (c.scale.ensures.value at low ∙ ap (λ (k : ℕ). product k (slice_index c.args.lack.now at)) (c.inverse.ensures.value ∙ ap inverse_of c.weight.ensures))
    ∙ put_on (weight c.args.which c.args.x) (slice_index c.args.lack.now at) (weight_below c.args.which c.args.x (omega arith)) (c.scale.ensures.bytes at low)
    (weight_some c.args.which c.args.x (omega arith) c.requires.x)
