use Rattle.std.proofs.Common.{◌≡◌, ◌<◌, ◌∙◌, ℕ, sym, ap, arith, rules}
use Rattle.std.specs.Prelude.{slice_index}
use Rattle.gf_parity.specs.Field.{product}
use Rattle.gf_parity.proofs.Laws.{product_below}
use Rattle.gf_solve.specs.Inverse.{inverse_of}
use Rattle.gf_solve.specs.Weight.{weight}
use Rattle.gf_solve.proofs.Singled.{weight_below, weight_some}
use Rattle.gf_solve.proofs.Units.{taken_off, times_one}
use Rattle.gf_solve.proofs.Returned.{put_on}
use Rattle.gf_solve.proofs.singling.single_out_one.Goals as goal

pub inverse-requires : goal.inverse-requires
inverse-requires c = λ none. weight_some c.args.which c.args.x (omega arith) c.requires.x (sym c.weight-weight.ensures ∙ none)

pub returns-then-weight-ne1-clause-found : goal.returns-then-weight-ne1-clause-found
returns-then-weight-ne1-clause-found c = λ at first low byte lack.
    c.scale.ensures.value at low ∙ ap (λ (k : ℕ). product k (slice_index c.args.lack.now at)) (c.inverse.ensures.value ∙ ap inverse_of c.weight-weight.ensures)
    ∙ ap (product (inverse_of (weight c.args.which c.args.x))) lack
    ∙ taken_off (weight c.args.which c.args.x) first (weight_below c.args.which c.args.x (omega arith)) byte
    (weight_some c.args.which c.args.x (omega arith) c.requires.x)

pub returns-then-weight-ne1-clause-bytes : goal.returns-then-weight-ne1-clause-bytes
returns-then-weight-ne1-clause-bytes c = λ at low.
    rw (c.scale.ensures.value at low) (product_below c.inverse.result (slice_index c.args.lack.now at) (omega arith))

pub returns-then-weight-ne1-clause-gives : goal.returns-then-weight-ne1-clause-gives
returns-then-weight-ne1-clause-gives c = λ at low.
    ap (product (weight c.args.which c.args.x)) (c.scale.ensures.value at low ∙ ap (λ (k : ℕ). product k (slice_index c.args.lack.now at)) (c.inverse.ensures.value ∙ ap inverse_of c.weight-weight.ensures))
    ∙ put_on (weight c.args.which c.args.x) (slice_index c.args.lack.now at) (weight_below c.args.which c.args.x (omega arith)) (c.scale.ensures.bytes at low)
    (weight_some c.args.which c.args.x (omega arith) c.requires.x)

pub returns-else-weight-ne1-clause-found : goal.returns-else-weight-ne1-clause-found
returns-else-weight-ne1-clause-found c = λ at first low byte lack.
    let one : weight c.args.which c.args.x ≡ 1 = omega (arith, c.if-weight-ne1.false, c.weight-weight.ensures) in
    lack ∙ times_one (weight c.args.which c.args.x) first one byte

pub returns-else-weight-ne1-clause-gives : goal.returns-else-weight-ne1-clause-gives
returns-else-weight-ne1-clause-gives c = λ at low.
    let one : weight c.args.which c.args.x ≡ 1 = omega (arith, c.if-weight-ne1.false, c.weight-weight.ensures) in
    let byte : slice_index c.args.lack.now at < 256 = search rules in
    times_one (weight c.args.which c.args.x) (slice_index c.args.lack.now at) one byte
