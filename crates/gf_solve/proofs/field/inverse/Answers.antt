use Rattle.std.proofs.Common.{◌≡◌, ◌∙◌, ℕ, ◌-◌, ◌+◌, sym, ap, arith}
use Rattle.gf_parity.specs.Field.{product}
use Rattle.gf_solve.specs.Inverse.{inverse_of, squares_times}
use Rattle.gf_solve.proofs.Units.{squares_step, squares_none, squares_all, inverse_is}
use Rattle.gf_solve.proofs.field.inverse.Goals as goal

pub loop-step-init : goal.loop-step-init
loop-step-init c = squares_all c.args.byte

pub loop-step-preserved : goal.loop-step-preserved
loop-step-preserved c =
    let square : c.mul-square.result ≡ product c.loop-step.square c.loop-step.square = c.mul-square.ensures.value in
    let sum : c.mul-inverse.result ≡ product c.loop-step.inverse c.mul-square.result = c.mul-inverse.ensures.value in
    ap (λ (k : ℕ). squares_times c.mul-square.result k (7 - (c.loop-step._step + 1))) sum
    ∙ ap (λ (k : ℕ). squares_times k (product c.loop-step.inverse k) (7 - (c.loop-step._step + 1))) square
    ∙ sym (squares_step c.loop-step.square c.loop-step.inverse c.loop-step._step c.loop-step-test.true) ∙ c.loop-step.invariant

pub returns-clause-value : goal.returns-clause-value
returns-clause-value c = sym (squares_none c.loop-step.square c.loop-step.inverse c.loop-step._step c.loop-step-test.false) ∙ c.loop-step.invariant

pub returns-clause-inverts : goal.returns-clause-inverts
returns-clause-inverts c =
    let value : c.loop-step.inverse ≡ inverse_of c.args.byte =
    sym (squares_none c.loop-step.square c.loop-step.inverse c.loop-step._step c.loop-step-test.false) ∙ c.loop-step.invariant in
    ap (λ (k : ℕ). product k c.args.byte) value ∙ (inverse_is c.args.byte (omega arith) c.requires).0
