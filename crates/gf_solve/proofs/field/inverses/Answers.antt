use Rattle.std.proofs.Common.{ℕ, ◌∙◌, sym, ap, arith}
use Rattle.gf_parity.specs.Field.{product}
use Rattle.gf_parity.proofs.Laws.{product_below}
use Rattle.gf_solve.proofs.Units.{product_some, first_inverse, second_inverse, third_inverse}
use Rattle.gf_solve.proofs.field.inverses.Goals as goal

pub inverse-over_all-requires : goal.inverse-over_all-requires
inverse-over_all-requires c = λ none.
    product_some (product c.args.x c.args.y) c.args.z (product_below c.args.x c.args.y (omega arith)) (omega arith)
    (product_some c.args.x c.args.y (omega arith) (omega arith) c.requires.x c.requires.y) c.requires.z
    (sym (c.mul.ensures.value ∙ ap (λ (k : ℕ). product k c.args.z) c.mul-x_y.ensures.value) ∙ none)

pub returns-clause-x : goal.returns-clause-x
returns-clause-x c =
    c.mul-2.ensures.value ∙ ap (λ (k : ℕ). product k c.args.y) c.mul-over_x_y.ensures.value
    ∙ first_inverse c.args.x c.args.y c.args.z c.inverse-over_all.result (omega arith) (omega arith) (omega arith) c.requires.x c.requires.y c.requires.z (omega arith)
    (ap (product c.inverse-over_all.result) (sym (c.mul.ensures.value ∙ ap (λ (k : ℕ). product k c.args.z) c.mul-x_y.ensures.value)) ∙ c.inverse-over_all.ensures.inverts)

pub returns-clause-y : goal.returns-clause-y
returns-clause-y c =
    c.mul-3.ensures.value ∙ ap (λ (k : ℕ). product k c.args.x) c.mul-over_x_y.ensures.value
    ∙ second_inverse c.args.x c.args.y c.args.z c.inverse-over_all.result (omega arith) (omega arith) (omega arith) c.requires.x c.requires.y c.requires.z (omega arith)
    (ap (product c.inverse-over_all.result) (sym (c.mul.ensures.value ∙ ap (λ (k : ℕ). product k c.args.z) c.mul-x_y.ensures.value)) ∙ c.inverse-over_all.ensures.inverts)

pub returns-clause-z : goal.returns-clause-z
returns-clause-z c =
    c.mul-4.ensures.value ∙ ap (product c.inverse-over_all.result) c.mul-x_y.ensures.value
    ∙ third_inverse c.args.x c.args.y c.args.z c.inverse-over_all.result (omega arith) (omega arith) (omega arith) c.requires.x c.requires.y c.requires.z (omega arith)
    (ap (product c.inverse-over_all.result) (sym (c.mul.ensures.value ∙ ap (λ (k : ℕ). product k c.args.z) c.mul-x_y.ensures.value)) ∙ c.inverse-over_all.ensures.inverts)
