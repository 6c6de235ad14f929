use Rattle.std.proofs.Common.{◌≡◌, ℕ, ◌-◌, ◌/◌, ◌^◌, ◌∙◌, ap, sym, refl, get_or, arith, Fits, w8}
use Rattle.std.proofs.lemmas.Simd.{get_or-replicate, Each1-get_or}
use Rattle.gf_parity.specs.Field.{product}
use Rattle.gf_parity.proofs.Bits.{mul_more}
use Rattle.gf_parity.proofs.Laws.{product_zero, product_comm}
use Rattle.gf_solve.proofs.products.times_each.Goals as goal

pub loop-bit-init : goal.loop-bit-init
loop-bit-init c = record {
  long = refl;
  lanes = λ lane low.
      let none : c.args.factor / 256 ≡ 0 = omega arith in
      get_or-replicate 16 lane 0 0 low ∙ sym (ap (product (get_or c.args.bytes lane 0)) none ∙ product_zero (get_or c.args.bytes lane 0));
}

pub loop-bit-preserved : goal.loop-bit-preserved
loop-bit-preserved c = record {
  long = c.added-sum.ensures.long;
  lanes = λ lane low.
      c.added-sum.ensures.lanes lane low
      ∙ mul_more (get_or c.args.bytes lane 0) c.args.factor c.loop-bit.bit (get_or c.loop-bit.sum lane 0) (get_or c.doubled.result lane 0) (get_or c.bytes_if.result lane 0)
      (Each1-get_or (Fits w8) c.args.bytes lane 0 (omega (arith, low, c.fits-bytes.0)) c.fits-bytes.1).fits (omega arith) c.loop-bit-test.true
      (c.loop-bit.invariant.lanes lane low) (c.doubled.ensures.lanes lane low)
      (λ has. c.bytes_if.ensures.has has lane low) (λ lacks. c.bytes_if.ensures.lacks lacks lane low);
}

pub returns-clause-lanes : goal.returns-clause-lanes
returns-clause-lanes c = λ lane low.
    let none : 8 - c.loop-bit.bit ≡ 0 = omega (arith, c.loop-bit-test.false) in
    let all : c.args.factor / 2 ^ 0 ≡ c.args.factor = omega arith in
    c.loop-bit.invariant.lanes lane low
    ∙ ap (λ (k : ℕ). product (get_or c.args.bytes lane 0) (c.args.factor / 2 ^ k)) none ∙ ap (product (get_or c.args.bytes lane 0)) all
    ∙ product_comm (get_or c.args.bytes lane 0) c.args.factor (Each1-get_or (Fits w8) c.args.bytes lane 0 (omega (arith, low, c.fits-bytes.0)) c.fits-bytes.1).fits (omega arith)
