use Rattle.std.proofs.Common.{◌≡◌, ◌∙◌, ℕ, ap, arith}
use Rattle.std.specs.Prelude.{slice_index, bit_xor}
use Rattle.std.proofs.lemmas.Nat.{xor_of_8}
use Rattle.gf_parity.specs.Field.{product}
use Rattle.gf_solve.proofs.Singled.{first_of_two}
use Rattle.gf_solve.proofs.Sums.{first_twice}
use Rattle.gf_solve.proofs.Units.{sum_some}
use Rattle.gf_solve.proofs.Returned.{put_on, rest_returns, split_returns}
use Rattle.gf_solve.proofs.plain.split.Goals as goal

pub returns-clause-found : goal.returns-clause-found
returns-clause-found c = λ at first second low byte sum weighted.
    let found : slice_index c.scale.new.out at ≡ first =
    c.scale.ensures.value at low
    ∙ ap (λ (k : ℕ). product k (slice_index c.add_times.new.out at)) c.inverse.ensures.value
    ∙ ap (product _) (c.add_times.ensures.value at low)
    ∙ first_of_two c.args.x c.args.y first second (slice_index c.args.sum.now at) (slice_index c.args.weighted.now at) (omega arith) (omega arith) byte
    c.requires sum weighted in (
      found,
      c.add.ensures at low ∙ ap (λ (k : ℕ). bit_xor k (slice_index c.scale.new.out at)) sum ∙ ap (bit_xor (bit_xor first second)) found
          ∙ first_twice first second,
    )

pub returns-clause-gives : goal.returns-clause-gives
returns-clause-gives c = λ at low.
    let first_is : product (bit_xor c.args.x c.args.y) (slice_index c.scale.new.out at) ≡ bit_xor (slice_index c.args.weighted.now at) (product c.args.y (slice_index c.args.sum.now at)) =
    ap (product (bit_xor c.args.x c.args.y)) (c.scale.ensures.value at low ∙ ap (λ (k : ℕ). product k (slice_index c.add_times.new.out at)) c.inverse.ensures.value)
    ∙ put_on (bit_xor c.args.x c.args.y) (slice_index c.add_times.new.out at) (xor_of_8 c.args.x c.args.y (omega arith) (omega arith)) (c.scale.ensures.bytes at low)
    (sum_some c.args.x c.args.y c.requires) ∙ c.add_times.ensures.value at low in (
      rest_returns (slice_index c.args.sum.now at) (slice_index c.scale.new.out at) (slice_index c.add.new.out at) (c.add.ensures at low),
      split_returns c.args.x c.args.y (slice_index c.args.sum.now at) (slice_index c.args.weighted.now at) (slice_index c.scale.new.out at) (slice_index c.add.new.out at)
          (c.add.ensures at low) first_is,
    )
