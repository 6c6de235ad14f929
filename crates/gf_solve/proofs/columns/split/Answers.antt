use Rattle.std.proofs.Common.{◌≡◌, ◌∙◌, ℕ, ap, arith}
use Rattle.std.specs.Prelude.{slice_index, bit_xor}
use Rattle.std.proofs.lemmas.Nat.{xor_of_8}
use Rattle.gf_parity.specs.Field.{product}
use Rattle.gf_solve.proofs.Singled.{first_of_two}
use Rattle.gf_solve.proofs.Sums.{first_twice}
use Rattle.gf_solve.proofs.Units.{sum_some}
use Rattle.gf_solve.proofs.Returned.{put_on, rest_returns, split_returns}
use Rattle.gf_solve.proofs.columns.split.Goals as goal

pub returns-clause-found : goal.returns-clause-found
returns-clause-found c = λ x at first second is_byte differ apart low byte sum weighted.
    let found : slice_index c.scale.new.out at ≡ first =
    c.scale.ensures.value at low
    ∙ ap (λ (k : ℕ). product k (slice_index c.add_times.new.out at)) apart
    ∙ ap (product _) (c.add_times.ensures.value at low)
    ∙ first_of_two x c.args.y first second (slice_index c.args.sum.now at) (slice_index c.args.weighted.now at) is_byte (omega arith) byte
    differ sum weighted in (
      found,
      c.add.ensures at low ∙ ap (λ (k : ℕ). bit_xor k (slice_index c.scale.new.out at)) sum ∙ ap (bit_xor (bit_xor first second)) found
          ∙ first_twice first second,
    )

pub returns-clause-gives : goal.returns-clause-gives
returns-clause-gives c = λ x at is_byte differ apart low.
    let first_is : product (bit_xor x c.args.y) (slice_index c.scale.new.out at) ≡ bit_xor (slice_index c.args.weighted.now at) (product c.args.y (slice_index c.args.sum.now at)) =
    ap (product (bit_xor x c.args.y)) (c.scale.ensures.value at low ∙ ap (λ (k : ℕ). product k (slice_index c.add_times.new.out at)) apart)
    ∙ put_on (bit_xor x c.args.y) (slice_index c.add_times.new.out at) (xor_of_8 x c.args.y is_byte (omega arith)) (c.scale.ensures.bytes at low)
    (sum_some x c.args.y differ) ∙ c.add_times.ensures.value at low in (
      rest_returns (slice_index c.args.sum.now at) (slice_index c.scale.new.out at) (slice_index c.add.new.out at) (c.add.ensures at low),
      split_returns x c.args.y (slice_index c.args.sum.now at) (slice_index c.args.weighted.now at) (slice_index c.scale.new.out at) (slice_index c.add.new.out at)
          (c.add.ensures at low) first_is,
    )
