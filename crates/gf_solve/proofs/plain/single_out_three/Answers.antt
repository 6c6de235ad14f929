use Rattle.std.proofs.Common.{◌≡◌, ◌∙◌, ◌<◌, ℕ, ap, arith}
use Rattle.std.specs.Prelude.{slice_index, bit_xor}
use Rattle.std.proofs.lemmas.Nat.{xor_of_8}
use Rattle.gf_parity.specs.Field.{product}
use Rattle.gf_parity.proofs.Laws.{product_below, one_product}
use Rattle.gf_solve.proofs.Singled.{two_of_three, two_of_three_later}
use Rattle.gf_solve.proofs.Sums.{last_of_three}
use Rattle.gf_solve.proofs.Returned.{scaled_again, three_sum, three_returns_q, three_returns_r}
use Rattle.gf_solve.proofs.Units.{taken_off, sum_some}
use Rattle.gf_solve.proofs.plain.single_out_three.Goals as goal

pub returns-clause-found : goal.returns-clause-found
returns-clause-found c = λ at first second third low byte other last p q r.
    let x = c.args.x in
    let y = c.args.y in
    let z = c.args.z in
    let x_z : bit_xor x z < 256 = xor_of_8 x z (omega arith) (omega arith) in
    let plain : slice_index c.args.p.now at ≡ bit_xor (bit_xor first second) third =
    p
    ∙ ap (λ (k : ℕ). bit_xor (bit_xor k (product 1 second)) (product 1 third)) (one_product first byte)
    ∙ ap (λ (k : ℕ). bit_xor (bit_xor first k) (product 1 third)) (one_product second other)
    ∙ ap (bit_xor (bit_xor first second)) (one_product third last) in
    let sum : slice_index c.add_times-2.new.out at ≡ bit_xor (product (bit_xor x z) first) (product (bit_xor y z) second) =
    c.add_times-2.ensures.value at low ∙ two_of_three x y z first second third (slice_index c.args.p.now at) (slice_index c.args.q.now at) plain q in
    let weighted : slice_index c.add_times.new.out at ≡ bit_xor (product x (product (bit_xor x z) first)) (product y (product (bit_xor y z) second)) =
    c.add_times.ensures.value at low
    ∙ two_of_three_later x y z first second third (slice_index c.args.q.now at) (slice_index c.args.r.now at) (omega arith) (omega arith) (omega arith) q r in
    let apart = c.split.ensures.found at (product (bit_xor x z) first) (product (bit_xor y z) second) low (product_below (bit_xor x z) first x_z) sum weighted in
    let first_is : slice_index c.scale.new.out at ≡ first =
    c.scale.ensures.value at low ∙ ap (λ (k : ℕ). product k (slice_index c.split.new.weighted at)) c.inverse.ensures.value ∙ ap (product _) apart.0
    ∙ taken_off (bit_xor x z) first x_z byte (sum_some x z c.requires.x_z) in
    let second_is : slice_index c.scale-2.new.out at ≡ second =
    c.scale-2.ensures.value at low ∙ ap (λ (k : ℕ). product k (slice_index c.split.new.sum at)) c.inverse-2.ensures.value ∙ ap (product _) apart.1
    ∙ taken_off (bit_xor y z) second (xor_of_8 y z (omega arith) (omega arith)) other (sum_some y z c.requires.y_z) in
    let third_is : slice_index c.add-2.new.out at ≡ third =
    c.add-2.ensures at low
    ∙ ap (λ (k : ℕ). bit_xor k (slice_index c.scale-2.new.out at))
    (c.add.ensures at low ∙ ap (λ (k : ℕ). bit_xor k (slice_index c.scale.new.out at)) plain ∙ ap (bit_xor (bit_xor (bit_xor first second) third)) first_is)
    ∙ ap (bit_xor (bit_xor (bit_xor (bit_xor first second) third) first)) second_is ∙ last_of_three first second third in
    (first_is, second_is, third_is)

pub returns-clause-bytes : goal.returns-clause-bytes
returns-clause-bytes c = λ at low.
    let first : slice_index c.scale.new.out at < 256 = rw (c.scale.ensures.value at low) (product_below c.inverse.result (slice_index c.split.new.weighted at) (omega arith)) in
    let second : slice_index c.scale-2.new.out at < 256 = rw (c.scale-2.ensures.value at low) (product_below c.inverse-2.result (slice_index c.split.new.sum at) (omega arith)) in
    let sum : slice_index c.add.new.out at < 256 =
    rw (c.add.ensures at low) (xor_of_8 (slice_index c.args.p.now at) (slice_index c.scale.new.out at) (c.add_times-2.ensures.bytes at low) first) in
    (first, second, rw (c.add-2.ensures at low) (xor_of_8 (slice_index c.add.new.out at) (slice_index c.scale-2.new.out at) sum second))

pub returns-clause-gives_p : goal.returns-clause-gives_p
returns-clause-gives_p c = λ at low.
    let bytes = returns-clause-bytes c at low in
    let first = slice_index c.scale.new.out at in
    let second = slice_index c.scale-2.new.out at in
    let third = slice_index c.add-2.new.out at in
    ap (λ (k : ℕ). bit_xor (bit_xor k (product 1 second)) (product 1 third)) (one_product first bytes.0)
    ∙ ap (λ (k : ℕ). bit_xor (bit_xor first k) (product 1 third)) (one_product second bytes.1)
    ∙ ap (bit_xor (bit_xor first second)) (one_product third bytes.2)
    ∙ three_sum first second third (slice_index c.args.p.now at) (c.add-2.ensures at low ∙ ap (λ (k : ℕ). bit_xor k second) (c.add.ensures at low))

pub returns-clause-gives_q : goal.returns-clause-gives_q
returns-clause-gives_q c = λ at low.
    three_returns_q c.args.x c.args.y c.args.z (slice_index c.args.p.now at) (slice_index c.args.q.now at) (slice_index c.args.r.now at)
    (slice_index c.split.new.weighted at) (slice_index c.split.new.sum at)
    (slice_index c.scale.new.out at) (slice_index c.scale-2.new.out at) (slice_index c.add-2.new.out at) (omega arith) (omega arith) (omega arith)
    (three_sum (slice_index c.scale.new.out at) (slice_index c.scale-2.new.out at) (slice_index c.add-2.new.out at) (slice_index c.args.p.now at)
    (c.add-2.ensures at low ∙ ap (λ (k : ℕ). bit_xor k (slice_index c.scale-2.new.out at)) (c.add.ensures at low)))
    (scaled_again (bit_xor c.args.x c.args.z) c.inverse.result _ _ (xor_of_8 c.args.x c.args.z (omega arith) (omega arith)) (c.scale.ensures.bytes at low)
    (sum_some c.args.x c.args.z c.requires.x_z) c.inverse.ensures.value (c.scale.ensures.value at low))
    (scaled_again (bit_xor c.args.y c.args.z) c.inverse-2.result _ _ (xor_of_8 c.args.y c.args.z (omega arith) (omega arith)) (c.scale-2.ensures.bytes at low)
    (sum_some c.args.y c.args.z c.requires.y_z) c.inverse-2.ensures.value (c.scale-2.ensures.value at low))
    ((c.split.ensures.gives at low).0 ∙ c.add_times-2.ensures.value at low)
    ((c.split.ensures.gives at low).1 ∙ c.add_times.ensures.value at low)

pub returns-clause-gives_r : goal.returns-clause-gives_r
returns-clause-gives_r c = λ at low.
    three_returns_r c.args.x c.args.y c.args.z (slice_index c.args.p.now at) (slice_index c.args.q.now at) (slice_index c.args.r.now at)
    (slice_index c.split.new.weighted at) (slice_index c.split.new.sum at)
    (slice_index c.scale.new.out at) (slice_index c.scale-2.new.out at) (slice_index c.add-2.new.out at) (omega arith) (omega arith) (omega arith)
    (three_sum (slice_index c.scale.new.out at) (slice_index c.scale-2.new.out at) (slice_index c.add-2.new.out at) (slice_index c.args.p.now at)
    (c.add-2.ensures at low ∙ ap (λ (k : ℕ). bit_xor k (slice_index c.scale-2.new.out at)) (c.add.ensures at low)))
    (scaled_again (bit_xor c.args.x c.args.z) c.inverse.result _ _ (xor_of_8 c.args.x c.args.z (omega arith) (omega arith)) (c.scale.ensures.bytes at low)
    (sum_some c.args.x c.args.z c.requires.x_z) c.inverse.ensures.value (c.scale.ensures.value at low))
    (scaled_again (bit_xor c.args.y c.args.z) c.inverse-2.result _ _ (xor_of_8 c.args.y c.args.z (omega arith) (omega arith)) (c.scale-2.ensures.bytes at low)
    (sum_some c.args.y c.args.z c.requires.y_z) c.inverse-2.ensures.value (c.scale-2.ensures.value at low))
    ((c.split.ensures.gives at low).0 ∙ c.add_times-2.ensures.value at low)
    ((c.split.ensures.gives at low).1 ∙ c.add_times.ensures.value at low)
