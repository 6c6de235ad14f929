use Rattle.std.proofs.Common.{◌≡◌, ◌≢◌, ◌∙◌, ℕ, ◌-◌, sym, ap, arith}
use Rattle.std.specs.Prelude.{slice_index, bit_xor}
use Rattle.gf_parity.specs.Field.{product}
use Rattle.gf_parity.proofs.Laws.{product_below}
use Rattle.gf_solve.specs.Weight.{weight, share}
use Rattle.gf_solve.proofs.Singled.{weight_below, weight_some, weights_differ, share_steps}
use Rattle.gf_solve.proofs.Units.{taken_off, sum_some}
use Rattle.gf_solve.proofs.Returned.{scaled_again}
use Rattle.gf_solve.proofs.singling.single_out_two.Goals as goal

pub divisors-apart-requires-clause-apart : goal.divisors-apart-requires-clause-apart
divisors-apart-requires-clause-apart c =
    sum_some c.weight-first.result c.weight-second.result
    (λ same. weights_differ (c.args.later_which - c.args.sooner_which) c.args.x c.args.y (omega arith) (omega arith) (omega arith) c.requires.differ
    (sym c.weight-first.ensures ∙ same ∙ c.weight-second.ensures))

pub returns-clause-found : goal.returns-clause-found
returns-clause-found c = λ at first second low byte other sooner later.
    let first_share = share c.args.sooner_which c.args.x first in
    let second_share = share c.args.sooner_which c.args.y second in
    let differ : c.weight-first.result ≢ c.weight-second.result = λ same.
    weights_differ (c.args.later_which - c.args.sooner_which) c.args.x c.args.y (omega arith) (omega arith) (omega arith) c.requires.differ
    (sym c.weight-first.ensures ∙ same ∙ c.weight-second.ensures) in
    let told : slice_index c.args.later.now at ≡ bit_xor (product c.weight-first.result first_share) (product c.weight-second.result second_share) =
    later
    ∙ ap (λ (k : ℕ). bit_xor k (share c.args.later_which c.args.y second))
    (share_steps c.args.sooner_which c.args.later_which c.args.x first c.requires.order c.requires.which (omega arith) ∙ ap (λ (k : ℕ). product k first_share) (sym c.weight-first.ensures))
    ∙ ap (bit_xor (product c.weight-first.result first_share))
    (share_steps c.args.sooner_which c.args.later_which c.args.y second c.requires.order c.requires.which (omega arith) ∙ ap (λ (k : ℕ). product k second_share) (sym c.weight-second.ensures)) in
    let apart =
    c.split.ensures.found c.weight-first.result at first_share second_share (omega arith) differ c.divisors-apart.ensures.apart low
    (product_below (weight c.args.sooner_which c.args.x) first (weight_below c.args.sooner_which c.args.x (omega arith))) sooner told in (
      c.scale.ensures.value at low ∙ ap (λ (k : ℕ). product k (slice_index c.split.new.weighted at)) c.divisors-apart.ensures.x ∙ ap (product _) apart.0
          ∙ taken_off (weight c.args.sooner_which c.args.x) first (weight_below c.args.sooner_which c.args.x (omega arith)) byte
          (weight_some c.args.sooner_which c.args.x (omega arith) c.requires.x),
      c.scale-2.ensures.value at low ∙ ap (λ (k : ℕ). product k (slice_index c.split.new.sum at)) c.divisors-apart.ensures.y ∙ ap (product _) apart.1
          ∙ taken_off (weight c.args.sooner_which c.args.y) second (weight_below c.args.sooner_which c.args.y (omega arith)) other
          (weight_some c.args.sooner_which c.args.y (omega arith) c.requires.y),
    )

pub returns-clause-bytes : goal.returns-clause-bytes
returns-clause-bytes c = λ at low. (
  rw (c.scale.ensures.value at low) (product_below c.divisors-apart.result.1 (slice_index c.split.new.weighted at) (omega arith)),
  rw (c.scale-2.ensures.value at low) (product_below c.divisors-apart.result.2 (slice_index c.split.new.sum at) (omega arith)),
)

pub returns-clause-gives_sooner : goal.returns-clause-gives_sooner
returns-clause-gives_sooner c = λ at low.
    let differ : c.weight-first.result ≢ c.weight-second.result = λ same.
    weights_differ (c.args.later_which - c.args.sooner_which) c.args.x c.args.y (omega arith) (omega arith) (omega arith) c.requires.differ
    (sym c.weight-first.ensures ∙ same ∙ c.weight-second.ensures) in
    let first : share c.args.sooner_which c.args.x (slice_index c.scale.new.out at) ≡ slice_index c.split.new.weighted at =
    scaled_again (weight c.args.sooner_which c.args.x) _ _ _ (weight_below c.args.sooner_which c.args.x (omega arith)) (c.scale.ensures.bytes at low)
    (weight_some c.args.sooner_which c.args.x (omega arith) c.requires.x) c.divisors-apart.ensures.x (c.scale.ensures.value at low) in
    let second : share c.args.sooner_which c.args.y (slice_index c.scale-2.new.out at) ≡ slice_index c.split.new.sum at =
    scaled_again (weight c.args.sooner_which c.args.y) _ _ _ (weight_below c.args.sooner_which c.args.y (omega arith)) (c.scale-2.ensures.bytes at low)
    (weight_some c.args.sooner_which c.args.y (omega arith) c.requires.y) c.divisors-apart.ensures.y (c.scale-2.ensures.value at low) in
    (λ i. bit_xor (first i) (second i)) ∙ (c.split.ensures.gives c.weight-first.result at (omega arith) differ c.divisors-apart.ensures.apart low).0

pub returns-clause-gives_later : goal.returns-clause-gives_later
returns-clause-gives_later c = λ at low.
    let differ : c.weight-first.result ≢ c.weight-second.result = λ same.
    weights_differ (c.args.later_which - c.args.sooner_which) c.args.x c.args.y (omega arith) (omega arith) (omega arith) c.requires.differ
    (sym c.weight-first.ensures ∙ same ∙ c.weight-second.ensures) in
    let first : share c.args.later_which c.args.x (slice_index c.scale.new.out at) ≡ product c.weight-first.result (slice_index c.split.new.weighted at) =
    share_steps c.args.sooner_which c.args.later_which c.args.x (slice_index c.scale.new.out at) c.requires.order c.requires.which (omega arith)
    ∙ ap (product (weight (c.args.later_which - c.args.sooner_which) c.args.x))
    (scaled_again (weight c.args.sooner_which c.args.x) _ _ _ (weight_below c.args.sooner_which c.args.x (omega arith)) (c.scale.ensures.bytes at low)
    (weight_some c.args.sooner_which c.args.x (omega arith) c.requires.x) c.divisors-apart.ensures.x (c.scale.ensures.value at low))
    ∙ ap (λ (k : ℕ). product k (slice_index c.split.new.weighted at)) (sym c.weight-first.ensures) in
    let second : share c.args.later_which c.args.y (slice_index c.scale-2.new.out at) ≡ product c.weight-second.result (slice_index c.split.new.sum at) =
    share_steps c.args.sooner_which c.args.later_which c.args.y (slice_index c.scale-2.new.out at) c.requires.order c.requires.which (omega arith)
    ∙ ap (product (weight (c.args.later_which - c.args.sooner_which) c.args.y))
    (scaled_again (weight c.args.sooner_which c.args.y) _ _ _ (weight_below c.args.sooner_which c.args.y (omega arith)) (c.scale-2.ensures.bytes at low)
    (weight_some c.args.sooner_which c.args.y (omega arith) c.requires.y) c.divisors-apart.ensures.y (c.scale-2.ensures.value at low))
    ∙ ap (λ (k : ℕ). product k (slice_index c.split.new.sum at)) (sym c.weight-second.ensures) in
    (λ i. bit_xor (first i) (second i)) ∙ (c.split.ensures.gives c.weight-first.result at (omega arith) differ c.divisors-apart.ensures.apart low).1
