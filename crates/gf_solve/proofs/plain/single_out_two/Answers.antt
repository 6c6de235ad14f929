use Rattle.std.proofs.Common.{◌≡◌, ◌∙◌, ℕ, ◌-◌, sym, ap, arith}
use Rattle.std.specs.Prelude.{slice_index, bit_xor}
use Rattle.gf_parity.specs.Field.{product}
use Rattle.gf_parity.proofs.Laws.{product_below}
use Rattle.gf_solve.specs.Weight.{weight, share}
use Rattle.gf_solve.proofs.Singled.{weight_below, weights_differ, share_steps}
use Rattle.gf_solve.proofs.plain.single_out_two.Goals as goal

pub split-requires : goal.split-requires
split-requires c = λ same.
    weights_differ (c.args.later_which - c.args.sooner_which) c.args.x c.args.y (omega arith) (omega arith) (omega arith) c.requires.differ
    (sym c.weight.ensures ∙ same ∙ c.weight-2.ensures)

pub returns-clause-found : goal.returns-clause-found
returns-clause-found c = λ at first second low byte other sooner later.
    let between = c.args.later_which - c.args.sooner_which in
    let first_share = share c.args.sooner_which c.args.x first in
    let second_share = share c.args.sooner_which c.args.y second in
    let told : slice_index c.args.later.now at ≡ bit_xor (product c.weight.result first_share) (product c.weight-2.result second_share) =
    later
    ∙ ap (λ (k : ℕ). bit_xor k (share c.args.later_which c.args.y second))
    (share_steps c.args.sooner_which c.args.later_which c.args.x first c.requires.order c.requires.which (omega arith) ∙ ap (λ (k : ℕ). product k first_share) (sym c.weight.ensures))
    ∙ ap (bit_xor (product c.weight.result first_share))
    (share_steps c.args.sooner_which c.args.later_which c.args.y second c.requires.order c.requires.which (omega arith) ∙ ap (λ (k : ℕ). product k second_share) (sym c.weight-2.ensures)) in
    let apart = c.split.ensures.found at first_share second_share low (product_below (weight c.args.sooner_which c.args.x) first (weight_below c.args.sooner_which c.args.x (omega arith))) sooner told in
    (c.single_out_one.ensures.found at first low byte apart.0, c.single_out_one-2.ensures.found at second low other apart.1)

pub returns-clause-bytes : goal.returns-clause-bytes
returns-clause-bytes c = λ at low. (c.single_out_one.ensures.bytes at low, c.single_out_one-2.ensures.bytes at low)

pub returns-clause-gives_sooner : goal.returns-clause-gives_sooner
returns-clause-gives_sooner c = λ at low.
    ap (λ (k : ℕ). bit_xor k (share c.args.sooner_which c.args.y (slice_index c.single_out_one-2.new.lack at))) (c.single_out_one.ensures.gives at low)
    ∙ ap (bit_xor (slice_index c.split.new.weighted at)) (c.single_out_one-2.ensures.gives at low) ∙ (c.split.ensures.gives at low).0

pub returns-clause-gives_later : goal.returns-clause-gives_later
returns-clause-gives_later c = λ at low.
    let between = c.args.later_which - c.args.sooner_which in
    let first : share c.args.later_which c.args.x (slice_index c.single_out_one.new.lack at) ≡ product c.weight.result (slice_index c.split.new.weighted at) =
    share_steps c.args.sooner_which c.args.later_which c.args.x (slice_index c.single_out_one.new.lack at) c.requires.order c.requires.which (omega arith)
    ∙ ap (product (weight between c.args.x)) (c.single_out_one.ensures.gives at low) ∙ ap (λ (k : ℕ). product k (slice_index c.split.new.weighted at)) (sym c.weight.ensures) in
    let second : share c.args.later_which c.args.y (slice_index c.single_out_one-2.new.lack at) ≡ product c.weight-2.result (slice_index c.split.new.sum at) =
    share_steps c.args.sooner_which c.args.later_which c.args.y (slice_index c.single_out_one-2.new.lack at) c.requires.order c.requires.which (omega arith)
    ∙ ap (product (weight between c.args.y)) (c.single_out_one-2.ensures.gives at low) ∙ ap (λ (k : ℕ). product k (slice_index c.split.new.sum at)) (sym c.weight-2.ensures) in
    ap (λ (k : ℕ). bit_xor k (share c.args.later_which c.args.y (slice_index c.single_out_one-2.new.lack at))) first
    ∙ ap (bit_xor (product c.weight.result (slice_index c.split.new.weighted at))) second ∙ (c.split.ensures.gives at low).1
