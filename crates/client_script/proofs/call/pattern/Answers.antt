use Rattle.std.proofs.Common.{◌≡◌, ◌+◌, ◌*◌, ◌%◌, ◌<◌, ℕ, List, ◌++◌, take, ◌∙◌, ap, arith}
use Rattle.std.specs.Prelude.{min}
use Rattle.client_script.specs.Lines.{pattern_from}
use Rattle.client_script.proofs.Patterns.{pattern_run}
use Rattle.client_script.proofs.call.pattern.Goals as goal

pub loop-run-preserved : goal.loop-run-preserved
loop-run-preserved c =
    let len = c.args.len in
    let run = c.loop-run.run in
    let seed = c.args.seed in
    let count = c.min-count.result in
    let row = c.pattern_row-row.result in
    let inside : 256 * run < len = omega (arith, c.loop-run-test.true, c.div_ceil-run-end.ensures) in
    let so_far : min (256 * run) len ≡ 256 * run = omega (arith, inside) in
    let then_so_far : 256 * run + count ≡ min (256 * (run + 1)) len = omega (arith, inside, c.min-count.ensures) in
    c.in_ok-extend_from_slice.ensures.items
    ∙ ap (λ (l : List ℕ). l ++ take count row) (c.loop-run.invariant ∙ ap (pattern_from seed 0) so_far)
    ∙ pattern_run seed run row c.pattern_row-row.ensures.len
    (λ place low. c.pattern_row-row.ensures.each place low ∙ ap (λ (first : ℕ). (first + 7 * place) % 256) c.first_of_run.ensures)
    count (omega (arith, c.min-count.ensures))
    ∙ ap (pattern_from seed 0) then_so_far
