use Rattle.std.proofs.Common.{arith, ◌∙◌, ap, ◌≡◌, List}
use Rattle.width_map.specs.declared.birth.Birth.{Birth}
use Rattle.width_map.specs.Births.{width_of_birth}
use Rattle.core_open.proofs.BlockSpans.{block_width}
use Rattle.core_open.proofs.fitting.span_of.Goals as goal

pub of-layout-requires-clause-width : goal.of-layout-requires-clause-width
of-layout-requires-clause-width c =
    let uber = c.args.uber.now in
    let birth = c.args.entry.now.birth in
    let width : c.width_at-width.result ≡ width_of_birth uber.births birth =
    c.width_at-width.ensures.value
    ∙ ap (λ (births : List Birth). width_of_birth births birth) c.births.ensures.value in
    omega (arith, width, c.parity.ensures.value, (block_width uber birth c.requires.right).0)

pub of-layout-requires-clause-narrow : goal.of-layout-requires-clause-narrow
of-layout-requires-clause-narrow c =
    let uber = c.args.uber.now in
    let birth = c.args.entry.now.birth in
    let width : c.width_at-width.result ≡ width_of_birth uber.births birth =
    c.width_at-width.ensures.value
    ∙ ap (λ (births : List Birth). width_of_birth births birth) c.births.ensures.value in
    omega (arith, width, (block_width uber birth c.requires.right).1)
