use Rattle.std.proofs.Common.{◌≡◌, ◌≤◌, length, ap, refl, arith}
use Rattle.gf_solve.specs.Row.{is_masked, count_lost}
use Rattle.row_layout.specs.Layout.{columns_of}
use Rattle.row_layout.proofs.Parts.{columns_few}
use Rattle.reconstruct.proofs.Masks.{counted_low}
use Rattle.reconstruct.proofs.RowSolved.{solved_row_by}
use Rattle.reconstruct.proofs.decoding.solve_row.Goals as goal

pub overflow_sub-lost : goal.overflow_sub-lost
overflow_sub-lost c =
    omega (arith, c.columns_in-present.ensures.few, columns_few c.args.layout.now c.parity-parity.ensures.within.is, c.parity-parity.ensures.within.width)

pub solve-requires-clause-few : goal.solve-requires-clause-few
solve-requires-clause-few c =
    let narrow : c.columns_in-present.result ≤ 64 =
    omega (arith, c.columns_in-present.ensures.few, columns_few c.args.layout.now c.parity-parity.ensures.within.is, c.parity-parity.ensures.within.width) in
    omega (
      arith,
      c.requires.few,
      c.parity-parity.ensures.value,
      ap (count_lost (is_masked c.args.mask) 0) c.columns_in-present.ensures.value,
      counted_low c.args.mask c.columns_in-present.result (length c.clear_behind.new.columns) narrow (omega arith),
    )

pub returns : goal.returns
returns c =
    let narrow : c.columns_in-present.result ≤ 64 =
    omega (arith, c.columns_in-present.ensures.few, columns_few c.args.layout.now c.parity-parity.ensures.within.is, c.parity-parity.ensures.within.width) in
    let cleared = c.clear_behind.new.columns in
    let wide : length c.clear_behind.new.columns ≡ columns_of c.args.layout.now = omega arith in
    solved_row_by c.args.layout.now c.args.row c.args.mask _ c.columns_in-present.result c.parity-parity.ensures.within.is c.requires.row c.columns_in-present.ensures.value
    c.columns_in-present.ensures.few c.columns_in-present.ensures.parity narrow refl
    c.args.columns.now cleared c.solve.new.columns wide
    c.clear_behind.ensures.there (λ column behind inside. c.clear_behind.ensures.missing column behind (omega (arith, inside)))
    c.parity-parity.result c.parity-parity.ensures.value c.solve.ensures.served c.solve.ensures.fits c.solve.ensures.same
