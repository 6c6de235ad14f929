use Rattle.std.proofs.Common.{◌≡◌, ◌+◌, ◌<◌, ◌∙◌, length, drop, ap, arith}
use Rattle.gf_solve.specs.Row.{is_masked, count_lost}
use Rattle.gf_solve.proofs.Solved.{counted_apart, sectors_behind, left_behind, parities_left, row_again, row_stays}
use Rattle.gf_solve.proofs.Solved.{served_behind, served_front, behind_parities, found_fits, found_made}
use Rattle.gf_solve.proofs.solving.solve.Goals as goal

pub fill_content-requires-clause-few : goal.fill_content-requires-clause-few
fill_content-requires-clause-few c =
    let front : length c.split_at_mut-parities.result.0.now ≡ c.args.parity = omega arith in
    let whole : length c.args.columns.now ≡ c.args.parity + length c.split_at_mut-parities.result.1.now = omega arith in
    omega (
      arith,
      c.requires.few,
      front,
      ap (count_lost (is_masked c.args.lost) 0) whole,
      ap (count_lost (is_masked c.args.lost) 0) front,
      counted_apart c.args.lost c.args.parity (length c.split_at_mut-parities.result.1.now),
    )

pub returns-clause-solved : goal.returns-clause-solved
returns-clause-solved c = λ was row left.
    let front = c.split_at_mut-parities.result.0.now in
    let behind = c.split_at_mut-parities.result.1.now in
    let long : length c.split_at_mut-parities.result.0.now ≡ c.args.parity = omega arith in
    let room : c.args.parity < length was = omega (arith, left.long) in
    row_again c.args.parity c.args.lost was front behind c.args.columns.now c.fill_parities.new.parities c.fill_content.new.content c.split_at_mut-parities.ensures.value
    long (omega arith) room row left
    (c.fill_content.ensures.filled (drop c.args.parity was) (sectors_behind c.args.parity was row.sectors)
    (left_behind c.args.parity c.args.lost was front behind c.args.columns.now c.split_at_mut-parities.ensures.value long left)
    (parities_left c.args.parity c.args.lost _ was front behind c.args.columns.now c.split_at_mut-parities.ensures.value long room row left))
    c.fill_parities.ensures.filled c.fill_parities.ensures.same

pub returns-clause-served : goal.returns-clause-served
returns-clause-served c = λ was sectors served.
    let front = c.split_at_mut-parities.result.0.now in
    let behind = c.split_at_mut-parities.result.1.now in
    behind_parities c.args.parity c.fill_parities.new.parities c.fill_content.new.content (omega arith)
    ∙ c.fill_content.ensures.filled was sectors
    (served_behind c.args.parity c.args.lost was front behind c.args.columns.now c.split_at_mut-parities.ensures.value (omega arith) served)
    (served_front c.args.parity c.args.lost was front behind c.args.columns.now c.split_at_mut-parities.ensures.value (omega arith) served)

pub returns-clause-fits : goal.returns-clause-fits
returns-clause-fits c =
    found_fits c.args.parity c.args.lost c.split_at_mut-parities.result.0.now c.split_at_mut-parities.result.1.now c.args.columns.now c.fill_parities.new.parities
    c.fill_content.new.content c.split_at_mut-parities.ensures.value (omega arith) (omega arith) c.fill_content.ensures.fits

pub returns-clause-made : goal.returns-clause-made
returns-clause-made c =
    found_made c.args.parity c.args.lost c.fill_parities.new.parities c.fill_content.new.content (omega arith)
    (λ which low is. c.fill_parities.ensures.filled which (omega (arith, low)) is)

pub returns-clause-same : goal.returns-clause-same
returns-clause-same c =
    row_stays c.args.parity c.args.lost c.split_at_mut-parities.result.0.now c.split_at_mut-parities.result.1.now c.args.columns.now c.fill_parities.new.parities
    c.fill_content.new.content c.split_at_mut-parities.ensures.value (omega arith) (omega arith) c.fill_parities.ensures.same c.fill_content.ensures.same
