use Rattle.std.proofs.Common.{◌*◌, ◌%◌, ◌^◌, ◌∙◌, get_or, arith, Fits, w8}
use Rattle.std.specs.Prelude.{bit_xor}
use Rattle.std.proofs.lemmas.Simd.{shifts_fit_splat, Each1-get_or}
use Rattle.gf_parity.proofs.Lanewise.{of_two, of_splat, of_select, shifted_is_twice}
use Rattle.gf_parity.proofs.lanes.doubled.Goals as goal

pub overflow_shl-result : goal.overflow_shl-result
overflow_shl-result g c = shifts_fit_splat 8 c.args.bytes g.row.N 1 (omega arith)

pub returns-clause-long : goal.returns-clause-long
returns-clause-long g c =
    let shifted = of_splat g.row.N (λ a b. a * 2 ^ b % 256) c.args.bytes 1 c.fits-bytes.0 in
    let lost = of_select g.row.N c.args.bytes c.fits-bytes.0 in
    (of_two g.row.N bit_xor _ _ shifted.long lost.long).long

pub returns-clause-lanes : goal.returns-clause-lanes
returns-clause-lanes g c = λ lane low.
    let shifted = of_splat g.row.N (λ a b. a * 2 ^ b % 256) c.args.bytes 1 c.fits-bytes.0 in
    let lost = of_select g.row.N c.args.bytes c.fits-bytes.0 in
    (of_two g.row.N bit_xor _ _ shifted.long lost.long).each lane low
    ∙ (λ i. bit_xor (shifted.each lane low i) (lost.each lane low i))
    ∙ shifted_is_twice (get_or c.args.bytes lane 0) (Each1-get_or (Fits w8) c.args.bytes lane 0 (omega (arith, low, c.fits-bytes.0)) c.fits-bytes.1).fits
