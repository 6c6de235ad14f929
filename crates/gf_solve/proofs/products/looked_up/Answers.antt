use Rattle.std.proofs.Common.{◌≡◌, ℕ, ◌+◌, ◌*◌, ◌/◌, ◌<◌, ◌∙◌, ap, refl, get_or, arith, w8}
use Rattle.std.proofs.lemmas.Simd.{SwzOk-from_below, Each1-from_get_or, length-swz_l, get_or-swz_l_below}
use Rattle.gf_solve.proofs.products.looked_up.Goals as goal

pub swizzle : goal.swizzle
swizzle c =
    SwzOk-from_below w8 16 1 16 0 c.args.halves refl (omega (arith, c.fits-halves.0))
    (Each1-from_get_or (λ j. j < 16) c.args.halves 0 (λ lane low. c.requires lane (omega (arith, low, c.fits-halves.0))))

pub returns-clause-long : goal.returns-clause-long
returns-clause-long c = length-swz_l w8 16 c.args.table 0 c.args.halves ∙ c.fits-halves.0

pub returns-clause-lanes : goal.returns-clause-lanes
returns-clause-lanes c = λ lane low.
    let first : 16 * ((0 + lane) / 16) + get_or c.args.halves lane 0 ≡ get_or c.args.halves lane 0 = omega (arith, low) in
    get_or-swz_l_below w8 16 c.args.table 0 c.args.halves lane (omega (arith, low, c.fits-halves.0)) (c.requires lane low)
    ∙ ap (λ (k : ℕ). get_or c.args.table k 0) first
