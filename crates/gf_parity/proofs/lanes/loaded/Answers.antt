use Rattle.std.proofs.Common.{◌≡◌, ℕ, ◌+◌, ◌-◌, ◌<◌, ◌∙◌, ap, sym, get_or, arith, rules}
use Rattle.std.proofs.lemmas.Simd.{length-chunk, get_or-chunk}
use Rattle.std.specs.Simd.Lanes.{chunk}
use Rattle.gf_parity.proofs.Laws.{one_product}
use Rattle.gf_parity.proofs.lanes.loaded.Goals as goal

pub returns-clause-long : goal.returns-clause-long
returns-clause-long g c =
    length-chunk 0 g.row.N (chunk c.args.at (512 - c.args.at) c.args.column.now)
    (omega (arith, c.requires, length-chunk c.args.at (512 - c.args.at) c.args.column.now (omega (arith, c.requires))))

pub returns-clause-lanes : goal.returns-clause-lanes
returns-clause-lanes g c = λ lane low.
    let here : 0 + lane ≡ lane = omega arith in
    get_or-chunk 0 g.row.N (chunk c.args.at (512 - c.args.at) c.args.column.now) lane 0 low
    ∙ ap (λ (k : ℕ). get_or (chunk c.args.at (512 - c.args.at) c.args.column.now) k 0) here
    ∙ get_or-chunk c.args.at (512 - c.args.at) c.args.column.now lane 0 (omega (arith, low, c.requires))

pub returns-clause-once : goal.returns-clause-once
returns-clause-once g c = λ lane low.
    let byte : get_or c.args.column.now (c.args.at + lane) 0 < 256 = search rules in
    returns-clause-lanes g c lane low ∙ sym (one_product (get_or c.args.column.now (c.args.at + lane) 0) byte)
