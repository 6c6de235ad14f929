use Rattle.std.proofs.Common.{◌≡◌, ◌<◌, sym, get_or, arith, rules}
use Rattle.gf_solve.proofs.Units.{times_one}
use Rattle.gf_solve.proofs.columns.scale.Goals as goal

pub returns-else-factor-ne1-clause-value : goal.returns-else-factor-ne1-clause-value
returns-else-factor-ne1-clause-value c = λ at low.
    let byte : get_or c.args.out.now at 0 < 256 = search rules in
    let one : c.args.factor ≡ 1 = omega (arith, c.if-factor-ne1.false) in
    sym (times_one c.args.factor (get_or c.args.out.now at 0) one byte)
