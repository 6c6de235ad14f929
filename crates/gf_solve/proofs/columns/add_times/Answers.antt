use Rattle.std.proofs.Common.{◌<◌, ◌∙◌, ap, sym, get_or, rules}
use Rattle.std.specs.Prelude.{bit_xor}
use Rattle.gf_solve.proofs.Units.{times_one}
use Rattle.gf_solve.proofs.columns.add_times.Goals as goal

pub returns-then-factor-eq1-clause-value : goal.returns-then-factor-eq1-clause-value
returns-then-factor-eq1-clause-value c = λ at low.
    let byte : get_or c.args.column.now at 0 < 256 = search rules in
    c.add.ensures at low ∙ ap (bit_xor (get_or c.args.out.now at 0)) (sym (times_one c.args.factor (get_or c.args.column.now at 0) c.if-factor-eq1.true byte))
