use Rattle.std.proofs.Common.{arith}
use Rattle.gf_solve.proofs.Filled.{filled_one}
use Rattle.gf_solve.proofs.Fitting.{fits_one}
use Rattle.gf_solve.proofs.filling.fill_one.Goals as goal

pub returns-clause-filled : goal.returns-clause-filled
returns-clause-filled c = λ was sectors agree parity.
    filled_one was c.args.content.now c.zeros.result sectors c.zeros.ensures c.args.which c.args.first c.point_among.result _ c.lack-column.result c.single_out_one.new.lack
    (omega arith) c.requires.first agree parity (record { byte = c.lack-column.ensures }) c.point_among.ensures.value c.single_out_one.array_long c.single_out_one.ensures.found

pub returns-clause-fits : goal.returns-clause-fits
returns-clause-fits c =
    fits_one c.args.content.now c.zeros.result c.zeros.ensures c.args.which c.args.first c.point_among.result _ c.lack-column.result c.single_out_one.new.lack
    (omega arith) c.requires.first (c.told-parities c.args.which c.requires.which) (record { byte = c.lack-column.ensures }) c.point_among.ensures.value
    c.single_out_one.ensures.bytes c.single_out_one.ensures.gives
