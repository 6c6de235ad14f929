use Rattle.std.proofs.Common.{arith}
use Rattle.gf_solve.proofs.Units.{columns_differ}
use Rattle.gf_solve.proofs.Filled.{filled_two}
use Rattle.gf_solve.proofs.Fitting.{fits_two}
use Rattle.gf_solve.proofs.filling.fill_two.Goals as goal

pub single_out_two-requires-clause-differ : goal.single_out_two-requires-clause-differ
single_out_two-requires-clause-differ c =
    columns_differ _ c.args.first c.args.second c.point_among-x.result c.point_among-y.result (omega arith) c.requires.ascend (omega arith)
    c.point_among-x.ensures.value c.point_among-y.ensures.value

pub returns-clause-filled : goal.returns-clause-filled
returns-clause-filled c = λ was sectors agree sooner later.
    filled_two was c.args.content.now c.zeros-blank.result sectors c.zeros-blank.ensures c.args.first c.args.second c.args.sooner c.args.later
    c.point_among-x.result c.point_among-y.result _ _ c.lack-low.result c.lack-high.result c.single_out_two.new.later c.single_out_two.new.sooner
    (omega arith) (omega arith) c.requires.ascend c.requires.second agree sooner later (record { byte = c.lack-low.ensures }) (record { byte = c.lack-high.ensures })
    c.point_among-x.ensures.value c.point_among-y.ensures.value c.single_out_two.array_long2 c.single_out_two.array_long c.single_out_two.ensures.found

pub returns-clause-fits_sooner : goal.returns-clause-fits_sooner
returns-clause-fits_sooner c =
    fits_two c.args.content.now c.zeros-blank.result c.zeros-blank.ensures c.args.sooner c.args.first c.args.second
    c.point_among-x.result c.point_among-y.result _ c.lack-low.result c.single_out_two.new.later c.single_out_two.new.sooner
    (omega arith) c.requires.ascend c.requires.second (c.told-parities c.args.sooner (omega arith)) (record { byte = c.lack-low.ensures })
    c.point_among-x.ensures.value c.point_among-y.ensures.value c.single_out_two.ensures.bytes c.single_out_two.ensures.gives_sooner

pub returns-clause-fits_later : goal.returns-clause-fits_later
returns-clause-fits_later c =
    fits_two c.args.content.now c.zeros-blank.result c.zeros-blank.ensures c.args.later c.args.first c.args.second
    c.point_among-x.result c.point_among-y.result _ c.lack-high.result c.single_out_two.new.later c.single_out_two.new.sooner
    (omega arith) c.requires.ascend c.requires.second (c.told-parities c.args.later c.requires.later) (record { byte = c.lack-high.ensures })
    c.point_among-x.ensures.value c.point_among-y.ensures.value c.single_out_two.ensures.bytes c.single_out_two.ensures.gives_later
