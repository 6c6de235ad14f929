use Rattle.std.proofs.Common.{arith}
use Rattle.gf_solve.proofs.Units.{columns_differ}
use Rattle.gf_solve.proofs.Filled.{filled_three}
use Rattle.gf_solve.proofs.Fitting.{fits_three, below_three}
use Rattle.gf_solve.proofs.filling.fill_three.Goals as goal

pub single_out_three-requires-clause-x_y : goal.single_out_three-requires-clause-x_y
single_out_three-requires-clause-x_y c =
    columns_differ _ c.args.first c.args.second c.point_among-x.result c.point_among-y.result (omega arith) c.requires.ascend (omega arith)
    c.point_among-x.ensures.value c.point_among-y.ensures.value

pub single_out_three-requires-clause-x_z : goal.single_out_three-requires-clause-x_z
single_out_three-requires-clause-x_z c =
    columns_differ _ c.args.first c.args.third c.point_among-x.result c.point_among-z.result (omega arith) (omega arith) (omega arith)
    c.point_among-x.ensures.value c.point_among-z.ensures.value

pub single_out_three-requires-clause-y_z : goal.single_out_three-requires-clause-y_z
single_out_three-requires-clause-y_z c =
    columns_differ _ c.args.second c.args.third c.point_among-y.result c.point_among-z.result (omega arith) c.requires.ascend_more (omega arith)
    c.point_among-y.ensures.value c.point_among-z.ensures.value

pub returns-clause-filled : goal.returns-clause-filled
returns-clause-filled c = λ was sectors agree parities.
    filled_three was c.args.content.now c.zeros-blank.result sectors c.zeros-blank.ensures c.args.first c.args.second c.args.third
    c.point_among-x.result c.point_among-y.result c.point_among-z.result _ _ _ c.lack-p.result c.lack-q.result c.lack-r.result
    c.single_out_three.new.r c.single_out_three.new.q c.single_out_three.new.p
    c.requires.ascend c.requires.ascend_more c.requires.third agree (parities 0 (omega arith)) (parities 1 (omega arith)) (parities 2 (omega arith))
    (record { byte = c.lack-p.ensures }) (record { byte = c.lack-q.ensures }) (record { byte = c.lack-r.ensures })
    c.point_among-x.ensures.value c.point_among-y.ensures.value c.point_among-z.ensures.value
    c.single_out_three.array_long3 c.single_out_three.array_long2 c.single_out_three.array_long c.single_out_three.ensures.found

pub returns-clause-fits : goal.returns-clause-fits
returns-clause-fits c =
    below_three _ c.args.parities.now
    (fits_three c.args.content.now c.zeros-blank.result c.zeros-blank.ensures 0 c.args.first c.args.second c.args.third
    c.point_among-x.result c.point_among-y.result c.point_among-z.result _ c.lack-p.result c.single_out_three.new.r c.single_out_three.new.q c.single_out_three.new.p
    (omega arith) c.requires.ascend c.requires.ascend_more c.requires.third (c.told-parities 0 (omega arith)) (record { byte = c.lack-p.ensures })
    c.point_among-x.ensures.value c.point_among-y.ensures.value c.point_among-z.ensures.value c.single_out_three.ensures.bytes c.single_out_three.ensures.gives_p)
    (fits_three c.args.content.now c.zeros-blank.result c.zeros-blank.ensures 1 c.args.first c.args.second c.args.third
    c.point_among-x.result c.point_among-y.result c.point_among-z.result _ c.lack-q.result c.single_out_three.new.r c.single_out_three.new.q c.single_out_three.new.p
    (omega arith) c.requires.ascend c.requires.ascend_more c.requires.third (c.told-parities 1 (omega arith)) (record { byte = c.lack-q.ensures })
    c.point_among-x.ensures.value c.point_among-y.ensures.value c.point_among-z.ensures.value c.single_out_three.ensures.bytes c.single_out_three.ensures.gives_q)
    (fits_three c.args.content.now c.zeros-blank.result c.zeros-blank.ensures 2 c.args.first c.args.second c.args.third
    c.point_among-x.result c.point_among-y.result c.point_among-z.result _ c.lack-r.result c.single_out_three.new.r c.single_out_three.new.q c.single_out_three.new.p
    (omega arith) c.requires.ascend c.requires.ascend_more c.requires.third (c.told-parities 2 (omega arith)) (record { byte = c.lack-r.ensures })
    c.point_among-x.ensures.value c.point_among-y.ensures.value c.point_among-z.ensures.value c.single_out_three.ensures.bytes c.single_out_three.ensures.gives_r)
