use Rattle.gf_solve.proofs.Found.{three_gaps}
use Rattle.gf_solve.proofs.looking.gaps.Goals as goal

pub returns : goal.returns
returns c =
    let one = c.in-Some.ensures in
    let two = c.in-Some-next_lost.ensures in
    let three = c.in-Some-next_lost-2.ensures in
    three_gaps _ c.args.to c.in-Some.first c.in-Some-next_lost.second c.in-Some-next_lost-2.third c.requires.few one.below two.from two.below three.from three.below
    one.lost_there two.lost_there three.lost_there one.lowest two.lowest three.lowest
