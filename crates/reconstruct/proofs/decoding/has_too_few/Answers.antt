use Rattle.std.proofs.Common.{arith}
use Rattle.row_layout.proofs.Parts.{columns_few}
use Rattle.reconstruct.proofs.decoding.has_too_few.Goals as goal

pub lost_among-requires : goal.lost_among-requires
lost_among-requires c =
    omega (arith, c.columns_in.ensures.few, columns_few c.args.layout.now c.parity-parity.ensures.within.is, c.parity-parity.ensures.within.width)
