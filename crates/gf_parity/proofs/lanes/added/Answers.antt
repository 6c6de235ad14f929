use Rattle.std.specs.Prelude.{bit_xor}
use Rattle.gf_parity.proofs.Lanewise.{of_two}
use Rattle.gf_parity.proofs.lanes.added.Goals as goal

pub returns-clause-long : goal.returns-clause-long
returns-clause-long g c = (of_two g.row.N bit_xor c.args.left c.args.right c.fits-left.0 c.fits-right.0).long

pub returns-clause-lanes : goal.returns-clause-lanes
returns-clause-lanes g c = (of_two g.row.N bit_xor c.args.left c.args.right c.fits-left.0 c.fits-right.0).each
