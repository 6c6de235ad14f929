use Rattle.std.proofs.Common.{arith, rules}
use Rattle.gf_parity.proofs.Lanewise.{stored, stored_before, stored_after}
use Rattle.gf_parity.proofs.lanes.store.Goals as goal

pub returns-clause-lanes : goal.returns-clause-lanes
returns-clause-lanes g c = λ lane low. stored g.row.N c.args.at c.args.out.now c.args.bytes lane (search rules) c.fits-bytes.0 c.requires low

pub returns-clause-before : goal.returns-clause-before
returns-clause-before g c = λ place low. stored_before c.args.at c.args.out.now c.args.bytes place (search rules) (omega (arith, c.requires)) low

pub returns-clause-after : goal.returns-clause-after
returns-clause-after g c = λ place high. stored_after g.row.N c.args.at c.args.out.now c.args.bytes place (search rules) c.fits-bytes.0 c.requires high
