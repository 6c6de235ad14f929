use Rattle.raidzx_top.proofs.Ending.{ends_promise}
use Rattle.raidzx_top.proofs.top.raidzx.Goals as goal

pub returns-clause-promises : goal.returns-clause-promises
returns-clause-promises g c = ends_promise _ c.laws_hold.ensures c.carry_out.ensures.ends
