use Rattle.raidzx_top.proofs.top.laws_hold.Goals as goal

pub returns : goal.returns
returns g c = g.met.B.Bank.lawful c.args._bank.now
