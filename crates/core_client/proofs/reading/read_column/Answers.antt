use Rattle.std.proofs.Common.{subst, arith}
use Rattle.core_state.specs.declared.spot.Spot.{Spot}
use Rattle.core_state.specs.Committing.{point_of}
use Rattle.core_state.specs.SpotReads.{given_by, IsGot, IsPassedOrRead}
use Rattle.core_state.proofs.Below.{below_by_read}
use Rattle.core_state.proofs.SpotReads.{got_by_step, unchanged_by_step, outs_by_step}
use Rattle.core_client.proofs.reading.read_column.Goals as goal

pub returns-clause-step : goal.returns-clause-step
returns-clause-step g c =
    subst (λ (spot : Spot). IsPassedOrRead spot (given_by c.read_spot.result c.read_spot.new.into) (point_of c.args.out.now (g.B.Bank.disk c.args.bank.now))
    (point_of c.read_spot.new.out (g.B.Bank.disk c.read_spot.new.bank))) c.spot_of.ensures.value c.read_spot.ensures

pub returns-clause-got : goal.returns-clause-got
returns-clause-got g c =
    subst (λ (spot : Spot). IsGot (g.B.Bank.disk c.args.bank.now).reads c.args.out.now c.read_spot.new.out spot (given_by c.read_spot.result c.read_spot.new.into))
    c.spot_of.ensures.value
    (got_by_step c.spot_of.result (given_by c.read_spot.result c.read_spot.new.into) (point_of c.args.out.now (g.B.Bank.disk c.args.bank.now))
    (point_of c.read_spot.new.out (g.B.Bank.disk c.read_spot.new.bank)) c.read_spot.ensures)

pub returns-clause-unchanged : goal.returns-clause-unchanged
returns-clause-unchanged g c =
    unchanged_by_step c.spot_of.result (given_by c.read_spot.result c.read_spot.new.into) (point_of c.args.out.now (g.B.Bank.disk c.args.bank.now))
    (point_of c.read_spot.new.out (g.B.Bank.disk c.read_spot.new.bank)) c.read_spot.ensures

pub returns-clause-out : goal.returns-clause-out
returns-clause-out g c =
    outs_by_step c.spot_of.result (given_by c.read_spot.result c.read_spot.new.into) (point_of c.args.out.now (g.B.Bank.disk c.args.bank.now))
    (point_of c.read_spot.new.out (g.B.Bank.disk c.read_spot.new.bank)) c.read_spot.ensures

pub returns-clause-below : goal.returns-clause-below
returns-clause-below g c devices more =
    below_by_read c.spot_of.result (given_by c.read_spot.result c.read_spot.new.into) (point_of c.args.out.now (g.B.Bank.disk c.args.bank.now))
    (point_of c.read_spot.new.out (g.B.Bank.disk c.read_spot.new.bank)) devices c.read_spot.ensures
    (let low = c.spot_of.ensures.device in omega (arith, low, more))
