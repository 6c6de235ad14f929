use Rattle.schedule.proofs.Words.{ap, arith, drop_all, InOrder}
use Rattle.schedule.proofs.order.Playing.{at_err, listed_more, played_at, played_none, stopped_listed}
use Rattle.schedule.proofs.replay.take_listed.Goals as goal

pub loop-actor-init : goal.loop-actor-init
loop-actor-init g c = played_none _ c.requires.ready

pub take_letter-requires-clause-ready : goal.take_letter-requires-clause-ready
take_letter-requires-clause-ready g c = c.loop-actor.invariant.ready

pub loop-actor-preserved : goal.loop-actor-preserved
loop-actor-preserved g c = listed_more c.loop-actor.actor-index c.args.listed.now 0 (omega (arith, c.loop-actor-test.true)) c.loop-actor.invariant
    (c.in_ok-take_letter.ensures.played _)

pub returns-in_err-take_letter-clause-stopped : goal.returns-in_err-take_letter-clause-stopped
returns-in_err-take_letter-clause-stopped g c = at_err _ c.from_residual.result
    (stopped_listed c.loop-actor.actor-index c.args.listed.now 0 (omega (arith, c.loop-actor-test.true)) c.loop-actor.invariant
    (c.in_err-take_letter.ensures.stopped _))

pub returns-clause-played : goal.returns-clause-played
returns-clause-played g c = played_at
    (ap InOrder (drop_all c.loop-actor.actor-index c.args.listed.now (omega (arith, c.loop-actor-test.false))))
    c.loop-actor.invariant
