use Rattle.schedule.proofs.Words.{on_ok_weaker, on_err_weaker}
use Rattle.schedule.proofs.order.Playing.{at_err, played_then, stopped_then}
use Rattle.schedule.proofs.replay.take_turns.Goals as goal

pub take_rounds-requires-clause-ready : goal.take_rounds-requires-clause-ready
take_rounds-requires-clause-ready g c = c.in_ok-take_listed.ensures.played.ready

pub take_rest-requires-clause-ready : goal.take_rest-requires-clause-ready
take_rest-requires-clause-ready g c = c.in_ok-take_rounds.ensures.played.ready

pub returns-in_err-take_rounds-clause-stopped : goal.returns-in_err-take_rounds-clause-stopped
returns-in_err-take_rounds-clause-stopped g c = at_err _ c.from_residual-in_err-take_rounds.result
    (stopped_then c.in_ok-take_listed.ensures.played c.in_err-take_rounds.ensures.stopped)

pub returns-clause-played : goal.returns-clause-played
returns-clause-played g c = on_ok_weaker c.take_rest.result
    (λ rest. played_then (played_then c.in_ok-take_listed.ensures.played c.in_ok-take_rounds.ensures.played) rest)
    c.take_rest.ensures.played

pub returns-clause-stopped : goal.returns-clause-stopped
returns-clause-stopped g c = on_err_weaker c.take_rest.result
    (λ rest. stopped_then (played_then c.in_ok-take_listed.ensures.played c.in_ok-take_rounds.ensures.played) rest)
    c.take_rest.ensures.stopped
