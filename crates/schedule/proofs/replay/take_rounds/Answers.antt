use Rattle.schedule.proofs.Words.{sym, ◌∙◌, arith}
use Rattle.schedule.proofs.order.InTurn.{rest_next, round_next}
use Rattle.schedule.proofs.order.Playing.{at_err, order_over, played_at, round_over, stopped_then}
use Rattle.schedule.proofs.order.RoundTaken.{none_busy_idle, round_further}
use Rattle.schedule.proofs.replay.take_rounds.Goals as goal

pub rounds-init : goal.rounds-init
rounds-init g c = order_over c.requires.ready

pub take_round-requires-clause-ready : goal.take_round-requires-clause-ready
take_round-requires-clause-ready g c = c.rounds.invariant.ready

pub rounds-smaller : goal.rounds-smaller
rounds-smaller g c =
    let further = round_further c.in_ok-take_round.ensures.round
    (let same = c.rounds.invariant.ready.counted in omega (arith, same))
    (sym c.is_any_busy.ensures ∙ c.rounds-test.true) in
    omega (arith, further.0, further.1)

pub rounds-preserved : goal.rounds-preserved
rounds-preserved g c = round_over c.rounds.invariant (sym c.is_any_busy.ensures ∙ c.rounds-test.true)
    c.in_ok-take_round.ensures.played

pub returns-in_err-take_round-clause-stopped : goal.returns-in_err-take_round-clause-stopped
returns-in_err-take_round-clause-stopped g c = at_err _ c.from_residual.result
    (stopped_then
    (played_at (round_next c.rounds.live.progress.clients.items (sym c.is_any_busy.ensures ∙ c.rounds-test.true))
    c.rounds.invariant)
    c.in_err-take_round.ensures.stopped)

pub returns-clause-played : goal.returns-clause-played
returns-clause-played g c = played_at
    (rest_next c.rounds.live.progress.clients.items (sym c.is_any_busy.ensures ∙ c.rounds-test.false))
    c.rounds.invariant

pub returns-clause-idle : goal.returns-clause-idle
returns-clause-idle g c =
    none_busy_idle c.rounds.live.progress.clients.items (sym c.is_any_busy.ensures ∙ c.rounds-test.false)
