use Rattle.schedule.proofs.Words.{InRound, replay_in}
use Rattle.schedule.proofs.order.Playing.{at_err, played_none, played_then, stopped_then}
use Rattle.schedule.proofs.order.RoundTaken.{round_none}
use Rattle.schedule.proofs.replay.take_round.Goals as goal

pub loop-actor-init : goal.loop-actor-init
loop-actor-init g c = record {
  played = played_none (replay_in g.B.Bank.disk c.args.live.now
      (InRound 0)) c.requires.ready;
  round = round_none c.args.live.now.progress.clients.items c.args.live.now.progress.turns;
}

pub take_if_busy-requires-clause-ready : goal.take_if_busy-requires-clause-ready
take_if_busy-requires-clause-ready g c = c.loop-actor.invariant.played.ready

pub loop-actor-preserved : goal.loop-actor-preserved
loop-actor-preserved g c = record {
  played = played_then c.loop-actor.invariant.played c.in_ok-take_if_busy.ensures.played;
  round = c.in_ok-take_if_busy.ensures.round c.args.live.now.progress.clients.items c.args.live.now.progress.turns
      c.loop-actor.invariant.round;
}

pub returns-in_err-take_if_busy-clause-stopped : goal.returns-in_err-take_if_busy-clause-stopped
returns-in_err-take_if_busy-clause-stopped g c = at_err _ c.from_residual.result
    (stopped_then c.loop-actor.invariant.played c.in_err-take_if_busy.ensures.stopped)
