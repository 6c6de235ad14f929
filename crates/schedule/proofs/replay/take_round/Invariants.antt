use Rattle.schedule.proofs.Words.{InRound, replay_in, HasPlayed, HasComeRound}
use Rattle.schedule.proofs.replay.take_round.Given as goal

abbrev pub invariant-loop-actor : goal.invariant-loop-actor
invariant-loop-actor g l = record {
  played : HasPlayed l.script (replay_in g.B.Bank.disk l.fn.live (InRound 0))
      (replay_in g.B.Bank.disk l.live (InRound l.actor)) l.live.journal.room;
  round : HasComeRound l.actor l.fn.live.progress.clients.items l.fn.live.progress.turns l.live.progress.clients.items
      l.live.progress.turns;
}
