use Rattle.schedule.proofs.Words.{◌-◌, [], InOrder, after_round, replay_in, HasPlayed, most_turns}
use Rattle.schedule.proofs.replay.take_rounds.Given as goal

abbrev pub invariant-rounds : goal.invariant-rounds
invariant-rounds g l = HasPlayed l.script (replay_in g.B.Bank.disk l.fn.live (InOrder []))
    (replay_in g.B.Bank.disk l.live (after_round l.live.progress.clients.items)) l.live.journal.room

abbrev pub decreases-rounds : goal.decreases-rounds
decreases-rounds g l = most_turns - l.live.progress.turns
