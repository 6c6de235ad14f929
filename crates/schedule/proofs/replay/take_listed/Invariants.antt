use Rattle.schedule.proofs.Words.{drop, HasPlayed, InOrder, replay_in}
use Rattle.schedule.proofs.replay.take_listed.Given as goal

abbrev pub invariant-loop-actor : goal.invariant-loop-actor
invariant-loop-actor g l = HasPlayed l.script
    (replay_in g.B.Bank.disk l.fn.live (InOrder l.listed))
    (replay_in g.B.Bank.disk l.live (InOrder (drop l.actor-index l.listed)))
    l.live.journal.room
