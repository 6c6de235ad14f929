use Rattle.schedule.proofs.Words.{ℕ, ◌-◌, InRest, IsCallOfScript, replay_in, turns_in, HasPlayed, IsReady, most_turns}
use Rattle.schedule.proofs.Words.{BeginsOne}
use Rattle.schedule.proofs.replay.take_call.Given as goal

abbrev pub invariant-turns : goal.invariant-turns
invariant-turns g l = record {
  ready : IsReady l.script (turns_in g.B.Bank.disk l.live) l.live.journal.room;
  played : (given : ℕ) → IsCallOfScript l.script given l.actor l.number
      → HasPlayed l.script (replay_in g.B.Bank.disk l.fn.live (InRest given))
      (replay_in g.B.Bank.disk l.live (InRest given)) l.live.journal.room;
  begins : BeginsOne l.actor l.fn.live.progress.clients.items l.live.progress.clients.items;
}

abbrev pub decreases-turns : goal.decreases-turns
decreases-turns g l = most_turns - l.live.progress.turns
