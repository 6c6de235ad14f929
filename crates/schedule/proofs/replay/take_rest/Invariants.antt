use Rattle.schedule.proofs.Words.{◌≡◌, ◌≤◌, ◌-◌, length, InRest, replay_in, HasPlayed, AreIdle, HaveBegun}
use Rattle.schedule.proofs.replay.take_rest.Given as goal

abbrev pub invariant-loop-next : goal.invariant-loop-next
invariant-loop-next g l = record {
  script : l.calls.script ≡ l.script;
  few : l.calls.given ≤ length l.script.calls;
  played : HasPlayed l.script (replay_in g.B.Bank.disk l.fn.live (InRest 0))
      (replay_in g.B.Bank.disk l.live (InRest l.calls.given)) l.live.journal.room;
  idle : AreIdle l.live.progress.clients.items;
  begun : HaveBegun l.script l.calls.given l.live.progress.clients.items;
}

abbrev pub decreases-loop-next : goal.decreases-loop-next
decreases-loop-next g l = length l.script.calls - l.calls.given
