use Rattle.std.proofs.Common.{[], length}
use Rattle.schedule.specs.InTurn.{InOrder, InRest, replay_at}
use Rattle.schedule.specs.Live.{replay_in, turns_in}
use Rattle.schedule.proofs.run.AtRest.{complete_at_rest}
use Rattle.pool_live.proofs.Sharing.{carried_played, limit_not_whole}
use Rattle.pool_live.proofs.beside.finish.Goals.{in-Ok, in-Err}
use Rattle.pool_live.proofs.beside.finish.Goals as goal

pub returns-clause-taken : goal.returns-clause-taken
returns-clause-taken g c =
    let script = c.args.script.now in
    let start = replay_in g.B.Bank.disk c.args.live (InOrder []) in
    let new = c.take_turns.new.live in
    elim c.match-take_turns.branch [
      | in-Ok w ↦ rw c.end.ensures (carried_played script start (replay_in g.B.Bank.disk new (InRest (length script.calls)))
          new.journal.room w.in-Ok.ensures.played)
      | in-Err w ↦ rw c.end.ensures (carried_played script start
          (replay_at (turns_in g.B.Bank.disk new) new.progress.turns w.in-Err.ensures.stopped.cursor) new.journal.room
          w.in-Err.ensures.stopped.played)
    ]

pub returns-clause-complete : goal.returns-clause-complete
returns-clause-complete g c = elim c.match-take_turns.branch [
  | in-Ok w ↦
      let told = w.in-Ok.ensures in
      rw c.end.ensures (λ whole. complete_at_rest c.requires.actors told.played.ready.counted
      told.played.ready.schedule.answered told.begun told.idle)
  | in-Err w ↦ rw c.end.ensures (λ whole. absurd (limit_not_whole c.match-take_turns.ended w.ended-is whole))
]
