use Rattle.schedule.proofs.Words.{[], length, refl, subst, InOrder, InRest, Replay, replay_in, turns_in, HasPlayed}
use Rattle.schedule.proofs.Words.{HasRunOutOfTurns, blank_clients}
use Rattle.schedule.proofs.run.AtRest.{complete_at_rest, first_is, ready_at_rest, schedule_at_rest}
use Rattle.schedule.proofs.run.Coming.{came_nowhere}
use Rattle.schedule.proofs.replay.carry_out.Goals as goal
use Rattle.schedule.proofs.replay.carry_out.Goals.{in-Ok-take_turns, in-Err}

pub returns-in_default-clause-taken : goal.returns-in_default-clause-taken
returns-in_default-clause-taken g c = rw c.begin.ensures.same (record {
  passed = [];
  clients = blank_clients c.args.script.now.clients;
  cursor = InOrder c.args.listed.now;
  come = came_nowhere refl;
  ends = (refl, refl);
})

pub returns-in_default-clause-calls : goal.returns-in_default-clause-calls
returns-in_default-clause-calls g c = rw c.begin.ensures.same (schedule_at_rest c.args.script.now
    c.args.script.now.clients c.requires.rest c.requires.bank c.requires.none).answered.right

pub take_turns-requires-clause-ready : goal.take_turns-requires-clause-ready
take_turns-requires-clause-ready g c = ready_at_rest c.in-Ok.progress c.requires.rest c.requires.bank c.requires.none
    c.begin.ensures.same c.in-Ok.ensures.clients c.in-Ok.ensures.room

pub returns-clause-taken : goal.returns-clause-taken
returns-clause-taken g c =
    let script = c.args.script.now in
    let live = c.take_turns.new.live in
    let first = first_is script c.begin.new.journal c.in-Ok.progress c.begin.ensures.same c.in-Ok.ensures.clients
    c.in-Ok.ensures.turns in
    elim c.match-take_turns.branch [
      | in-Ok-take_turns w ↦
          let played = subst (λ (start : Replay). HasPlayed script start
          (replay_in g.B.Bank.disk live (InRest (length script.calls))) live.journal.room) first
          w.in-Ok-take_turns.ensures.played in
          rw (c.end.ensures, w.ended-is) record {
            passed = played.passed;
            clients = live.progress.clients.items;
            cursor = InRest (length script.calls);
            come = played.come;
            ends = (played.gone, refl, w.in-Ok-take_turns.ensures.idle);
          }
      | in-Err w ↦
          let stopped = subst (λ (start : Replay). HasRunOutOfTurns script start (turns_in g.B.Bank.disk live)
          live.progress.turns live.journal.room) first w.in-Err.ensures.stopped in
          rw (c.end.ensures, w.ended-is) record {
            passed = stopped.played.passed;
            clients = live.progress.clients.items;
            cursor = stopped.cursor;
            come = stopped.played.come;
            ends = (stopped.played.gone, stopped.most);
          }
    ]

pub returns-clause-calls : goal.returns-clause-calls
returns-clause-calls g c = elim c.match-take_turns.branch [
  | in-Ok-take_turns w ↦ rw c.end.ensures w.in-Ok-take_turns.ensures.played.ready.schedule.answered.right
  | in-Err w ↦ rw c.end.ensures w.in-Err.ensures.stopped.played.ready.schedule.answered.right
]

pub returns-clause-complete : goal.returns-clause-complete
returns-clause-complete g c = elim c.match-take_turns.branch [
  | in-Ok-take_turns w ↦
      let told = w.in-Ok-take_turns.ensures in
      rw c.end.ensures (λ whole. complete_at_rest c.requires.actors told.played.ready.counted
      told.played.ready.schedule.answered told.begun told.idle)
  | in-Err w ↦ rw (c.end.ensures, w.ended-is) (λ whole. cc)
]
