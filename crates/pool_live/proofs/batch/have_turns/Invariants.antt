use Rattle.std.proofs.Common.{◌≡◌, ℕ, ◌+◌, ◌≤◌, true}
use Rattle.client_script.specs.Script.{calls_of}
use Rattle.schedule.specs.declared.computing.ToCompute.TheVariants as to_compute
use Rattle.schedule.specs.Computing.{IsComputedFor}
use Rattle.schedule.specs.InTurn.{has_turn_at}
use Rattle.schedule.specs.Live.{turns_in}
use Rattle.schedule.specs.Playing.{IsReady}
use Rattle.pool_live.specs.Sharing.{HaveAnswered, IsAskedNext, MovesOn}
use Rattle.pool_live.proofs.batch.have_turns.Given as goal

-- what the client had so far
abbrev pub invariant-loop-turn : goal.invariant-loop-turn
invariant-loop-turn g l = record {
  had : l.turns ≡ l._turn;
  answered : l.answered ≤ l._turn;
  computed : IsComputedFor (calls_of l.fn.script l.fn.actor) l.computed;
  ready : IsReady l.fn.script (turns_in g.B.Bank.disk l.live)
      l.live.journal.room;
  left : has_turn_at l.fn.script l.live.progress.clients.items l.fn.actor ≡ true;
  next : 1 ≤ l._turn → IsAskedNext l.fn.script l.fn.actor l.live.progress.clients.items to_compute.Nothing;
  counts : (count : ℕ) → HaveAnswered l.fn.live.progress.clients.items l.fn.actor count
      → HaveAnswered l.live.progress.clients.items l.fn.actor (count + l.answered);
  moves : MovesOn l.fn.script (turns_in g.B.Bank.disk l.fn.live)
      l.fn.live.journal.room l.fn.live.progress.turns l.fn.actor l.turns
      (turns_in g.B.Bank.disk l.live)
      l.live.journal.room l.live.progress.turns;
}
