use Rattle.std.proofs.Common.{◌≡◌, false}
use Rattle.client_script.specs.Script.{calls_of}
use Rattle.schedule.specs.Computing.{IsComputedFor}
use Rattle.pool_live.proofs.beside.run_client.Given as goal

-- the seat is one of the lock, and free; and what was computed is of the client's calls
abbrev pub invariant-loop : goal.invariant-loop
invariant-loop g l = (l.seat.lock ≡ l.fn.run.turns.now.id) × (l.seat.holds ≡ false)
    × IsComputedFor (calls_of l.fn.run.script.now l.fn.actor) l.computed
