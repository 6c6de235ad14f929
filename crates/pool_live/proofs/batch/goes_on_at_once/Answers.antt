use Rattle.std.proofs.Common.{sym, ◌∙◌}
use Rattle.client_script.specs.Script.{calls_of}
use Rattle.schedule.proofs.order.InTurn.{busy_turn}
use Rattle.pool_live.proofs.batch.goes_on_at_once.Goals as goal

pub returns-then-not-asks : goal.returns-then-not-asks
returns-then-not-asks g c = λ yes. (
  busy_turn c.args.script.now c.args.live.now.progress.clients.items c.args.actor
      (sym c.is_busy.ensures ∙ c.if-is_busy.true),
  record {
    can = tt;
    asked = λ client there. c.asks.ensures c.if-not-asks.true (calls_of c.args.script.now c.args.actor) client there;
  },
)
