use Rattle.std.proofs.Common.{sym, ◌∙◌}
use Rattle.schedule.proofs.order.InTurn.{busy_turn}
use Rattle.pool_live.proofs.batch.next_of.Goals as goal

pub returns-then-is_busy-clause-next : goal.returns-then-is_busy-clause-next
returns-then-is_busy-clause-next c = λ was now_is turn clients before now. rw clients (
  busy_turn c.args.script.now c.args.progress.now.clients.items c.args.actor
      (sym c.is_busy.ensures ∙ c.if-is_busy.true),
  record { can = c.to_compute.ensures.can; asked = c.to_compute.ensures.asked },
)
