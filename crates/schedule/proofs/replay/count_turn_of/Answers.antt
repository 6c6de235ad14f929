use Rattle.schedule.proofs.Words.{List, sym, subst, at_disk, turns_of, turns_in, IsReady, HasTurn}
use Rattle.schedule.specs.declared.client.Client.{Client as ClientOf}
use Rattle.schedule.proofs.order.Playing.{at_err, stopped_same}
use Rattle.schedule.proofs.replay.count_turn_of.Goals as goal

pub turn_of-requires-clause-ready : goal.turn_of-requires-clause-ready
turn_of-requires-clause-ready g c =
    subst (λ (clients : List ClientOf). IsReady c.args.script.now
    (turns_of (at_disk c.args.live.now.core (g.B.Bank.disk c.args.live.now.bank)) c.args.live.now.journal.items clients)
    c.args.live.now.journal.room) (sym c.count.ensures.clients) c.requires.ready

pub returns-clause-turn : goal.returns-clause-turn
returns-clause-turn g c =
    subst (λ (clients : List ClientOf). HasTurn c.args.script.now c.args.actor
    (turns_of (at_disk c.args.live.now.core (g.B.Bank.disk c.args.live.now.bank)) c.args.live.now.journal.items clients)
    (turns_in g.B.Bank.disk c.turn_of.new.live)) c.count.ensures.clients c.turn_of.ensures.turn

pub returns-in_err-count-clause-stopped : goal.returns-in_err-count-clause-stopped
returns-in_err-count-clause-stopped g c = at_err _ c.from_residual.result (
    λ cursor. stopped_same c.args.live.now.journal c.args.live.now.progress c.count.new.self cursor
    c.count.ensures.clients c.in_err-count.ensures.same c.in_err-count.ensures.most c.requires.ready
    )
