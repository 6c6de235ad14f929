use Rattle.schedule.proofs.Words.{◌∙◌, arith, sym, slice_get_within}
use Rattle.schedule.proofs.turn.Theirs.{some_is}
use Rattle.schedule.proofs.order.TurnTaken.{client_there}
use Rattle.schedule.proofs.progress.Progress.asks.Goals as goal

pub returns-in-Some : goal.returns-in-Some
returns-in-Some c = λ none calls client is.
    let found = rw c.deref.ensures.value at (client_there c.deref.result.now c.from.ensures c.in-Some.ensures.lookup.3.0
    c.in-Some.ensures.lookup.1) in
    rw (← some_is (sym found ∙ is)) (c.asks.ensures none calls)

pub returns-in-None : goal.returns-in-None
returns-in-None c = λ none calls client is.
    let within = slice_get_within c.args.self.now.clients.items c.args.actor client is in
    absurd (omega (arith, within, c.from.ensures, c.in-None.ensures.lookup.3, c.deref.ensures.len))
