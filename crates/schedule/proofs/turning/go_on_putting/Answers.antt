use Rattle.schedule.proofs.Words.{at_disk, turn_with, Done}
use Rattle.schedule.proofs.order.CallTurns.{filled_of, filled_under, put_gives, put_gives_goes, put_writes}
use Rattle.schedule.proofs.turning.go_on_putting.Goals as goal

pub write_on-requires-clause-of : goal.write_on-requires-clause-of
write_on-requires-clause-of g c = filled_of c.args.call.now
    (c.fill_in.ensures.fills c.if-fill_in.true) c.requires.len c.requires.of

pub write_on-requires-clause-under_way : goal.write_on-requires-clause-under_way
write_on-requires-clause-under_way g c = filled_under c.args.call.now
    (c.fill_in.ensures.fills c.if-fill_in.true) c.requires.under_way

pub returns-else-fill_in-clause-goes : goal.returns-else-fill_in-clause-goes
returns-else-fill_in-clause-goes g c =
    let refused = c.fill_in.ensures.no_memory c.if-fill_in.false in
    put_gives c.args.core.now c.put_give_up.new.self (g.B.Bank.disk c.args.bank.now) c.args.call.now
    (Done c.put_give_up.result) refused.1 refused.0 c.put_give_up.ensures.gives_up

pub returns-else-fill_in-clause-goes_on : goal.returns-else-fill_in-clause-goes_on
returns-else-fill_in-clause-goes_on g c = put_gives_goes c.fill_in.new.run
    (Done c.put_give_up.result) c.put_give_up.ensures.gives_up

pub returns-then-fill_in-clause-goes : goal.returns-then-fill_in-clause-goes
returns-then-fill_in-clause-goes g c = put_writes (at_disk c.args.core.now (g.B.Bank.disk c.args.bank.now))
    (at_disk c.write_on.new.core (g.B.Bank.disk c.write_on.new.bank)) c.args.call.now
    (turn_with c.write_on.new.run c.write_on.result)
    (c.fill_in.ensures.fills c.if-fill_in.true) c.write_on.ensures.writes
