use Rattle.schedule.proofs.Words.{at_disk, turn_with}
use Rattle.schedule.proofs.order.CallTurns.{lacking_goes, lacking_room, lacks_room, makes_room}
use Rattle.schedule.proofs.taking.go_further.Goals as goal

pub returns-in-Ok-clause-room : goal.returns-in-Ok-clause-room
returns-in-Ok-clause-room g c = makes_room c.args.work.now c.args.journal.now.room
    (turn_with c.go_on.new.work c.go_on.result) c.made.ensures c.in-Ok.ensures.more

pub returns-in-Err-clause-goes : goal.returns-in-Err-clause-goes
returns-in-Err-clause-goes g c = lacks_room (at_disk c.args.core.now (g.B.Bank.disk c.args.bank.now)) c.args.call.now
    c.args.work.now c.made.ensures c.in-Err.ensures.some

pub returns-in-Err-clause-goes_on : goal.returns-in-Err-clause-goes_on
returns-in-Err-clause-goes_on g c = lacking_goes c.args.core.now
    (g.B.Bank.disk c.args.bank.now) c.args.work.now c.made.ensures c.in-Err.ensures.some

pub returns-in-Err-clause-room : goal.returns-in-Err-clause-room
returns-in-Err-clause-room g c = lacking_room c.args.work.now c.made.ensures c.in-Err.ensures.some c.in-Err.ensures.kept
