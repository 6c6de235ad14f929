use Rattle.schedule.proofs.Words.{length, refl, arith, slice_get_read}
use Rattle.schedule.proofs.run.Rooms.{answered_uses, begun_uses}
use Rattle.schedule.proofs.turn.TurnStates.{begun_more, begun_busy, begun_done}
use Rattle.schedule.proofs.taking.begin_next.Goals as goal

pub returns-in-More-clause-turned : goal.returns-in-More-clause-turned
returns-in-More-clause-turned g c =
    begun_more c.args.actor c.args.core.now c.begin_call.new.core
    (g.B.Bank.disk c.args.bank.now) c.args.journal.now.items c.args.client.now c.requires.idle
    (slice_get_read c.args.calls.now (length c.args.calls.now) c.args.client.now.begun c.index-calls-client.result refl
    c.requires.left c.index-calls-client.is) c.in-More.ensures.begins c.in-More.ensures.table
    c.len-at.ensures

pub returns-in-Busy-clause-turned : goal.returns-in-Busy-clause-turned
returns-in-Busy-clause-turned g c =
    begun_busy c.args.actor c.args.core.now c.begin_call.new.core
    (g.B.Bank.disk c.args.bank.now) c.args.journal.now.items c.args.client.now c.requires.idle
    (slice_get_read c.args.calls.now (length c.args.calls.now) c.args.client.now.begun c.index-calls-client.result refl
    c.requires.left c.index-calls-client.is) c.in-Busy.by c.in-Busy.ensures.begins

pub returns-in-Done-clause-turned : goal.returns-in-Done-clause-turned
returns-in-Done-clause-turned g c =
    begun_done c.args.actor c.args.core.now c.begin_call.new.core
    (g.B.Bank.disk c.args.bank.now) c.args.journal.now.items c.args.client.now c.requires.idle
    (slice_get_read c.args.calls.now (length c.args.calls.now) c.args.client.now.begun c.index-calls-client.result refl
    c.requires.left c.index-calls-client.is) c.in-Done.ensures.begins c.len-at.ensures
    c.entry_for.ensures c.list.ensures.items

pub list-requires : goal.list-requires
list-requires g c = let room = c.requires.room in omega (arith, room)

pub returns-in-More-clause-room : goal.returns-in-More-clause-room
returns-in-More-clause-room g c = begun_uses c.args.journal.now.room c.args.client.now
    (record { at = c.len-at.result; work = c.in-More.work }) c.requires.idle

pub returns-in-Done-clause-room : goal.returns-in-Done-clause-room
returns-in-Done-clause-room g c = answered_uses c.list.new.self.room c.args.client.now c.requires.idle c.requires.idle
    c.list.ensures.room
