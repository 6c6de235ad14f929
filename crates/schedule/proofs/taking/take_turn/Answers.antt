use Rattle.schedule.proofs.Words.{◌≡◌, ◌≤◌, ◌-◌, ℕ, List, Some, length, refl, arith, get_or, slice_get, slice_get_read}
use Rattle.schedule.proofs.Words.{ScriptCall}
use Rattle.schedule.specs.Works.{commit_in}
use Rattle.schedule.proofs.run.Rooms.{ended_uses, going_uses, listed_room, room_to_begin, room_to_end, room_to_go}
use Rattle.schedule.proofs.turn.TurnStates.{went_more, went_done}
use Rattle.schedule.proofs.order.CallTurns.{taken_lists}
use Rattle.schedule.proofs.taking.take_turn.Goals as goal

-- The call under way is the last one that was begun.
last_begun : (calls : List ScriptCall) (begun : ℕ) {call : ScriptCall} → 1 ≤ begun → begun ≤ length calls
    → call ≡ get_or calls (begun - 1) call → slice_get calls (begun - 1) ≡ Some call
last_begun calls begun {call} some few is = slice_get_read calls (length calls) (begun - 1) call refl (omega arith) is

pub returns-in-None-clause-bank : goal.returns-in-None-clause-bank
returns-in-None-clause-bank g c = c.begin_next.ensures.bank (g.B.Bank.disk c.args.bank.now) c.requires.bank

pub returns-in-None-given-clause-turned : goal.returns-in-None-given-clause-turned
returns-in-None-given-clause-turned g c =
    let is = last_begun c.args.calls.now c.args.client.now.begun
    (c.requires.begun c.in-Some.under_way c.in-Some.is) c.requires.few c.index-calls-number.is in
    went_more c.args.actor c.args.client.now c.in-Some.is is
    c.go_further-given.ensures.goes_on c.reflow-widths.ensures.is c.go_further-given.ensures.items
    c.in-None-given.ensures.goes
    (c.begun_at-at.ensures (commit_in c.in-Some.under_way.work) c.makes_commit-makes.ensures) c.len.ensures
    c.reflow-widths.ensures.value c.made.ensures c.list_made.ensures.items

pub returns-in-Some-given-clause-turned : goal.returns-in-Some-given-clause-turned
returns-in-Some-given-clause-turned g c =
    let is = last_begun c.args.calls.now c.args.client.now.begun
    (c.requires.begun c.in-Some.under_way c.in-Some.is) c.requires.few c.index-calls-number.is in
    rw c.end_call.ensures (went_done c.args.actor c.args.client.now c.in-Some.is is
    c.go_further-given.ensures.goes_on c.reflow-widths.ensures.is c.go_further-given.ensures.items
    c.in-Some-given.ensures.goes c.reflow-widths.ensures.value c.entry_for-entry.ensures
    c.list_answer.ensures.items c.group-made.ensures refl)

pub go_further-given-requires-clause-may : goal.go_further-given-requires-clause-may
go_further-given-requires-clause-may g c =
    let is = last_begun c.args.calls.now c.args.client.now.begun
    (c.requires.begun c.in-Some.under_way c.in-Some.is) c.requires.few c.index-calls-number.is in
    c.requires.may c.in-Some.under_way c.index-calls-number.result c.in-Some.is is

pub go_further-given-requires-clause-there : goal.go_further-given-requires-clause-there
go_further-given-requires-clause-there g c = rw c.in-Some.is at c.requires.there

pub begin_next-requires-clause-room : goal.begin_next-requires-clause-room
begin_next-requires-clause-room g c = room_to_begin (length c.args.calls.now) c.args.journal.now.room c.args.client.now
    c.in-None.is c.requires.room (c.requires.left c.in-None.is)

pub list_made-requires : goal.list_made-requires
list_made-requires g c =
    let going = c.in-Some.is in record {
      room = rw c.made.ensures (room_to_go (length c.args.calls.now) c.args.journal.now.room
          c.go_further-given.new.journal.room c.args.client.now c.in-Some.under_way going
          (c.requires.begun c.in-Some.under_way going)
          c.go_further-given.new.work c.requires.few c.requires.room c.in-None-given.ensures.room);
    }

pub list_answer-requires : goal.list_answer-requires
list_answer-requires g c =
    let going = c.in-Some.is in record {
      room = rw (listed_room
          c.index-calls-number.result c.in-Some.under_way.at c.entry_for-entry.ensures c.group-made.ensures)
          (room_to_end (length c.args.calls.now) c.args.journal.now.room c.go_further-given.new.journal.room
          c.args.client.now c.in-Some.under_way going
          (c.requires.begun c.in-Some.under_way going)
          c.in-Some-given.answer c.requires.few c.requires.room c.in-Some-given.ensures.room);
    }

pub returns-in-None-given-clause-room : goal.returns-in-None-given-clause-room
returns-in-None-given-clause-room g c =
    let going = c.in-Some.is in
    going_uses (length c.args.calls.now) c.args.journal.now.room c.go_further-given.new.journal.room c.args.client.now
    c.in-Some.under_way going
    (c.requires.begun c.in-Some.under_way going) c.list_made.new.journal.room
    c.begun_at-at.result c.go_further-given.new.work c.in-None-given.ensures.room
    (rw c.made.ensures at c.list_made.ensures.room)

pub returns-in-Some-given-clause-room : goal.returns-in-Some-given-clause-room
returns-in-Some-given-clause-room g c =
    let going = c.in-Some.is in
    rw c.end_call.ensures (ended_uses (length c.args.calls.now) c.args.journal.now.room
    c.go_further-given.new.journal.room c.args.client.now c.in-Some.under_way going
    (c.requires.begun c.in-Some.under_way going) c.list_answer.new.journal.room
    c.in-Some-given.answer refl c.in-Some-given.ensures.room
    (rw (listed_room c.index-calls-number.result c.in-Some.under_way.at
    c.entry_for-entry.ensures c.group-made.ensures) at c.list_answer.ensures.room))

pub go_further-given-requires-clause-computed : goal.go_further-given-requires-clause-computed
go_further-given-requires-clause-computed g c =
    let is = last_begun c.args.calls.now c.args.client.now.begun
    (c.requires.begun c.in-Some.under_way c.in-Some.is) c.requires.few c.index-calls-number.is in
    c.of_call.ensures.right c.args.calls.now c.index-calls-number.result c.requires.computed is

pub returns-in-None-given-clause-there : goal.returns-in-None-given-clause-there
returns-in-None-given-clause-there g c = c.in-None-given.ensures.there

pub returns-in-Some-given-clause-taken : goal.returns-in-Some-given-clause-taken
returns-in-Some-given-clause-taken g c = λ under going fits. rw (← c.go_further-given.ensures.items)
    (taken_lists c.reflow-widths.result c.go_further-given.new.journal.items c.in-Some.under_way.at
    c.entry_for-entry.result c.group-made.result c.index-calls-number.result c.in-Some.under_way.at
    c.list_answer.ensures.items c.entry_for-entry.ensures c.in-Some-given.is c.in-Some.is going c.of_call.ensures.value c.go_further-given.ensures.taken fits)
