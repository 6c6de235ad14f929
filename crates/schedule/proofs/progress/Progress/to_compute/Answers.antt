use Rattle.schedule.proofs.Words.{◌∙◌, arith, sym, true≢false, slice_get_within}
use Rattle.schedule.proofs.turn.Theirs.{some_is}
use Rattle.schedule.proofs.order.TurnTaken.{client_there, going_may}
use Rattle.schedule.proofs.progress.Progress.to_compute.Goals as goal

pub to_compute-requires-clause-may : goal.to_compute-requires-clause-may
to_compute-requires-clause-may c =
    let client = c.in-Some.client.now in
    let ready = c.requires.ready.3 in (
      c.requires.ready.0.core,
      λ under call going is. going_may ready.schedule.going (record {
        there = client_there c.args.self.now.clients.items c.from.ensures
            c.in-Some.ensures.item.3.0 c.in-Some.ensures.value;
        under_way = going;
      }) (rw c.calls.ensures at is),
    )

pub returns-in-Some-clause-asked : goal.returns-in-Some-clause-asked
returns-in-Some-clause-asked c = λ client is.
    let found = client_there c.args.self.now.clients.items c.from.ensures
    c.in-Some.ensures.item.3.0 c.in-Some.ensures.value in
    rw (← some_is (sym found ∙ is)) (rw c.calls.ensures at c.to_compute.ensures.asked)

pub returns-in-None-clause-asked : goal.returns-in-None-clause-asked
returns-in-None-clause-asked c = λ client is.
    let within = slice_get_within c.args.self.now.clients.items c.args.actor client is in
    absurd (true≢false (sym (c.in-None.ensures.variant.1 (omega (arith, within, c.from.ensures)))))
