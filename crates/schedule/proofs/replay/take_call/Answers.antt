use Rattle.schedule.proofs.Words.{sym, ◌∙◌, arith, InRest}
use Rattle.schedule.proofs.order.InTurn.{idle_not_busy, left_begun, not_busy_idle}
use Rattle.schedule.proofs.order.Playing.{at_err, played_first, played_later, stopped_then}
use Rattle.schedule.proofs.order.CallTaken.{begins_more, begins_one, idle_again}
use Rattle.schedule.proofs.replay.take_call.Goals as goal

pub returns-in_err-count_turn_of-clause-stopped : goal.returns-in_err-count_turn_of-clause-stopped
returns-in_err-count_turn_of-clause-stopped g c =
    at_err _ c.from_residual.result (λ given is. c.in_err-count_turn_of.ensures.stopped (InRest given))

pub turns-init : goal.turns-init
turns-init g c = record {
  ready = c.in_ok-count_turn_of.ensures.ready;
  played = λ given is. played_first c.requires.ready is (idle_not_busy c.args.actor c.requires.idle) c.requires.left
      c.in_ok-count_turn_of.ensures.turn c.in_ok-count_turn_of.ensures.turns c.in_ok-count_turn_of.ensures.ready;
  begins = begins_one c.in_ok-count_turn_of.ensures.turn c.requires.idle
      (λ client there.
      let low = left_begun c.args.live.now.progress.clients.items c.args.actor c.requires.left client there in
      let few = c.requires.of_client in omega (arith, low, few));
}

pub count_turn_of-requires-in-turns-clause-ready : goal.count_turn_of-requires-in-turns-clause-ready
count_turn_of-requires-in-turns-clause-ready g c = c.turns.invariant.ready

pub turns-smaller : goal.turns-smaller
turns-smaller g c = omega (arith, c.in_ok-count_turn_of-2.ensures.below, c.in_ok-count_turn_of-2.ensures.turns)

pub turns-preserved : goal.turns-preserved
turns-preserved g c = record {
  ready = c.in_ok-count_turn_of-2.ensures.ready;
  played = λ given is. played_later is (c.turns.invariant.played given is) (sym c.is_busy.ensures ∙ c.turns-test.true)
      c.in_ok-count_turn_of-2.ensures.turn c.in_ok-count_turn_of-2.ensures.turns
      c.in_ok-count_turn_of-2.ensures.ready;
  begins = begins_more c.turns.invariant.begins c.in_ok-count_turn_of-2.ensures.turn
      (sym c.is_busy.ensures ∙ c.turns-test.true);
}

pub returns-in_err-count_turn_of-2-clause-stopped : goal.returns-in_err-count_turn_of-2-clause-stopped
returns-in_err-count_turn_of-2-clause-stopped g c = at_err _ c.from_residual-in_err-count_turn_of-2.result
    (λ given is. stopped_then (c.turns.invariant.played given is)
    (c.in_err-count_turn_of-2.ensures.stopped (InRest given)))

pub returns-clause-idle : goal.returns-clause-idle
returns-clause-idle g c = idle_again c.turns.invariant.begins c.requires.idle
    (not_busy_idle c.turns.live.progress.clients.items c.args.actor (sym c.is_busy.ensures ∙ c.turns-test.false))
