use Rattle.schedule.proofs.Words.{ℕ, refl, sym, ◌∙◌, ap, subst, arith, InRest, replay_in, HaveBegun}
use Rattle.client_script.specs.InOrder.{InOrder}
use Rattle.schedule.proofs.order.InTurn.{none_left_begun}
use Rattle.schedule.proofs.order.Playing.{at_err, played_at, played_none, played_then, rest_goes, stopped_then}
use Rattle.schedule.proofs.order.CallTaken.{begun_none, next_begun, next_few, next_is_call, next_of_client}
use Rattle.schedule.proofs.order.CallTaken.{next_smaller, next_taken}
use Rattle.schedule.proofs.replay.take_rest.Goals as goal

pub loop-next-init : goal.loop-next-init
loop-next-init g c =
    let none = ap (λ (calls : InOrder). calls.given) c.calls_in_order-calls.ensures in record {
      script = ap (λ (calls : InOrder). calls.script) c.calls_in_order-calls.ensures;
      few = omega (arith, none);
      played = played_at (ap InRest (sym none)) (played_none
          (replay_in g.B.Bank.disk c.args.live.now (InRest 0)) c.requires.ready);
      idle = c.requires.idle;
      begun = subst (λ (n : ℕ). HaveBegun c.args.script.now n c.args.live.now.progress.clients.items) (sym none)
          (begun_none c.args.script.now c.args.live.now.progress.clients.items);
    }

pub take_call-requires-clause-ready : goal.take_call-requires-clause-ready
take_call-requires-clause-ready g c = c.loop-next.invariant.played.ready

pub take_call-requires-clause-left : goal.take_call-requires-clause-left
take_call-requires-clause-left g c = sym c.has_left.ensures ∙ c.if-has_left.true

pub take_call-requires-clause-of_client : goal.take_call-requires-clause-of_client
take_call-requires-clause-of_client g c = next_of_client c.loop-next.invariant.script c.in-Some.ensures.some

pub loop-next-smaller-in-Continue-1 : goal.loop-next-smaller-in-Continue-1
loop-next-smaller-in-Continue-1 g c = next_smaller c.loop-next.invariant.script c.in-Some.ensures.some

pub loop-next-preserved-in-Continue-1 : goal.loop-next-preserved-in-Continue-1
loop-next-preserved-in-Continue-1 g c =
    let is = next_is_call c.loop-next.invariant.script c.in-Some.ensures.some in
    let played = c.in_ok-take_call.ensures.played c.loop-next.calls.given is in
    let begun = next_taken c.loop-next.invariant.script c.in-Some.ensures.some c.loop-next.invariant.begun
    c.in_ok-take_call.ensures.begins (played.ready.counted ∙ sym c.loop-next.invariant.played.ready.counted) in record {
      script = ap (λ (calls : InOrder). calls.script) c.in-Some.ensures.some.one_more ∙ c.loop-next.invariant.script;
      few = next_few c.loop-next.invariant.script c.in-Some.ensures.some;
      played = rest_goes (ap (λ (calls : InOrder). calls.given) c.in-Some.ensures.some.one_more) is
          c.in_ok-take_call.ensures.idle begun (played_then c.loop-next.invariant.played played);
      idle = c.in_ok-take_call.ensures.idle;
      begun = begun;
    }

pub returns-in_err-take_call-clause-stopped : goal.returns-in_err-take_call-clause-stopped
returns-in_err-take_call-clause-stopped g c = at_err _ c.from_residual.result
    (stopped_then c.loop-next.invariant.played (c.in_err-take_call.ensures.stopped c.loop-next.calls.given
    (next_is_call c.loop-next.invariant.script c.in-Some.ensures.some)))

pub loop-next-smaller : goal.loop-next-smaller
loop-next-smaller g c = next_smaller c.loop-next.invariant.script c.in-Some.ensures.some

pub loop-next-preserved : goal.loop-next-preserved
loop-next-preserved g c =
    let is = next_is_call c.loop-next.invariant.script c.in-Some.ensures.some in
    let begun = next_begun c.loop-next.invariant.script c.in-Some.ensures.some c.loop-next.invariant.begun
    (none_left_begun c.loop-next.live.progress.clients.items c.in-Some.next.actor c.in-Some.next.number
    (sym c.has_left.ensures ∙ c.if-has_left.false))
    (λ other apart. refl) in record {
      script = ap (λ (calls : InOrder). calls.script) c.in-Some.ensures.some.one_more ∙ c.loop-next.invariant.script;
      few = next_few c.loop-next.invariant.script c.in-Some.ensures.some;
      played = rest_goes (ap (λ (calls : InOrder). calls.given) c.in-Some.ensures.some.one_more) is
          c.loop-next.invariant.idle begun c.loop-next.invariant.played;
      idle = c.loop-next.invariant.idle;
      begun = begun;
    }
