use Rattle.std.proofs.Common.{length, ap, arith}
use Rattle.std.proofs.lemmas.List.{length-map}
use Rattle.client_script.proofs.Steps.{call_step}
use Rattle.client_script.proofs.reading.take_call.Goals as goal

pub returns : goal.returns
returns c text is =
    call_step c.args.script.now c.in-Some.script c.push_call.new.self c.args.number c.args.actor c.args.call text c.in-Some.is is.0 is.1
    (omega (arith, c.if-actor-clients.false, c.clients.ensures))
    (omega (arith, c.if-in_line_order-ge-MOST_CALLS.false, ap length c.in_line_order.ensures, length-map c.in-Some.script.calls (λ placed. placed.actor)))
    c.in_ok-push_call.ensures.ok
