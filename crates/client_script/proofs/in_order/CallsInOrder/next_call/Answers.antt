use Rattle.std.proofs.Common.{◌+◌, get_or, arith, subst}
use Rattle.client_script.specs.InOrder.{InOrder, IsNextCall}
use Rattle.client_script.proofs.InOrder.{place_within, counted_more, next_is}
use Rattle.client_script.proofs.in_order.CallsInOrder.next_call.Goals as goal

pub bounds-calls-place : goal.bounds-calls-place
bounds-calls-place c =
    let read = c.in_ok-actor.ensures.lookup in
    place_within c.self.inside.script.now _ _ _ _ _ _ c.in_line_order.ensures read.1 read.3.0 c.from-client.ensures (omega arith) c.self.invariant c.calls.ensures

pub offset_bounds-calls-place : goal.offset_bounds-calls-place
offset_bounds-calls-place c =
    let read = c.in_ok-actor.ensures.lookup in
    omega (arith, c.calls.type_inv, place_within c.self.inside.script.now _ _ _ _ _ _ c.in_line_order.ensures read.1 read.3.0 c.from-client.ensures (omega arith) c.self.invariant c.calls.ensures)

pub overflow_add-self : goal.overflow_add-self
overflow_add-self c =
    let read = c.in_ok-actor.ensures.lookup in
    omega (arith, c.calls.type_inv, place_within c.self.inside.script.now _ _ _ _ _ _ c.in_line_order.ensures read.1 read.3.0 c.from-client.ensures (omega arith) c.self.invariant c.calls.ensures)

pub overflow_add-result : goal.overflow_add-result
overflow_add-result c =
    let read = c.in_ok-actor.ensures.lookup in
    omega (arith, c.calls.type_inv, place_within c.self.inside.script.now _ _ _ _ _ _ c.in_line_order.ensures read.1 read.3.0 c.from-client.ensures (omega arith) c.self.invariant c.calls.ensures)

pub invariant_of-self : goal.invariant_of-self
invariant_of-self c =
    let read = c.in_ok-actor.ensures.lookup in
    counted_more c.self.inside.script.now _ _ _ _ _ _ c.in_line_order.ensures read.1 read.3.0 c.from-client.ensures (omega arith) c.self.invariant c.calls.ensures (omega arith)

pub returns-clause-some : goal.returns-clause-some
returns-clause-some c =
    let read = c.in_ok-actor.ensures.lookup in
    let place = get_or c.self.inside.counts c.from-client.result 0 in
    subst (λ (before : InOrder). IsNextCall before (record { script = c.self.inside.script.now; given = c.self.inside.given + 1 }) c.in_ok-actor.field-0.now (place + 1) c.index-calls-place.result)
    c.self.view_is
    (next_is c.self.inside.script.now _ _ _ _ _ _ c.in_line_order.ensures read.1 read.3.0 c.from-client.ensures (omega arith) c.self.invariant c.calls.ensures c.index-calls-place.result
    c.index-calls-place.is)
