use Rattle.core_turns.proofs.Words.{◌≤◌, ◌*◌, sym, arith, rules, mul-le-mul_left, rows_of, IsWithinLimits, rows_few}
use Rattle.core_turns.proofs.state.Cores.{few_out}
use Rattle.core_turns.proofs.Words.{Hold, ap}
use Rattle.core_turns.proofs.read.Turns.{get_begins, read_held}
use Rattle.core_turns.proofs.open_core.Core.find_and_hold.Goals as goal

pub returns : goal.returns
returns c = rw (← c.self.view_is) (get_begins c.args.id c.self.invariant c.get.ensures.step
    (few_out c.self.view_is c.has_too_many_out.ensures.many.1 c.if-has_too_many_out.false) (sym c.in-Some.ensures.value)
    c.layout_of-layout.ensures c.alloc_size.ensures.value c.in-Ok-hold_shared.ensures.hold c.in-Ok.ensures
    c.in-Ok-hold_shared.ensures.ok c.in-Ok-hold_shared.ensures.clear c.pool_widths-widths.ensures)

pub invariant_of-self-2 : goal.invariant_of-self-2
invariant_of-self-2 c = read_held c.self.invariant (ap (λ (hold : Hold). hold.kind) c.in-Ok-hold_shared.ensures.hold)
    c.in-Ok-hold_shared.ensures.ok

pub overflow_add-end : goal.overflow_add-end
overflow_add-end c = record {
  fits =
      let layout = c.layout_of-layout.result in
      let limits : IsWithinLimits layout = search rules in
      let stands = c.in-Some.ensures.stands in
      let few = c.alloc_size.ensures.few in
      let rows : rows_of layout ≤ 128 = omega (arith, rows_few layout limits.is, limits.sectors) in
      let parities : layout.parity * rows_of layout ≤ 3 * 128
      = (let more = mul-le-mul_left layout.parity rows in omega (arith, more, limits.parity)) in
      omega (arith, stands.start, few, limits.sectors, limits.parity, parities);
}
