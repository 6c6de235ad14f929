use Rattle.core_turns.proofs.Words.{arith, ◌+◌, ◌-◌, ◌<◌, common_steps, allocated_of}
use Rattle.core_turns.proofs.state.Cores.{few_out}
use Rattle.core_turns.proofs.put.Turns.{put_begins, put_begins_core, put_dropped, put_refused}
use Rattle.core_turns.proofs.open_core.Core.put_begin.Goals as goal

pub hold_range-requires-clause-end : goal.hold_range-requires-clause-end
hold_range-requires-clause-end c =
    let begins = c.in-Ok.ensures.begins in
    let small = c.begin_put.ensures.stays.small in
    let run = c.in-Ok.range.layout.start in
    let len = allocated_of c.in-Ok.range.layout in
    let some : 0 < len = grind (arith, common_steps) in
    let last = begins.first.free (run + (len - 1)) (omega (arith), omega (arith, some)) in
    omega (arith, last.below, begins.taken.capacity, small, some)

pub returns-in-Err : goal.returns-in-Err
returns-in-Err c = record {
  begins = rw (← c.self.view_is, c.refusal.ensures) (put_refused c.args.actor c.args.id c.args.len c.in-Err.refused
      c.self.invariant (few_out c.self.view_is c.has_too_many_out.ensures.many.1 c.if-has_too_many_out.false)
      c.in-Err.ensures.err c.in-Err.ensures.under_err c.begin_put.ensures.kept c.in-Err.ensures.cause);
}

pub returns-in_default : goal.returns-in_default
returns-in_default c = record {
  begins = rw (← c.self.view_is) (
    few_out c.self.view_is c.has_too_many_out.ensures.many.1 c.if-has_too_many_out.false,
    put_dropped c.in-Ok.ensures.begins c.in-Ok.ensures.under c.begin_put.ensures.kept c.in-Ok.ensures.spares
        c.in_default.ensures c.give_up.ensures.parity c.give_up.ensures.births c.give_up.ensures.entries
        c.give_up.ensures.dropped c.give_up.ensures.under c.give_up.ensures.kept,
  );
}

pub invariant_of-self-2 : goal.invariant_of-self-2
invariant_of-self-2 c = put_begins_core c.self.invariant c.in-Ok.ensures.begins c.begin_put.ensures.stays
    c.in-Some.ensures.0 c.in-Some.ensures.1

pub returns : goal.returns
returns c = record {
  begins = rw (← c.self.view_is) (put_begins c.in-Ok.ensures.begins c.in-Ok.ensures.under c.begin_put.ensures.kept
      c.in-Ok.ensures.spares c.self.invariant
      (few_out c.self.view_is c.has_too_many_out.ensures.many.1 c.if-has_too_many_out.false) c.requires.some c.requires.few
      c.in-Ok.ensures.range c.in-Ok.ensures.under_way c.in-Some.ensures.0 c.in-Some.ensures.1 c.reflow.ensures.value);
}

pub invariant_of-self-in_default : goal.invariant_of-self-in_default
invariant_of-self-in_default c = let is = c.self.invariant in search (is.is, is.shared, is.copies, arith)
