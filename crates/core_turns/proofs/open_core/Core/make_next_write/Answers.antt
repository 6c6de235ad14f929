use Rattle.core_turns.proofs.Words.{refl}
use Rattle.core_turns.proofs.state.Cores.{few_out}
use Rattle.core_turns.proofs.put.Goes.{put_inside, put_writes_core}
use Rattle.core_turns.proofs.open_core.Core.make_next_write.Goals as goal

pub write_next-requires-clause-inside : goal.write_next-requires-clause-inside
write_next-requires-clause-inside g c = λ filled some. put_inside (rw (← c.self.view_is) at c.requires.of) some
    c.self.invariant (rw (← c.self.view_is) at c.requires.bank)

pub invariant_of-self : goal.invariant_of-self
invariant_of-self g c = put_writes_core c.self.invariant (rw (← c.self.view_is) at c.requires.of) c.write_next.ensures

pub returns-clause-writes : goal.returns-clause-writes
returns-clause-writes g c = rw (← c.self.view_is) (record {
  few = few_out c.self.view_is c.has_too_many_out.ensures.many.1 c.if-has_too_many_out.false;
  writes = c.write_next.ensures;
  rest = refl;
})
