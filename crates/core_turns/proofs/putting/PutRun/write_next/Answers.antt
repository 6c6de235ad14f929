use Rattle.core_turns.proofs.put.Goes.{has_left, put_writes_next}
use Rattle.core_turns.proofs.putting.PutRun.write_next.Goals as goal

pub step-requires-clause-inside : goal.step-requires-clause-inside
step-requires-clause-inside g c = c.requires.inside c.in-Some.filled c.in-Some.is

pub returns : goal.returns
returns g c = put_writes_next _ _ c.in-Some.is (has_left c.args.self.now c.in-Some.is c.requires.left)
    c.step.ensures.step c.step.ensures.next
