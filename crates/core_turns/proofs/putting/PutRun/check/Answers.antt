use Rattle.core_turns.proofs.put.Goes.{has_left, put_checks}
use Rattle.core_turns.proofs.putting.PutRun.check.Goals as goal

pub check-requires-clause-inside : goal.check-requires-clause-inside
check-requires-clause-inside g c = c.requires.inside c.in-Some.filled c.in-Some.is

pub returns : goal.returns
returns g c = put_checks _ _ c.in-Some.is (has_left c.args.self.now c.in-Some.is c.requires.left)
    c.check.ensures.checks c.check.ensures.stays c.check.ensures.next
