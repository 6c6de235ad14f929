use Rattle.core_turns.specs.Committing.{IsCommitOf}
use Rattle.copy_tests.proofs.pool_on_bank.PoolOnBank.end_commit.Given as goal

abbrev pub invariant-loop : goal.invariant-loop
invariant-loop l = IsCommitOf l.self.core l.run
