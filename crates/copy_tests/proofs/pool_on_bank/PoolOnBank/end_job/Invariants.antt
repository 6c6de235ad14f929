use Rattle.core_turns.specs.Copying.{IsJobOf}
use Rattle.copy_tests.proofs.pool_on_bank.PoolOnBank.end_job.Given as goal

abbrev pub invariant-loop : goal.invariant-loop
invariant-loop l = IsJobOf l.self.core l.run
