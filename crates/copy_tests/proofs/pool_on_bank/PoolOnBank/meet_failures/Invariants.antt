use Rattle.core_turns.specs.declared.copying.CopyRun.{CopyRun}
use Rattle.core_turns.specs.Copying.{IsJobOf}
use Rattle.core_turns.specs.Getting.{IsGetOf}
use Rattle.copy_tests.proofs.pool_on_bank.PoolOnBank.meet_failures.Given as goal

abbrev pub invariant-loop : goal.invariant-loop
invariant-loop l = record {
  of : IsGetOf l.self.core l.run;
  jobs : (job : CopyRun) → IsJobOf l.fn.self.core job → IsJobOf l.self.core job;
}
