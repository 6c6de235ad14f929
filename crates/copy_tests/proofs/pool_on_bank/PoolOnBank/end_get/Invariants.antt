use Rattle.core_turns.specs.Getting.{IsGetOf, IsReadKind}
use Rattle.copy_tests.proofs.pool_on_bank.PoolOnBank.end_get.Given as goal

abbrev pub invariant-loop : goal.invariant-loop
invariant-loop l = record { of : IsGetOf l.self.core l.run; kind : IsReadKind l.run.kind }
