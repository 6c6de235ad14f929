use Rattle.std.proofs.Common.{◌≡◌, Some}
use Rattle.core_blocks.specs.Blocks.{IsUnderWay}
use Rattle.core_turns.specs.declared.filling.Filled.{Filled}
use Rattle.core_turns.specs.Putting.{IsPutOf}
use Rattle.copy_tests.proofs.pool_on_bank.PoolOnBank.end_put.Given as goal

abbrev pub invariant-loop : goal.invariant-loop
invariant-loop l = record {
  of : IsPutOf l.self.core l.run;
  under_way : IsUnderWay l.self.core.pool.blocks l.run.range;
  filled : (filled : Filled) × (l.run.filled ≡ Some filled);
}
