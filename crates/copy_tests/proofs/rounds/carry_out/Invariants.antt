use Rattle.std.proofs.Common.{◌≡◌}
use Rattle.core_copy.specs.JobRun.{HoldsRead}
use Rattle.copy_tests.proofs.rounds.carry_out.Given as goal

abbrev pub invariant-loop : goal.invariant-loop
invariant-loop g l = (l.run.reflow.to ≡ 4) × (l.run.reflow.rows ≡ 64) × HoldsRead l.run
