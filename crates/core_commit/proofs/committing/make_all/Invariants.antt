use Rattle.std.proofs.Common.{length}
use Rattle.std.specs.Prelude.{◌<◌, ◌^◌, All}
use Rattle.core_commit.specs.Ran.{Ran, IsCallInPool, FitsBank}
use Rattle.core_state.specs.Committing.{point_of}
use Rattle.core_commit.specs.Spared.{TouchesGroup, StopsInTime}
use Rattle.core_commit.proofs.committing.make_all.Given as goal

abbrev pub invariant-loop-call : goal.invariant-loop-call
invariant-loop-call g l = record {
  ran : Ran l.uber l.entries l.initial.calls (point_of l.initial.out (g.B.Bank.disk l.initial.bank)) l.calls
      (point_of l.out (g.B.Bank.disk l.bank));
  touches : TouchesGroup l.uber (point_of l.initial.out (g.B.Bank.disk l.initial.bank))
      (point_of l.out (g.B.Bank.disk l.bank));
  stops : StopsInTime l.uber.parity (point_of l.initial.out (g.B.Bank.disk l.initial.bank))
      (point_of l.out (g.B.Bank.disk l.bank));
  fits : FitsBank l.uber l.entries l.out (g.B.Bank.disk l.bank);
  inside : All (IsCallInPool l.uber) l.calls;
  below : l.out < 2 ^ l.uber.reflow.to;
}

abbrev pub decreases-loop-call : goal.decreases-loop-call
decreases-loop-call g l = length l.calls
