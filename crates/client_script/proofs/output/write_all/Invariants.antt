use Rattle.std.proofs.Common.{◌≤◌, length}
use Rattle.client_script.proofs.Sending.{IsWrittenTo}
use Rattle.client_script.proofs.output.write_all.Given as goal

abbrev pub invariant-loop-rest : goal.invariant-loop-rest
invariant-loop-rest g l = record {
  later : g.K.Sink.faults l.fn.out ≤ g.K.Sink.faults l.out;
  so_far : IsWrittenTo l.text l.rest (g.K.Sink.held l.fn.out) (g.K.Sink.held l.out);
}

abbrev pub decreases-loop-rest : goal.decreases-loop-rest
decreases-loop-rest g l = length l.rest
