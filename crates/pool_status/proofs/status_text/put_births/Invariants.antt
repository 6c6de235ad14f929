use Rattle.std.proofs.Common.{take}
use Rattle.std.specs.Prelude.{flat_map}
use Rattle.client_script.specs.Written.{GainsText, FailsOnlyWithFault}
use Rattle.pool_status.specs.StatusText.{birth_text}
use Rattle.pool_status.proofs.status_text.put_births.Given as goal

abbrev pub invariant-loop-birth : goal.invariant-loop-birth
invariant-loop-birth g l = record {
  gains : GainsText (g.K.Sink.held l.initial.out) (g.K.Sink.held l.out) l.initial.writer l.writer (flat_map birth_text (take l.birth-index l.births));
  cause : FailsOnlyWithFault (g.K.Sink.faults l.initial.out) (g.K.Sink.faults l.out) l.initial.writer l.writer;
}
