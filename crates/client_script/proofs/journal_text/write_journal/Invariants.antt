use Rattle.std.proofs.Common.{take}
use Rattle.client_script.specs.Texts.{lines_from}
use Rattle.client_script.specs.Written.{GainsText, FailsOnlyWithFault}
use Rattle.client_script.proofs.journal_text.write_journal.Given as goal

abbrev pub invariant-loop-number : goal.invariant-loop-number
invariant-loop-number g l = record {
  gains : GainsText (g.K.Sink.held l.initial.out) (g.K.Sink.held l.out) l.initial.writer l.writer (lines_from 0 (take l.number l.journal.items));
  cause : FailsOnlyWithFault (g.K.Sink.faults l.initial.out) (g.K.Sink.faults l.out) l.initial.writer l.writer;
}
