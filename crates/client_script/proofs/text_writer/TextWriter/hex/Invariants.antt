use Rattle.std.proofs.Common.{◌-◌, ◌≤◌, length, take}
use Rattle.client_script.specs.Lines.{hex_text}
use Rattle.client_script.specs.Written.{GainsText, FailsOnlyWithFault}
use Rattle.client_script.proofs.text_writer.TextWriter.hex.Given as goal

abbrev pub invariant-loop-done : goal.invariant-loop-done
invariant-loop-done g l = record {
  within : l.done ≤ length l.bytes;
  gains : GainsText (g.K.Sink.held l.initial.out) (g.K.Sink.held l.out) l.initial.self l.self (hex_text (take l.done l.bytes));
  cause : FailsOnlyWithFault (g.K.Sink.faults l.initial.out) (g.K.Sink.faults l.out) l.initial.self l.self;
}

abbrev pub decreases-loop-done : goal.decreases-loop-done
decreases-loop-done g l = length l.bytes - l.done
