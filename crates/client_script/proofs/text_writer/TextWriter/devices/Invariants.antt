use Rattle.client_script.specs.Texts.{numbers_text, devices_in}
use Rattle.client_script.specs.Written.{GainsText, FailsOnlyWithFault}
use Rattle.client_script.proofs.text_writer.TextWriter.devices.Given as goal

abbrev pub invariant-loop-device : goal.invariant-loop-device
invariant-loop-device g l = record {
  gains : GainsText (g.K.Sink.held l.initial.out) (g.K.Sink.held l.out) l.initial.self l.self (numbers_text (devices_in l.devices l.device));
  cause : FailsOnlyWithFault (g.K.Sink.faults l.initial.out) (g.K.Sink.faults l.out) l.initial.self l.self;
}
