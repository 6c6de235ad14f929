use Rattle.std.proofs.Common.{◌≡◌, arith, add-one, subst, eq-eqb, ne_eqb}
use Rattle.client_script.specs.Texts.{numbers_text, devices_in}
use Rattle.client_script.specs.Written.{GainsText}
use Rattle.client_script.proofs.Texts.{devices_more, devices_same}
use Rattle.client_script.proofs.Writing.{gains_then, blames_then}
use Rattle.client_script.proofs.text_writer.TextWriter.devices.Goals as goal
use Rattle.client_script.proofs.text_writer.TextWriter.devices.Goals.{then-devices-device-eq1, else-devices-device-eq1}

pub loop-device-preserved : goal.loop-device-preserved
loop-device-preserved g c =
    elim c.if-devices-device-eq1.branch [
      | then-devices-device-eq1 w ↦
          rw (w.out-is, w.self-is) record {
            gains = rw (add-one, devices_more c.args.devices c.loop-device.device (eq-eqb _ 1 w.if-devices-device-eq1.true))
                (gains_then _ _ _ _ _ _ _ _ c.loop-device.invariant.gains (gains_then _ _ _ _ _ _ _ _ w.text.ensures.gains w.number.ensures.gains));
            cause = blames_then _ _ _ _ _ _ c.loop-device.invariant.cause (blames_then _ _ _ _ _ _ w.text.ensures.cause w.number.ensures.cause);
          }
      | else-devices-device-eq1 w ↦
          rw (w.out-is, w.self-is) record {
            gains = rw (add-one, devices_same c.args.devices c.loop-device.device (ne_eqb _ 1 w.if-devices-device-eq1.false)) c.loop-device.invariant.gains;
            cause = c.loop-device.invariant.cause;
          }
    ]

pub returns-clause-gains : goal.returns-clause-gains
returns-clause-gains g c =
    let all : c.loop-device.device ≡ 64 = omega (arith, c.loop-device.auto.device-end, c.loop-device-test.false) in
    subst (λ n. GainsText (g.K.Sink.held c.args.out.now) (g.K.Sink.held c.loop-device.out) c.args.self.now c.loop-device.self (numbers_text (devices_in c.args.devices n)))
    all c.loop-device.invariant.gains
