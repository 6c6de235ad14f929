use Rattle.std.proofs.Common.{sym, subst, ℕ}
use Rattle.client_script.specs.Texts.{devices_text}
use Rattle.client_script.specs.Written.{GainsText}
use Rattle.client_script.proofs.Writing.{gains_then}
use Rattle.raidzx_top.specs.declared.status.Status.{Status}
use Rattle.raidzx_top.specs.RunText.{status_line}
use Rattle.raidzx_top.proofs.report.put_status.Goals as goal

pub returns-in-ScriptFault-clause-gains : goal.returns-in-ScriptFault-clause-gains
returns-in-ScriptFault-clause-gains g c =
    subst (λ (s : Status). GainsText (g.K.Sink.held c.args.out.now) (g.K.Sink.held c.text-in-ScriptFault-2.new.out) c.args.writer.now c.text-in-ScriptFault-2.new.self (status_line s))
    (sym c.in-ScriptFault.is)
    (gains_then _ _ _ _ _ _ _ _ c.text-in-ScriptFault.ensures.gains
    (gains_then _ _ _ _ _ _ _ _ c.number.ensures.gains c.text-in-ScriptFault-2.ensures.gains))

pub returns-in-NotPool-clause-gains : goal.returns-in-NotPool-clause-gains
returns-in-NotPool-clause-gains g c =
    subst (λ (s : Status). GainsText (g.K.Sink.held c.args.out.now) (g.K.Sink.held c.text-in-NotPool.new.out) c.args.writer.now c.text-in-NotPool.new.self (status_line s))
    (sym c.in-NotPool.is) c.text-in-NotPool.ensures.gains

pub returns-in-TooManyFailed-clause-gains : goal.returns-in-TooManyFailed-clause-gains
returns-in-TooManyFailed-clause-gains g c =
    subst (λ (s : Status). GainsText (g.K.Sink.held c.args.out.now) (g.K.Sink.held c.text-in-TooManyFailed-2.new.out) c.args.writer.now c.text-in-TooManyFailed-2.new.self (status_line s))
    (sym c.in-TooManyFailed.is)
    (gains_then _ _ _ _ _ _ _ _ c.text-in-TooManyFailed.ensures.gains
    (gains_then _ _ _ _ _ _ _ _
    (subst (λ (n : ℕ). GainsText (g.K.Sink.held c.text-in-TooManyFailed.new.out) (g.K.Sink.held c.devices.new.out) c.text-in-TooManyFailed.new.self c.devices.new.self (devices_text n))
    c.bits.ensures.value c.devices.ensures.gains)
    c.text-in-TooManyFailed-2.ensures.gains))

pub returns-in-SourceFault-clause-gains : goal.returns-in-SourceFault-clause-gains
returns-in-SourceFault-clause-gains g c =
    subst (λ (s : Status). GainsText (g.K.Sink.held c.args.out.now) (g.K.Sink.held c.text-in-SourceFault.new.out) c.args.writer.now c.text-in-SourceFault.new.self (status_line s))
    (sym c.in-SourceFault.is) c.text-in-SourceFault.ensures.gains
