use Rattle.std.proofs.Common.{[], subst}
use Rattle.client_script.specs.Lines.{hex_text}
use Rattle.client_script.specs.Written.{Writing, GainsText}
use Rattle.client_script.proofs.Writing.{gains_then}
use Rattle.client_script.proofs.text_writer.TextWriter.piece.Goals as goal
use Rattle.client_script.proofs.text_writer.TextWriter.piece.Goals.{then-bytes-self, else-bytes-self}

pub returns-clause-gains : goal.returns-clause-gains
returns-clause-gains g c =
    elim c.if-bytes-self.branch [
      | then-bytes-self w ↦
          rw (w.out-is) (gains_then _ _ _ _ _ _ [] _ w.flush.ensures.gains
          (subst (λ (s : Writing). GainsText (g.K.Sink.held w.flush.new.out) (g.K.Sink.held w.flush.new.out) s c.keep_hex.new.self (hex_text c.args.bytes.now)) w.self-is (c.keep_hex.ensures.gains _)))
      | else-bytes-self w ↦
          rw (w.out-is) (subst (λ (s : Writing). GainsText (g.K.Sink.held c.args.out.now) (g.K.Sink.held c.args.out.now) s c.keep_hex.new.self (hex_text c.args.bytes.now)) w.self-is (c.keep_hex.ensures.gains _))
    ]
