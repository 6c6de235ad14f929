use Rattle.std.proofs.Common.{ℕ, List, ◌++◌, length, take, ◌∙◌, ap, arith}
use Rattle.std.proofs.lemmas.Slice.{take-put_mid}
use Rattle.client_script.specs.Lines.{hex_text}
use Rattle.client_script.specs.Written.{Writing}
use Rattle.client_script.proofs.Hexes.{length_of_hex}
use Rattle.client_script.proofs.Writing.{gains_waiting}
use Rattle.client_script.proofs.text_writer.TextWriter.keep_hex.Goals as goal

pub returns-clause-gains : goal.returns-clause-gains
returns-clause-gains c = λ sink.
    gains_waiting sink _ _ _ (ap (λ (w : Writing). w.failed) c.self.view_is)
    (take-put_mid c.self.inside.used _ c.self.inside.buffer c.spell.new.digits _
    (omega (arith, ap length c.spell.ensures, length_of_hex c.args.bytes.now)) (omega (arith, c.self.told, c.self.invariant))
    ∙ ap (λ (l : List ℕ). take c.self.inside.used c.self.inside.buffer ++ l) c.spell.ensures
    ∙ ap (λ (w : Writing). w.waiting ++ hex_text c.args.bytes.now) c.self.view_is)
