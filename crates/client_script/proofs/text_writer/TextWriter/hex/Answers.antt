use Rattle.std.proofs.Common.{◌≡◌, ℕ, ◌+◌, ◌-◌, ◌≤◌, List, take, sym, ◌∙◌, ap, subst, arith}
use Rattle.client_script.specs.Lines.{hex_text}
use Rattle.client_script.specs.Written.{GainsText}
use Rattle.client_script.proofs.Texts.{hex_run}
use Rattle.client_script.proofs.Writing.{gains_then, blames_then}
use Rattle.client_script.proofs.text_writer.TextWriter.hex.Goals as goal

pub loop-done-preserved : goal.loop-done-preserved
loop-done-preserved g c =
    let bytes = c.args.bytes.now in
    let done = c.loop-done.done in
    let end = c.min-end.result in
    let low : done ≤ end = omega (arith, c.min-end.ensures, c.loop-done-test.true) in
    let whole : done + (end - done) ≡ end = omega (arith, low) in
    record {
      within = omega (arith, c.min-end.ensures);
      gains = subst (λ (l : List ℕ). GainsText (g.K.Sink.held c.args.out.now) (g.K.Sink.held c.piece.new.out) c.args.self.now c.piece.new.self l)
          (sym (ap (λ n. hex_text (take n bytes)) (sym whole) ∙ hex_run bytes done (end - done)))
          (gains_then _ _ _ _ _ _ _ _ c.loop-done.invariant.gains c.piece.ensures.gains);
      cause = blames_then _ _ _ _ _ _ c.loop-done.invariant.cause c.piece.ensures.cause;
    }
