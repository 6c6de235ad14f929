use Rattle.std.proofs.Common.{refl, sym, ◌∙◌, ap}
use Rattle.std.proofs.lemmas.List.{append-nil}
use Rattle.client_script.specs.Written.{Writing}
use Rattle.client_script.proofs.Writing.{gains_sent}
use Rattle.client_script.proofs.text_writer.TextWriter.flush.Goals as goal

pub returns-clause-gains : goal.returns-clause-gains
returns-clause-gains g c =
    let same = ap (λ (w : Writing). w.failed) c.self.view_is in
    let hand = c.hand_over-self-inside.ensures in
    gains_sent _ _ _ _ _ _ (ap (λ (w : Writing). w.waiting) c.self.view_is ∙ sym (append-nil c.args.self.now.waiting))
    hand.whole (λ unfailed. hand.part (same ∙ unfailed)) (λ failed. hand.same (same ∙ failed)) refl
