use Rattle.std.proofs.Common.{ℕ, List, ◌++◌, sym, ◌∙◌, ap}
use Rattle.client_script.specs.Written.{Writing}
use Rattle.client_script.proofs.Writing.{gains_sent}
use Rattle.client_script.proofs.text_writer.TextWriter.pass.Goals as goal

pub returns-else-text-le-ROOM-clause-gains : goal.returns-else-text-le-ROOM-clause-gains
returns-else-text-le-ROOM-clause-gains g c =
    let same = ap (λ (w : Writing). w.failed) c.self.view_is in
    let hand = c.hand_over-self-inside.ensures in
    gains_sent _ _ _ _ _ _ (ap (λ (l : List ℕ). l ++ c.args.text.now) (sym c.requires))
    hand.whole (λ unfailed. hand.part (same ∙ unfailed)) (λ failed. hand.same (same ∙ failed))
    (ap (λ (w : Writing). w.waiting) c.self.view_is ∙ c.requires)
