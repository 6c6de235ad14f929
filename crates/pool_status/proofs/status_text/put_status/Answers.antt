use Rattle.std.proofs.Common.{ℕ, List, ◌∙◌, subst}
use Rattle.std.specs.Prelude.{flat_map, decimal}
use Rattle.width_map.specs.declared.birth.Birth.{Birth}
use Rattle.reflow_mark.specs.declared.reflow.Reflow.{Reflow}
use Rattle.client_script.specs.Written.{GainsText}
use Rattle.client_script.proofs.Writing.{gains_then}
use Rattle.pool_status.specs.StatusText.{width_text, birth_text}
use Rattle.pool_status.proofs.status_text.put_status.Goals as goal

pub returns-clause-gains : goal.returns-clause-gains
returns-clause-gains g c =
    let width =
    subst (λ (r : Reflow). GainsText (g.K.Sink.held c.text.new.out) (g.K.Sink.held c.put_width.new.out) c.text.new.self c.put_width.new.writer (width_text r))
    c.reflow.ensures.value c.put_width.ensures.gains in
    let births =
    subst (λ (l : List Birth). GainsText (g.K.Sink.held c.text-2.new.out) (g.K.Sink.held c.put_births.new.out) c.text-2.new.self c.put_births.new.writer (flat_map birth_text l))
    (c.as_slice.ensures.value ∙ c.births.ensures.value) c.put_births.ensures.gains in
    let count =
    subst (λ (n : ℕ). GainsText (g.K.Sink.held c.text-4.new.out) (g.K.Sink.held c.number.new.out) c.text-4.new.self c.number.new.self (decimal n))
    (c.from.ensures ∙ c.count.ensures.value) c.number.ensures.gains in
    gains_then _ _ _ _ _ _ _ _
    (gains_then _ _ _ _ _ _ _ _
    (gains_then _ _ _ _ _ _ _ _
    (gains_then _ _ _ _ _ _ _ _
    (gains_then _ _ _ _ _ _ _ _
    (gains_then _ _ _ _ _ _ _ _
    (gains_then _ _ _ _ _ _ _ _
    (gains_then _ _ _ _ _ _ _ _
    (gains_then _ _ _ _ _ _ _ _ c.put_pool.ensures.gains c.text.ensures.gains)
    width) c.text-2.ensures.gains) births) c.text-3.ensures.gains) c.put_out.ensures.gains)
    c.text-4.ensures.gains) count) c.text-5.ensures.gains
