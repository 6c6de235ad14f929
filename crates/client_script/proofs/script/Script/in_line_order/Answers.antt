use Rattle.std.proofs.Common.{map, sym, ◌∙◌, ap}
use Rattle.client_script.specs.Script.{Script}
use Rattle.client_script.proofs.Groups.{actors_in_turn}
use Rattle.client_script.proofs.script.Script.in_line_order.Goals as goal

pub returns : goal.returns
returns c =
    c.as_slice.ensures.value ∙ sym (actors_in_turn _ _ c.self.invariant.1) ∙ ap (λ (s : Script). map (λ placed. placed.actor) s.calls) c.self.view_is
