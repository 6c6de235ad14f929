use Rattle.std.proofs.Common.{◌<◌, [], ◌∷◌, ◌++◌, length, ◌∙◌, ap, arith}
use Rattle.std.proofs.lemmas.Result.{on_ok_weaker, on_err_weaker}
use Rattle.client_script.specs.Script.{Script}
use Rattle.client_script.proofs.Groups.{turns_then, placed_then, placed_still}
use Rattle.client_script.proofs.script.Script.push_call.Goals as goal

within : (c : goal.After-self-1) → c.args.actor < length c.self.inside.calls.items
within c =
    let same = ap (λ (s : Script). s.clients) c.self.view_is in
    omega (arith, c.requires, same, c.self.invariant.0, c.self.inside.calls.ok)

pub invariant_of-self : goal.invariant_of-self
invariant_of-self c = (
  omega (arith, c.self.invariant.0),
  turns_then _ _ _ _ _ c.args.call _ _ c.push_both.result c.from.ensures c.index_mut.ensures.value c.push_both.ensures.ok c.push_both.ensures.err (within c) c.self.invariant.1,
)

pub returns-clause-ok : goal.returns-clause-ok
returns-clause-ok c =
    on_ok_weaker c.push_both.result
    (λ e. (λ i. record { clients = c.self.inside.clients; calls = e i; order = c.self.inside.order.items })
    ∙ ap (λ (s : Script). record { clients = s.clients; calls = s.calls ++ record { actor = c.args.actor; call = c.args.call } ∷ []; order = s.order }) c.self.view_is)
    (placed_then _ _ _ _ _ c.args.call _ _ c.push_both.result c.from.ensures c.index_mut.ensures.value c.push_both.ensures.ok c.push_both.ensures.err (within c) c.self.invariant.1)

pub returns-clause-err : goal.returns-clause-err
returns-clause-err c =
    on_err_weaker c.push_both.result
    (λ e. (λ i. record { clients = c.self.inside.clients; calls = e i; order = c.self.inside.order.items }) ∙ c.self.view_is)
    (placed_still _ _ _ _ _ c.args.call _ _ c.push_both.result c.from.ensures c.index_mut.ensures.value c.push_both.ensures.ok c.push_both.ensures.err (within c) c.self.invariant.1)
