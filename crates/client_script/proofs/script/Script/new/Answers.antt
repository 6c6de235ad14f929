use Rattle.std.proofs.Common.{◌≡◌, ℕ, length, arith, ap, sym, subst, List, []}
use Rattle.std.proofs.lemmas.List.{length-map, length-replicate}
use Rattle.client_script.specs.declared.call.ScriptCall.{ScriptCall}
use Rattle.client_script.specs.Grouped.{HasTurns, groups_of}
use Rattle.client_script.proofs.Groups.{no_turns}
use Rattle.client_script.proofs.script.Script.new.Goals as goal

pub invariant_of-result : goal.invariant_of-result
invariant_of-result c =
    let count : c.loop-client._client ≡ c.args.clients = omega (arith, c.loop-client-test.false, c.loop-client.auto._client-end) in (
      omega (arith, c.loop-client.calls.ok, count, ap length c.loop-client.invariant, length-map c.loop-client.calls.items (λ list. list.items), length-replicate {A = List ScriptCall} c.loop-client._client []),
      subst (λ (l : List ℕ). HasTurns l (groups_of c.loop-client.calls.items)) (sym c.new-2.ensures.items) (no_turns c.loop-client.calls.items c.loop-client._client c.loop-client.invariant),
    )
