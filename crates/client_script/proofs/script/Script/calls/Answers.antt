use Rattle.std.proofs.Common.{◌≡◌, length, get_or, sym, ◌∙◌, ap, arith}
use Rattle.client_script.specs.Script.{Script, calls_of}
use Rattle.client_script.specs.Grouped.{groups_of}
use Rattle.client_script.proofs.Groups.{Table, group_read, group_past, calls_in_turn}
use Rattle.client_script.proofs.script.Script.calls.Goals as goal

pub returns-in-Some : goal.returns-in-Some
returns-in-Some c =
    let read = c.in-Some.ensures.lookup in
    let table = c.self.inside.calls.items in
    let at_from : groups_of table c.from.result ≡ c.in-Some.calls.now.items =
    group_read table c.from.result c.in-Some.calls.now
    (omega (arith, read.3.0, ap length c.deref.ensures.value))
    (read.1 ∙ ap (λ (t : Table). get_or t c.from.result c.in-Some.calls.now) c.deref.ensures.value) in
    c.as_slice.ensures.value ∙ sym at_from ∙ ap (groups_of table) c.from.ensures
    ∙ sym (calls_in_turn _ _ c.args.actor c.self.invariant.1)
    ∙ ap (λ (s : Script). calls_of s c.args.actor) c.self.view_is

pub returns-in-None : goal.returns-in-None
returns-in-None c =
    let read = c.in-None.ensures.lookup in
    let table = c.self.inside.calls.items in
    sym (group_past table c.args.actor (omega (arith, read.3, c.from.ensures, ap length c.deref.ensures.value)))
    ∙ sym (calls_in_turn _ _ c.args.actor c.self.invariant.1)
    ∙ ap (λ (s : Script). calls_of s c.args.actor) c.self.view_is
