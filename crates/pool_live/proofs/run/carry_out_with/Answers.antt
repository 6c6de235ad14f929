use Rattle.std.proofs.Common.{◌≡◌, ◌⊎◌, inl, inr, ◌<◌, true, refl, sym, subst, arith}
use Rattle.std.specs.Prelude.{All}
use Rattle.reflow_mark.specs.Reflow.{Expands}
use Rattle.client_script.specs.Script.{IsAllowed, Script as ScriptOf}
use Rattle.core_open.specs.Pool.{first_item}
use Rattle.core_turns.specs.Core.{at_disk}
use Rattle.pool_live.specs.Widening.{TellsExpansion}
use Rattle.pool_live.proofs.Widening.{carried_alone, carried_as_they_came, left_undone, widening_actors}
use Rattle.pool_live.proofs.Widening.{widening_allowed, widening_not_alone}
use Rattle.pool_live.proofs.run.carry_out_with.Goals.{then-attaches-via-then-attaches}
use Rattle.pool_live.proofs.run.carry_out_with.Goals.{then-attaches-via-else-attaches+then-expands}
use Rattle.pool_live.proofs.run.carry_out_with.Goals as goal

pub returns-in_default : goal.returns-in_default
returns-in_default g c =
    left_undone c.args.script c.args.attaches (at_disk c.args.core (g.B.Bank.disk c.args.bank)) c.args.journal.items
    (elim c.then-attaches.branch [
      | then-attaches-via-then-attaches w ↦ inl w.if-attaches.true
      | then-attaches-via-else-attaches+then-expands w ↦ inr (subst Expands w.reflow.ensures.value
          (w.expands.ensures.value.0 w.if-expands.true))
    ])
    c.requires.rest c.requires.bank c.requires.none

pub carry_out_beside-requires-clause-allowed : goal.carry_out_beside-requires-clause-allowed
carry_out_beside-requires-clause-allowed g c κs within =
    subst (λ (s : ScriptOf). All (λ placed. IsAllowed placed.call) s.calls) (sym c.in-Ok.ensures.ok)
    (widening_allowed c.args.attaches c.args.script c.requires.allowed)

pub carry_out_beside-requires-clause-actors : goal.carry_out_beside-requires-clause-actors
carry_out_beside-requires-clause-actors g c κs within =
    subst (λ (s : ScriptOf). All (λ placed. placed.actor < s.clients) s.calls) (sym c.in-Ok.ensures.ok)
    (widening_actors c.args.attaches c.args.script c.requires.clients c.requires.actors)

pub returns-then-attaches : goal.returns-then-attaches
returns-then-attaches g c =
    let widens : (c.args.attaches ≡ true) ⊎ TellsExpansion (first_item c.args.core.pool) = elim c.then-attaches.branch [
      | then-attaches-via-then-attaches w ↦ inl w.if-attaches.true
      | then-attaches-via-else-attaches+then-expands w ↦ inr (subst Expands w.reflow.ensures.value
          (w.expands.ensures.value.0 w.if-expands.true))
    ] in
    let done = c.carry_out_beside in
    carried_as_they_came c.args.script c.add_copier.new.script c.args.attaches
    (at_disk c.args.core (g.B.Bank.disk c.args.bank)) c.args.journal.items done.result.ended done.result.turns
    (at_disk done.result.core (g.B.Bank.disk done.result.bank)) done.result.journal.items
    (inl (widens, c.in-Ok.ensures.ok))
    (widening_not_alone c.args.script c.args.attaches (first_item c.args.core.pool) widens)
    done.ensures.taken done.ensures.calls done.ensures.complete done.ensures.limit (λ is. (done.ensures.memory is).2)

pub returns-then-clients-le1 : goal.returns-then-clients-le1
returns-then-clients-le1 g c =
    let done = c.carry_out in
    carried_alone c.args.script c.args.attaches (at_disk c.args.core (g.B.Bank.disk c.args.bank)) c.args.journal.items
    done.result.ended done.result.turns (at_disk done.result.core (g.B.Bank.disk done.result.bank))
    done.result.journal.items c.if-attaches.false
    (λ widening. let is = c.expands.ensures.value.1 (subst Expands (sym c.reflow.ensures.value) widening) in
    let isnt = c.if-expands.false in cc)
    (let few = c.if-clients-le1.true in omega (arith, few, c.clients.ensures))
    done.ensures.taken done.ensures.calls done.ensures.complete

pub returns : goal.returns
returns g c =
    let done = c.carry_out_beside-2 in
    carried_as_they_came c.args.script c.args.script c.args.attaches
    (at_disk c.args.core (g.B.Bank.disk c.args.bank)) c.args.journal.items done.result.ended done.result.turns
    (at_disk done.result.core (g.B.Bank.disk done.result.bank)) done.result.journal.items
    (inr (
      c.if-attaches.false,
      (λ widening.
          let is = c.expands.ensures.value.1 (subst Expands (sym c.reflow.ensures.value) widening) in
          let isnt = c.if-expands.false in cc),
      refl,
    ))
    (λ alone. let few = alone.2 in let many = c.if-clients-le1.false in
    absurd (omega (arith, few, many, c.clients.ensures)))
    done.ensures.taken done.ensures.calls done.ensures.complete done.ensures.limit (λ is. (done.ensures.memory is).2)
