use Rattle.std.proofs.Common.{List, [], refl, sym, subst}
use Rattle.core_state.specs.declared.item.Item.{Item}
use Rattle.core_state.specs.Journal.{CallsAreRight}
use Rattle.client_script.specs.Script.{asked_by}
use Rattle.core_turns.specs.Core.{at_disk}
use Rattle.schedule.specs.Replaying.{blank_clients}
use Rattle.schedule.specs.Turns.{turns_of}
use Rattle.schedule.proofs.run.AtRest.{ready_at_rest, schedule_at_rest}
use Rattle.schedule.proofs.run.Coming.{came_nowhere}
use Rattle.pool_live.specs.Sharing.{HasCarriedOut}
use Rattle.pool_live.proofs.beside.carry_out_beside.Goals as goal

pub returns-in_default-clause-taken : goal.returns-in_default-clause-taken
returns-in_default-clause-taken g c =
    let script = c.args.script.now in
    let state = at_disk c.args.core (g.B.Bank.disk c.args.bank) in
    let start = turns_of state c.args.journal.items (blank_clients script.clients) in
    subst (λ (items : List Item). HasCarriedOut script start 0 state items 0) (sym c.begin.ensures.same) (record {
      passed = [];
      clients = blank_clients script.clients;
      taken = tt;
      come = came_nowhere refl;
      counted = refl;
    })

pub returns-in_default-clause-calls : goal.returns-in_default-clause-calls
returns-in_default-clause-calls g c =
    subst (λ (items : List Item). CallsAreRight (asked_by c.args.script.now) items) (sym c.begin.ensures.same)
    (schedule_at_rest c.args.script.now c.args.script.now.clients c.requires.rest c.requires.bank
    c.requires.none).answered.right

pub share-requires-clause-ready : goal.share-requires-clause-ready
share-requires-clause-ready g c κs within = ready_at_rest c.in-Ok.progress c.requires.rest c.requires.bank c.requires.none
    c.begin.ensures.same c.in-Ok.ensures.clients c.in-Ok.ensures.room
