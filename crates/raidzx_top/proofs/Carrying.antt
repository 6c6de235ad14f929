-- A script that is carried out, whoever's turns they are, or for which no pool was opened.
use Rattle.std.proofs.Common.{◌≡◌, ◌⊎◌, ⊎_elim, ◌<◌, ◌≤◌, List, Bool, Result, Ok, Err, refl, sym, subst}
use Rattle.std.specs.Prelude.{All, IfErr, IfOk}
use Rattle.bank_trait.specs.Disk.{Disk, Unchanged}
use Rattle.core_state.specs.declared.item.Item.{Item}
use Rattle.core_state.specs.Journal.{IsComplete}
use Rattle.core_open.specs.Causes.{IsOpenCause}
use Rattle.core_open.specs.Opens.{IsForMemory, LeavesOthers}
use Rattle.core_open.specs.declared.why.OpenWhy.{OpenWhy}
use Rattle.core_open.specs.Opening.{CutsOpening, LeavesUnopened}
use Rattle.core_state.specs.declared.item.Group.{Group as GroupItem}
use Rattle.client_script.specs.Script.{IsAllowed, Script, asked_by}
use Rattle.schedule.specs.declared.whole_run.Ended.TheVariants.{Whole, Limit}
use Rattle.schedule.specs.declared.whole_run.Ran.{Ran}
use Rattle.schedule.specs.Turns.{most_turns}
use Rattle.schedule.specs.WholeRun.{HasRunInTurn}
use Rattle.schedule.proofs.run.Whole.{turns_counted}
use Rattle.pool_live.specs.Widening.{HasRunBeside}
use Rattle.pool_live.proofs.Widening.{carried_actors, widening_allowed}
use Rattle.raidzx_top.specs.declared.order.Order.{Order}
use Rattle.raidzx_top.specs.declared.order.Order.TheVariants.{AsTheyCome, AsListed}
use Rattle.raidzx_top.specs.Order.{IsCarriedBy}
use Rattle.raidzx_top.specs.Running.{HasCarried, IsUnopened}
use Rattle.raidzx_top.proofs.Telling.{ended_whole}

-- Each call that was carried out is allowed, where those of the script are.
pub carried_allowed : (order : Order) (script carried : Script) (opened : GroupItem) → IsCarriedBy order script opened carried
    → All (λ placed. IsAllowed placed.call) script.calls → All (λ placed. IsAllowed placed.call) carried.calls
carried_allowed (AsTheyCome attaches) script carried opened is allowed = ⊎_elim
    (λ widens. subst (λ (s : Script). All (λ placed. IsAllowed placed.call) s.calls) (sym widens.1)
    (widening_allowed attaches script allowed))
    (λ same. subst (λ (s : Script). All (λ placed. IsAllowed placed.call) s.calls) (sym same.2) allowed) is
carried_allowed AsListed script carried opened is allowed =
    subst (λ (s : Script). All (λ placed. IsAllowed placed.call) s.calls) (sym is) allowed

-- Each call that was carried out is that of a client.
pub carried_actors_in : (order : Order) (script carried : Script) (opened : GroupItem)
    → IsCarriedBy order script opened carried → script.clients ≤ 8
    → All (λ placed. placed.actor < script.clients) script.calls
    → All (λ placed. placed.actor < carried.clients) carried.calls
carried_actors_in (AsTheyCome attaches) script carried opened is few actors =
    carried_actors script carried attaches opened is few actors
carried_actors_in AsListed script carried opened is few actors =
    subst (λ (s : Script). All (λ placed. placed.actor < s.clients) s.calls) (sym is) actors

-- Each turn was that of the client whose turn it was.
pub carried_in_turn : (script : Script) (old new : Disk) (items : List Item) (result : Result Ran OpenWhy)
    → IfOk result (HasRunInTurn script script.order old new items)
    → IfOk result (λ ran. ran.ended ≡ Whole → IsComplete (asked_by script) items)
    → IfOk result (λ ran. ran.ended ≡ Limit → most_turns ≤ ran.turns)
    → IfOk result (HasCarried AsListed script old new items)
carried_in_turn script old new items (Ok ran) has complete limit = record {
  calls = record { carried = script; run = has.run; carried_is = refl };
  turns = record { counted = turns_counted ran has.turns; taken = λ in_turn. has.turns };
  complete = λ memory limit. complete (ended_whole ran memory limit);
  used_up = limit;
}
carried_in_turn script old new items (Err why) has complete limit = tt

-- The clients had their turns as they came.
pub carried_beside : (attaches : Bool) (script : Script) (old new : Disk) (items : List Item) (result : Result Ran OpenWhy)
    → IfOk result (HasRunBeside script attaches old new items)
    → IfOk result (HasCarried (AsTheyCome attaches) script old new items)
carried_beside attaches script old new items (Ok ran) has = record {
  calls = record { carried = has.carried; run = has.run; carried_is = has.carried_is };
  turns = record { counted = has.counted; taken = has.taken };
  complete = λ memory limit. has.complete (ended_whole ran memory limit);
  used_up = has.limit;
}
carried_beside attaches script old new items (Err why) has = tt

pub was_unopened : (old new : Disk) (result : Result Ran OpenWhy) → IfErr result (IsOpenCause old new)
    → IfErr result (λ why. Unchanged old new ⊎ CutsOpening old new)
    → IfErr result (λ why. LeavesUnopened why old new) → IfErr result (λ why. LeavesOthers old new)
    → IfErr result (IsForMemory old new) → IfErr result (IsUnopened old new)
was_unopened old new (Ok ran) cause cut untouched others opens = tt
was_unopened old new (Err why) cause cut untouched others opens =
    record { cause = cause; cut = cut; untouched = untouched; others = others; opens = opens }
