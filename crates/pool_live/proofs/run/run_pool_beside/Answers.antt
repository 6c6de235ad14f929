use Rattle.std.proofs.Common.{◌∙◌, ◌++◌, ◌∷◌, [], ⊎_elim, List, ap, refl, subst, sym}
use Rattle.core_state.specs.declared.item.Group.{Group as GroupItem}
use Rattle.core_state.specs.declared.item.Item.{Item}
use Rattle.core_state.specs.declared.item.Item.TheVariants.{Group}
use Rattle.core_open.specs.Pool.{first_item}
use Rattle.core_turns.specs.Core.{Core, at_disk, HasBankOf}
use Rattle.schedule.specs.declared.whole_run.Ran.{Ran}
use Rattle.schedule.specs.InTurn.{InOrder, replay_at}
use Rattle.schedule.specs.Turns.{turns_of}
use Rattle.schedule.specs.WholeRun.{first_turns}
use Rattle.schedule.proofs.run.Opened.{resting}
use Rattle.schedule.proofs.run.Whole.{ends_taken, has_run, has_run_counted, has_run_in_turn, turns_counted}
use Rattle.pool_live.specs.Sharing.{AnswersNone}
use Rattle.pool_live.specs.Widening.{IsAlone, IsCarriedWith, IsScriptWith}
use Rattle.pool_live.proofs.Sharing.{counted_first}
use Rattle.pool_live.proofs.Widening.{group_answers_none, one_first}
use Rattle.pool_live.proofs.run.run_pool_beside.Goals as goal

pub carry_out_with-requires-clause-bank : goal.carry_out_with-requires-clause-bank
carry_out_with-requires-clause-bank g c κs within =
    subst (λ (core : Core). HasBankOf core (g.B.Bank.disk c.open_pool.new.bank)) (sym c.new-core.ensures)
    c.in-Ok.ensures.bank

pub returns-clause-run : goal.returns-clause-run
returns-clause-run g c =
    let script = c.args.script in
    let attaches = c.args.attaches in
    let old = g.B.Bank.disk c.args.bank in
    let mid = g.B.Bank.disk c.open_pool.new.bank in
    let pool = c.in-Ok.opened.pool in
    let opened = c.in-Ok.ensures in
    let carried = c.carry_out_with in
    let final = at_disk carried.result.core (g.B.Bank.disk carried.result.bank) in
    let items = carried.result.journal.items in
    let ended = carried.result.ended in
    let turns = carried.result.turns in
    let first = c.list.ensures.items ∙ ap (λ (l : List Item). l ++ Group c.first_item.result ∷ []) c.requires.empty
    ∙ ap (λ (group : GroupItem). Group group ∷ []) c.first_item.ensures in
    let with = subst
    (λ (core : Core). IsCarriedWith script attaches (at_disk core mid) (Group (first_item pool) ∷ []) ended turns final items)
    c.new-core.ensures
    (subst (λ (l : List Item). IsCarriedWith script attaches (at_disk c.new-core.result mid) l ended turns final items)
    first carried.ensures) in
    let ran : Ran = record { ended = ended; turns = turns; out = final.core.pool.out } in
    rw c.of.ensures (⊎_elim
    (λ is_alone.
    let alone = is_alone.1 in
    let start = first_turns with.carried (at_disk (resting pool) mid) (first_item pool) in
    let has = has_run_in_turn alone.passed
    opened.later opened.only opened.silent opened.few opened.missed opened.renews opened.writes opened.out opened.begins
    opened.rest opened.bank opened.right opened.loaded
    (ends_taken with.carried (replay_at start 0 (InOrder [])) (replay_at (turns_of final items alone.clients) turns alone.cursor)
    alone.passed ended alone.ends)
    alone.come with.calls alone.cursor
    alone.ends in
    record {
      carried = with.carried;
      run = has.run;
      carried_is = subst (λ (group : GroupItem). IsScriptWith script attaches group with.carried)
          (one_first items (first_item pool) has.run.opened (alone.come.journal.listed 0 (Group (first_item pool)) refl) has.run.opens.there)
          with.carried_is;
      counted = turns_counted ran has.turns;
      complete = with.complete;
      limit = with.limit;
      taken = λ is. has.turns;
    })
    (λ beside.
    let taken = beside.1 in
    let has = has_run taken.passed opened.later
    opened.only opened.silent opened.few opened.missed opened.renews opened.writes opened.out opened.begins opened.rest
    opened.bank opened.right opened.loaded taken.taken taken.come with.calls in
    let same = one_first items has.opened (first_item pool) has.opens.there (taken.come.journal.listed 0 (Group (first_item pool)) refl) in
    record {
      carried = with.carried;
      run = has;
      carried_is = subst (λ (group : GroupItem). IsScriptWith script attaches group with.carried) (sym same) with.carried_is;
      counted = has_run_counted taken.passed
          opened.later opened.only opened.silent opened.few opened.missed opened.renews opened.writes opened.out
          opened.begins opened.rest opened.bank opened.right opened.loaded taken.taken taken.come with.calls
          (counted_first turns taken.passed taken.counted);
      complete = with.complete;
      limit = with.limit;
      taken = λ is. absurd (beside.0 (subst (λ (group : GroupItem). IsAlone script attaches group) same is));
    })
    with.taken)

pub returns-clause-memory : goal.returns-clause-memory
returns-clause-memory g c =
    rw c.of.ensures (λ exhausted. subst AnswersNone
    (sym (c.carry_out_with.ensures.memory exhausted ∙ c.list.ensures.items
    ∙ ap (λ (l : List Item). l ++ Group c.first_item.result ∷ []) c.requires.empty))
    (group_answers_none c.first_item.result))
