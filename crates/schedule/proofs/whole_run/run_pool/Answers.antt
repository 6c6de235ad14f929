use Rattle.schedule.proofs.Words.{◌∙◌, ◌++◌, ◌∷◌, [], List, ap, subst, Item, Group, first_item, at_disk, InOrder}
use Rattle.schedule.proofs.Words.{replay_at, CarriesOut, Turns, turns_of, first_turns}
use Rattle.core_state.specs.declared.item.Group.{Group as GroupItem}
use Rattle.schedule.proofs.run.Opened.{begins_first, resting}
use Rattle.schedule.proofs.run.Whole.{ends_taken, has_run_in_turn}
use Rattle.schedule.proofs.whole_run.run_pool.Goals as goal

pub returns-clause-run : goal.returns-clause-run
returns-clause-run g c =
    let script = c.args.script.now in
    let old = g.B.Bank.disk c.args.bank in
    let mid = g.B.Bank.disk c.open_pool.new.bank in
    let pool = c.in-Ok.opened.pool in
    let opened = c.in-Ok.ensures in
    let carried = c.carry_out.result in
    let final = at_disk carried.core (g.B.Bank.disk carried.bank) in
    let items = carried.journal.items in
    let start = first_turns script (at_disk (resting pool) mid) (first_item pool) in
    let out = subst (λ (turns : Turns). CarriesOut script c.args.listed.now turns carried.ended carried.turns final
    items) (begins_first script mid c.new-core.ensures
    (c.list.ensures.items ∙ ap (λ (l : List Item). l ++ Group c.first_item.result ∷ []) c.requires.empty
    ∙ ap (λ (group : GroupItem). Group group ∷ []) c.first_item.ensures)) c.carry_out.ensures.taken in
    rw c.of.ensures (has_run_in_turn out.passed opened.later
    opened.only opened.silent opened.few opened.missed opened.renews opened.writes opened.out opened.begins opened.rest
    opened.bank opened.right opened.loaded (ends_taken script (replay_at start 0 (InOrder c.args.listed.now))
    (replay_at (turns_of final items out.clients) carried.turns out.cursor) out.passed carried.ended out.ends)
    out.come c.carry_out.ensures.calls out.cursor out.ends)
