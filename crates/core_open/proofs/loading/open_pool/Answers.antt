use Rattle.std.proofs.Common.{◌∙◌, ap, rules}
use Rattle.std.specs.Prelude.{IfErr}
use Rattle.shadow_write.specs.Required.{front_after_stop}
use Rattle.core_open.specs.Opens.{LeavesBank}
use Rattle.core_open.proofs.Begins.{loaded_of, renews_loaded, begun_is_pool, begins, refused_cuts, memory_cuts}
use Rattle.core_open.proofs.loading.open_pool.Goals as goal

pub returns-in_err-opened-clause-cut : goal.returns-in_err-opened-clause-cut
returns-in_err-opened-clause-cut g c =
    let leaves : IfErr c.from_residual.result
    (λ why. LeavesBank why (g.B.Bank.disk c.args.bank.now) (g.B.Bank.disk c.open.new.bank)) = search rules in
    refused_cuts c.from_residual.result (g.B.Bank.disk c.args.bank.now) (g.B.Bank.disk c.open.new.bank)
    leaves

pub returns-in_err-blocks-clause-cut : goal.returns-in_err-blocks-clause-cut
returns-in_err-blocks-clause-cut g c = memory_cuts c.from_residual-in_err-blocks.result c.in_ok-opened.opened.uber
    c.in_ok-opened.opened.silent c.in_ok-opened.opened.out
    (g.B.Bank.disk c.args.bank.now) (g.B.Bank.disk c.open.new.bank) c.in_ok-opened.ensures.silent
    c.in_ok-opened.ensures.out c.in_ok-opened.ensures.few c.in_ok-opened.ensures.missed c.in_ok-opened.ensures.since
    c.in_ok-opened.ensures.only c.in_ok-opened.ensures.writes

pub invariant_of-result : goal.invariant_of-result
invariant_of-result g c = begun_is_pool c.in_ok-opened.opened.uber c.in_ok-opened.opened.entries.items _
    c.in_ok-opened.opened.out c.front_after_stop-done.result c.in_ok-opened.ensures.right c.in_ok-opened.ensures.index
    (loaded_of c.deref.ensures.value c.in_ok-blocks.ensures.loaded) c.in_ok-opened.ensures.below
    c.in_ok-opened.ensures.out.lists (c.front_after_stop-done.ensures ∙ ap front_after_stop c.reflow.ensures.value)

pub returns-clause-begins : goal.returns-clause-begins
returns-clause-begins g c = record {
  each = λ setting first later may missed within. begins setting first later c.in_ok-opened.opened.uber
      c.in_ok-opened.opened.entries.items _ c.in_ok-opened.opened.out
      (g.B.Bank.disk c.args.bank.now) (g.B.Bank.disk c.open.new.bank) may c.in_ok-opened.ensures.right
      c.in_ok-opened.ensures.index (loaded_of c.deref.ensures.value c.in_ok-blocks.ensures.loaded)
      c.in_ok-opened.opened.silent (c.in_ok-opened.ensures.kept.kept setting first later may.may missed within)
      (g.met.B.Bank.lawful c.open.new.bank) c.in_ok-opened.ensures.spares.later c.in_ok-opened.ensures.bank
      c.in_ok-opened.ensures.out.lists c.front_after_stop-done.result
      (c.front_after_stop-done.ensures ∙ ap front_after_stop c.reflow.ensures.value);
}

pub returns-clause-renews : goal.returns-clause-renews
returns-clause-renews g c image holds = renews_loaded (loaded_of c.deref.ensures.value c.in_ok-blocks.ensures.loaded)
    (c.in_ok-opened.ensures.renews image holds)
