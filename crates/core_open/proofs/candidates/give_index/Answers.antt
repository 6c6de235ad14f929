use Rattle.std.proofs.Common.{◌≡◌, Option, sym, subst, ◌∙◌, List}
use Rattle.std.specs.Prelude.{IfSome, Vec, IsTrue}
use Rattle.std.specs.declared.alloc.Global.{Global}
use Rattle.std.proofs.lemmas.Bool.{false≢true}
use Rattle.block_record.specs.declared.entry.IndexEntry.{IndexEntry}
use Rattle.core_state.specs.Index.{IsFitting}
use Rattle.core_open.specs.Holds.{shape_of}
use Rattle.core_open.specs.Pages.{IsGivenPage}
use Rattle.core_open.proofs.Asking.{given_once}
use Rattle.core_open.proofs.candidates.give_index.Goals as goal

pub returns-else-branch-clause-found : goal.returns-else-branch-clause-found
returns-else-branch-clause-found g c = λ image holds entries gives fitting.
    let old = g.B.Bank.disk c.args.bank.now in
    let given : IsGivenPage old c.args.uber.now c.args.device c.in-Ok-Some.entries.items =
    subst (λ (page : Option (Vec IndexEntry Global)). IfSome page (λ e. IsGivenPage old c.args.uber.now c.args.device e.items))
    c.in-Ok-Some.field-0-is c.in-Ok-Some.ensures.some in
    let same : entries ≡ c.in-Ok-Some.entries.items =
    given_once (shape_of old) image c.args.uber.now c.args.device _ _ gives (given.each image holds) in
    let tells : IsTrue c.in_ok-is_fitting-in-Ok-Some.field-0 = c.in_ok-is_fitting-in-Ok-Some.ensures.value.1
    (subst (λ (list : List IndexEntry). IsFitting c.args.uber.now list) (same ∙ sym c.deref.ensures.value) fitting) in
    false≢true (sym c.if-branch.false ∙ tells)
