use Rattle.std.proofs.lemmas.Result.{IfOk-weaker}
use Rattle.core_open.specs.Lacking.{GivesOrLacks}
use Rattle.core_open.specs.Pages.{IsComparedPage}
use Rattle.core_open.proofs.Lacking.{compared_gives}
use Rattle.core_open.proofs.page_lack.gives_page.Goals as goal

pub holds_page-requires-clause-index : goal.holds_page-requires-clause-index
holds_page-requires-clause-index g c = c.requires.given.index

pub holds_page-requires-clause-counted : goal.holds_page-requires-clause-counted
holds_page-requires-clause-counted g c = c.requires.given.counted

pub returns-clause-gives : goal.returns-clause-gives
returns-clause-gives g c =
    let disk = g.B.Bank.disk c.args.bank.now in
    let uber = c.args.uber.now in
    let device = c.args.device in
    let entries = c.args.entries.now in
    IfOk-weaker c.holds_page.result (IsComparedPage disk uber device entries)
    (GivesOrLacks disk uber device entries)
    (λ same compared. compared_gives disk uber c.args.giver device entries same c.requires.given
    c.requires.device compared)
    c.holds_page.ensures.compared
