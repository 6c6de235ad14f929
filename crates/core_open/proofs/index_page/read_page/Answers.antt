use Rattle.std.proofs.Common.{ap, ◌∙◌}
use Rattle.std.proofs.lemmas.Option.{IfSome_then}
use Rattle.block_record.specs.Page.{page_sectors}
use Rattle.uberblock_ring.specs.Uberblock.{area_sector}
use Rattle.core_open.proofs.PageReading.{none_then, page_given, page_not_given, page_sectors_are}
use Rattle.core_open.proofs.index_page.read_page.Goals as goal

pub returns-clause-some : goal.returns-clause-some
returns-clause-some g c =
    let uber = c.args.uber.now in
    let disk = g.B.Bank.disk c.args.bank.now in
    let device = c.args.device in
    let bytes = c.deref.result.now in
    let area = c.area_sector-first.ensures.value ∙ ap area_sector c.area.ensures.value in
    let long = c.page_sectors-count.ensures ∙ ap page_sectors c.count.ensures.value in
    let are = page_sectors_are uber disk device _ _ _ bytes area long c.deref.ensures.value
    c.in_ok-page.ensures.ok in
    IfSome_then c.in_ok-entries.entries c.in_ok-entries.ensures.some
    (λ entries recorded.
    page_given uber disk device bytes entries.items c.requires.device are (λ image holds. recorded.digest)
    recorded.page)

pub returns-clause-none : goal.returns-clause-none
returns-clause-none g c =
    let uber = c.args.uber.now in
    let disk = g.B.Bank.disk c.args.bank.now in
    let device = c.args.device in
    let bytes = c.deref.result.now in
    let area = c.area_sector-first.ensures.value ∙ ap area_sector c.area.ensures.value in
    let long = c.page_sectors-count.ensures ∙ ap page_sectors c.count.ensures.value in
    let are = page_sectors_are uber disk device _ _ _ bytes area long c.deref.ensures.value
    c.in_ok-page.ensures.ok in
    none_then c.in_ok-entries.entries c.in_ok-entries.ensures.none
    (page_not_given uber disk device bytes are)
