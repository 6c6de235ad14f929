use Rattle.std.proofs.Common.{◌≡◌, ◌+◌, ◌*◌, ◌<◌, ◌≤◌, length, ◌∙◌, ap, arith}
use Rattle.block_record.specs.Page.{index_page, page_sectors}
use Rattle.block_record.proofs.Sectors.{length-index_page}
use Rattle.uberblock_ring.specs.Uberblock.{area_sector}
use Rattle.core_open.proofs.PageReading.{compared_all, compared_more, compared_none}
use Rattle.core_open.proofs.index_page.holds_page.Goals as goal

pub loop-part-init : goal.loop-part-init
loop-part-init g c = compared_none (g.B.Bank.disk c.args.bank.now) c.args.device
    c.area_sector-first.result (index_page c.args.entries.now)

pub loop-part-preserved : goal.loop-part-preserved
loop-part-preserved g c =
    let old = g.B.Bank.disk c.args.bank.now in
    let mid = g.B.Bank.disk c.loop-part.bank in
    let new = g.B.Bank.disk c.read.new.self in
    let first = c.area_sector-first.result in
    let part = c.loop-part.part in
    let page = index_page c.args.entries.now in
    let area : first ≡ 64 + 64 * c.args.uber.now.area =
    c.area_sector-first.ensures.value ∙ ap area_sector c.area.ensures.value in
    let inside : first + part < old.sectors = omega (
      arith,
      area,
      c.requires.right.area,
      c.loop-part-test.true,
      c.page_sectors-part-end.ensures,
      c.requires.counted,
      c.requires.right.count,
      c.requires.sectors,
    ) in
    let long : 512 * part ≤ length page = omega (
      arith,
      length-index_page c.args.entries.now c.requires.index.each,
      c.loop-part-test.true,
      c.page_sectors-part-end.ensures,
    ) in
    compared_more old mid new c.args.device first part page c.read.new.into c.loop-part.same
    c.stays_same-same.result c.requires.device inside c.loop-part.invariant c.read.ensures.unchanged
    c.read.array_long c.in_ok-read.ensures.bytes long c.stays_same-same.ensures

pub returns-clause-compared : goal.returns-clause-compared
returns-clause-compared g c =
    let first = c.area_sector-first.result in
    let part = c.loop-part.part in
    let area : first ≡ area_sector c.args.uber.now.area =
    c.area_sector-first.ensures.value ∙ ap area_sector c.area.ensures.value in
    let long : part ≡ page_sectors (length c.args.entries.now) = omega (
      arith,
      c.loop-part-test.false,
      c.loop-part.auto.part-end,
      c.page_sectors-part-end.ensures,
    ) in
    compared_all c.args.uber.now (g.B.Bank.disk c.args.bank.now) (g.B.Bank.disk c.loop-part.bank)
    c.args.device first part c.args.entries.now c.loop-part.same c.requires.index c.requires.counted
    area long c.loop-part.invariant
