use Rattle.std.proofs.Common.{sym, subst, arith, ◌+◌, ◌<◌}
use Rattle.core_open.proofs.PageReading.{IsReadTo, read_more}
use Rattle.core_open.proofs.index_page.read_sectors.Goals as goal

pub loop-part-preserved : goal.loop-part-preserved
loop-part-preserved g c =
    let old = g.B.Bank.disk c.args.bank.now in
    let mid = g.B.Bank.disk c.loop-part.bank in
    let new = g.B.Bank.disk c.read.new.self in
    let device = c.args.device in
    let first = c.args.first in
    let part = c.loop-part.part in
    let inside : first + part < old.sectors =
    omega (arith, c.requires.sectors, c.requires.before_data) in
    let more = read_more old mid new device first part c.loop-part.bytes.items c.read.new.into
    c.requires.device inside c.loop-part.invariant c.read.ensures.unchanged c.read.array_long
    c.in_ok-read.ensures.bytes in
    subst (IsReadTo old device first (part + 1) new) (sym c.in_ok-extend_from_slice.ensures.items)
    more
