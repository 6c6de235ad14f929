use Rattle.std.proofs.lemmas.Result.{err_from_is_err_and}
use Rattle.block_record.proofs.Pages.{bad_is_no_page, bad_once, page_is, padding_here, page_same, refused_is_no_page}
use Rattle.block_record.proofs.Pages.{refused_there}
use Rattle.block_record.proofs.read.read_index.Goals as goal

pub returns-in_err-entries-clause-reads : goal.returns-in_err-entries-clause-reads
returns-in_err-entries-clause-reads c entries is =
    let p = err_from_is_err_and c.from_residual.result c.from_residual.ensures.1 in
    rw (p.1, p.2) (refused_is_no_page c.args.bytes.now c.args.count c.in_err-entries.field-0.0 entries c.in_err-entries.ensures.err is)

pub returns-in_err-entries-clause-refuses : goal.returns-in_err-entries-clause-refuses
returns-in_err-entries-clause-refuses c at_byte bad =
    let p = err_from_is_err_and c.from_residual.result c.from_residual.ensures.1 in
    rw (p.1, p.2) (refused_there c.args.bytes.now c.args.count c.in_err-entries.field-0.0 at_byte c.in_err-entries.ensures.err bad)

pub returns-in-Some-clause-reads : goal.returns-in-Some-clause-reads
returns-in-Some-clause-reads c entries is =
    absurd (bad_is_no_page c.args.bytes.now c.args.count c.in-Some.at_byte
    (padding_here c.args.bytes.now c.args.count c.in-Some.at_byte c.in_ok-entries.entries.items c.in_ok-entries.ensures.ok
    c.in_ok-entries.ensures.counted c.in-Some.ensures.within c.in-Some.ensures.wrong c.in-Some.ensures.some) entries is)

pub returns-in-Some-clause-refuses : goal.returns-in-Some-clause-refuses
returns-in-Some-clause-refuses c at_byte bad =
    bad_once c.args.bytes.now c.args.count c.in-Some.at_byte at_byte
    (padding_here c.args.bytes.now c.args.count c.in-Some.at_byte c.in_ok-entries.entries.items c.in_ok-entries.ensures.ok
    c.in_ok-entries.ensures.counted c.in-Some.ensures.within c.in-Some.ensures.wrong c.in-Some.ensures.some) bad

pub returns-in-None-clause-ok : goal.returns-in-None-clause-ok
returns-in-None-clause-ok c =
    page_is c.args.bytes.now c.args.count c.in_ok-entries.entries.items c.in_ok-entries.ensures.ok c.in_ok-entries.ensures.counted
    c.in-None.ensures.none c.requires.whole

pub returns-in-None-clause-reads : goal.returns-in-None-clause-reads
returns-in-None-clause-reads c entries is =
    page_same c.args.bytes.now c.args.count c.in_ok-entries.entries.items entries
    (page_is c.args.bytes.now c.args.count c.in_ok-entries.entries.items c.in_ok-entries.ensures.ok c.in_ok-entries.ensures.counted
    c.in-None.ensures.none c.requires.whole) is

pub returns-in-None-clause-refuses : goal.returns-in-None-clause-refuses
returns-in-None-clause-refuses c at_byte bad =
    bad_is_no_page c.args.bytes.now c.args.count at_byte bad c.in_ok-entries.entries.items
    (page_is c.args.bytes.now c.args.count c.in_ok-entries.entries.items c.in_ok-entries.ensures.ok c.in_ok-entries.ensures.counted
    c.in-None.ensures.none c.requires.whole)
