use Rattle.block_table.proofs.Lookups.{found_at, missing_at, put_found, put_missing}
use Rattle.block_table.proofs.places.put.Goals as goal

pub returns-in-Ok-clause-was : goal.returns-in-Ok-clause-was
returns-in-Ok-clause-was c =
    found_at c.args.entries.now.items c.deref.result.now c.args.entry.id c.in-Ok.place c.index-was.result.now c.deref.ensures.value
    c.in-Ok.ensures.found c.index-was.ensures

pub returns-in-Ok-clause-index : goal.returns-in-Ok-clause-index
returns-in-Ok-clause-index c =
    (put_found c.args.entries.now.items c.deref.result.now c.in-Ok.place c.args.entry c.deref.ensures.value c.in-Ok.ensures.found
    c.requires.index c.requires.right).0

pub returns-in-Ok-clause-change : goal.returns-in-Ok-clause-change
returns-in-Ok-clause-change c =
    (put_found c.args.entries.now.items c.deref.result.now c.in-Ok.place c.args.entry c.deref.ensures.value c.in-Ok.ensures.found
    c.requires.index c.requires.right).1

pub returns-in-Ok-insert-clause-was : goal.returns-in-Ok-insert-clause-was
returns-in-Ok-insert-clause-was c =
    missing_at c.args.entries.now.items c.deref.result.now c.args.entry.id c.in-Err.place c.deref.ensures.value c.in-Err.ensures.missing

pub returns-in-Ok-insert-clause-index : goal.returns-in-Ok-insert-clause-index
returns-in-Ok-insert-clause-index c =
    (put_missing c.args.entries.now.items c.deref.result.now c.insert.new.self.items c.in-Err.place c.args.entry c.deref.ensures.value
    c.in-Err.ensures.missing c.requires.index c.requires.right c.in-Ok-insert.ensures.items).0

pub returns-in-Ok-insert-clause-change : goal.returns-in-Ok-insert-clause-change
returns-in-Ok-insert-clause-change c =
    (put_missing c.args.entries.now.items c.deref.result.now c.insert.new.self.items c.in-Err.place c.args.entry c.deref.ensures.value
    c.in-Err.ensures.missing c.requires.index c.requires.right c.in-Ok-insert.ensures.items).1
