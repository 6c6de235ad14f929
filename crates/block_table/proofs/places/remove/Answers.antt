use Rattle.block_table.proofs.Lookups.{found_at, missing_at, remove_found, remove_missing}
use Rattle.block_table.proofs.places.remove.Goals as goal

pub returns-in-Ok-clause-was : goal.returns-in-Ok-clause-was
returns-in-Ok-clause-was c =
    found_at c.args.entries.now.items c.deref.result.now c.args.id c.in-Ok.place c.remove.result c.deref.ensures.value
    c.in-Ok.ensures.found c.remove.ensures.value

pub returns-in-Ok-clause-index : goal.returns-in-Ok-clause-index
returns-in-Ok-clause-index c =
    (remove_found c.args.entries.now.items c.deref.result.now c.remove.new.self.items c.args.id c.in-Ok.place c.remove.result
    c.deref.ensures.value c.in-Ok.ensures.found c.requires.index c.remove.ensures.items).0

pub returns-in-Ok-clause-change : goal.returns-in-Ok-clause-change
returns-in-Ok-clause-change c =
    (remove_found c.args.entries.now.items c.deref.result.now c.remove.new.self.items c.args.id c.in-Ok.place c.remove.result
    c.deref.ensures.value c.in-Ok.ensures.found c.requires.index c.remove.ensures.items).1

pub returns-in-Err-clause-was : goal.returns-in-Err-clause-was
returns-in-Err-clause-was c =
    missing_at c.args.entries.now.items c.deref.result.now c.args.id c.in-Err.field-0 c.deref.ensures.value c.in-Err.ensures.missing

pub returns-in-Err-clause-change : goal.returns-in-Err-clause-change
returns-in-Err-clause-change c =
    remove_missing c.args.entries.now.items c.deref.result.now c.args.id c.in-Err.field-0 c.deref.ensures.value c.in-Err.ensures.missing
