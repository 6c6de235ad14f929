use Rattle.std.proofs.Common.{refl}
use Rattle.block_table.proofs.Lookups.{found_read, missing_at}
use Rattle.block_table.proofs.places.find.Goals as goal

pub returns-in-Ok : goal.returns-in-Ok
returns-in-Ok c = record { value = found_read c.args.entries.now c.args.id c.in-Ok.place _ c.in-Ok.ensures.found }

pub returns-in-Err : goal.returns-in-Err
returns-in-Err c = record {
  value = missing_at c.args.entries.now c.args.entries.now c.args.id c.in-Err.field-0 refl c.in-Err.ensures.missing;
}
