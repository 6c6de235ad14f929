use Rattle.std.proofs.Common.{Option, ap, refl}
use Rattle.std.specs.Prelude.{is_some}
use Rattle.block_record.specs.declared.entry.IndexEntry.{IndexEntry}
use Rattle.block_table.proofs.Lookups.{found_held, missing_at}
use Rattle.block_table.proofs.places.holds.Goals as goal

pub returns-in-Ok : goal.returns-in-Ok
returns-in-Ok c = record { value = found_held c.args.entries.now c.args.id c.in-Ok.field-0 c.in-Ok.ensures.found }

pub returns-in-Err : goal.returns-in-Err
returns-in-Err c = record {
  value = ap (λ (o : Option IndexEntry). is_some o)
      (missing_at c.args.entries.now c.args.entries.now c.args.id c.in-Err.field-0 refl c.in-Err.ensures.missing);
}
