use Rattle.std.proofs.Common.{ap, refl}
use Rattle.block_table.specs.Table.{Table}
use Rattle.core_blocks.proofs.Loaded.{has_room, loaded_more}
use Rattle.core_blocks.proofs.loading.table_of.Goals as goal

pub reserve-requires : goal.reserve-requires
reserve-requires c = record {
  room = has_room c.args.entries.now c.loop-entry.entry-index _ c.loop-entry.table
      c.requires.index c.requires.few c.loop-entry-test.true c.loop-entry.invariant;
}

pub loop-entry-preserved : goal.loop-entry-preserved
loop-entry-preserved c =
    loaded_more c.args.entries.now c.loop-entry.entry-index _ _ c.loop-entry.table
    c.reserve.new.table c.put.new.self c.requires.index c.loop-entry-test.true refl
    c.loop-entry.invariant (ap (λ (t : Table). t.entries) c.in_ok-reserve.ensures.ok)
    (ap (λ (t : Table). t.reserved) c.in_ok-reserve.ensures.ok) c.put.ensures.change
    c.put.ensures.reserved
