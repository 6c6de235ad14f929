use Rattle.std.proofs.Common.{ltb, rules}
use Rattle.std.proofs.lemmas.List.Sorted.{IsPartitionPoint-from_clause, IsPartitionedBy-ltb}
use Rattle.block_record.specs.declared.entry.IndexEntry.{IndexEntry}
use Rattle.block_table.proofs.Orders.{index_rises, parted_halved, place_found}
use Rattle.block_table.proofs.places.place_of.Goals as goal

pub returns-clause-place : goal.returns-clause-place
returns-clause-place c =
    let parted = IsPartitionedBy-ltb (λ (e : IndexEntry). e.id) _ c.args.id (index_rises c.args.entries.now c.requires.index) in
    place_found c.args.entries.now c.args.id _ (parted_halved c.args.entries.now c.args.id _ c.partition_point.ensures.bound
    (IsPartitionPoint-from_clause (λ (e : IndexEntry). ltb e.id c.args.id) _ _ c.partition_point.ensures.partitioned parted
    (λ a r q k. search rules)))
