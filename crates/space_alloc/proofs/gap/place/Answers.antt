use Rattle.std.proofs.Common.{ltb, rules}
use Rattle.std.proofs.lemmas.List.Sorted.{IsPartitionPoint-from_clause, IsPartitionedBy-ltb}
use Rattle.space_alloc.specs.declared.entry.Entry.{Entry}
use Rattle.space_alloc.proofs.Places.{begins_rise, place_halved}
use Rattle.space_alloc.proofs.gap.place.Goals as goal

pub returns : goal.returns
returns c =
    let parted = IsPartitionedBy-ltb (λ (e : Entry). e.start) _ c.args.start
    (λ i j default order within. begins_rise c.args.entries.now i j default default c.requires order within) in
    place_halved c.args.entries.now c.args.start _ c.partition_point.ensures.bound
    (IsPartitionPoint-from_clause (λ (e : Entry). ltb e.start c.args.start) _ _ c.partition_point.ensures.partitioned parted
    (λ a r q k. search rules))
