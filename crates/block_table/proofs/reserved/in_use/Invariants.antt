use Rattle.std.proofs.Common.{◌≡◌, ◌+◌, ◌++◌, ◌≤◌, drop, length}
use Rattle.std.specs.Prelude.{nat_eq}
use Rattle.std.specs.Set.{distinct_count}
use Rattle.block_table.specs.Table.{ids_of}
use Rattle.block_table.proofs.reserved.in_use.Given as goal

abbrev pub invariant-loop-index : goal.invariant-loop-index
invariant-loop-index l = record {
  few : l.count ≤ length l.fn.entries + l.index;
  counted : l.count + distinct_count nat_eq (drop l.index l.fn.reserved ++ ids_of l.fn.entries)
      ≡ length l.fn.entries + distinct_count nat_eq (l.fn.reserved ++ ids_of l.fn.entries);
}
