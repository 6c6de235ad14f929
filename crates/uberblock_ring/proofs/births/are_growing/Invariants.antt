use Rattle.std.proofs.Common.{drop}
use Rattle.width_map.specs.Births.{GrowFrom, IsGrowing}
use Rattle.uberblock_ring.proofs.births.are_growing.Given as goal

abbrev pub invariant-loop-next : goal.invariant-loop-next
invariant-loop-next l = record {
  enough : GrowFrom l.before (drop l.next-index l.next-items) → IsGrowing l.fn.births;
  needed : IsGrowing l.fn.births → GrowFrom l.before (drop l.next-index l.next-items);
}
