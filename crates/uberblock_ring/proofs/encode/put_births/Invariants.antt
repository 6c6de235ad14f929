use Rattle.std.proofs.Common.{◌≡◌, ◌+◌, ◌*◌, ◌++◌, take, length}
use Rattle.std.specs.Prelude.{flat_map}
use Rattle.uberblock_ring.specs.Uberblock.{birth_bytes}
use Rattle.uberblock_ring.proofs.encode.put_births.Given as goal

abbrev pub invariant-loop-birth : goal.invariant-loop-birth
invariant-loop-birth l = record {
  len : length l.sector ≡ length l.fn.sector + 12 * l.birth-index;
  bytes : l.sector ≡ l.fn.sector ++ flat_map birth_bytes (take l.birth-index l.births);
}
