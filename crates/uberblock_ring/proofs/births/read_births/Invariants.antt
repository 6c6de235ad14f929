use Rattle.std.proofs.Common.{◌≡◌, ◌*◌, length, take}
use Rattle.std.specs.Prelude.{flat_map}
use Rattle.uberblock_ring.specs.Header.{FitBirths}
use Rattle.uberblock_ring.specs.Uberblock.{birth_bytes}
use Rattle.uberblock_ring.proofs.births.read_births.Given as goal

abbrev pub invariant-loop-index : goal.invariant-loop-index
invariant-loop-index l = record {
  room : length l.births ≡ 16;
  fits : FitBirths (take l.index l.births);
  bytes : take (12 * l.index) l.fn.bytes ≡ flat_map birth_bytes (take l.index l.births);
}
