-- The first uberblock of a pool is right.
use Rattle.std.proofs.Common.{ℕ, ◌^◌, ◌<◌, [], arith, inl, refl}
use Rattle.uberblock_ring.specs.Uberblock.{first_uber}
use Rattle.uberblock_ring.specs.Valid.{IsPoolShape, IsRightUber}
use Rattle.uberblock_ring.proofs.DeviceSets.{count_none}
use Rattle.uberblock_ring.proofs.Digest.{sha256_is_digest}
use Rattle.std.proofs.Math.Nat.{one-le-pow}

pub first_right : (pool parity width rows : ℕ) → pool < 2 ^ 64 → IsPoolShape parity width rows → IsRightUber (first_uber pool parity width rows)
first_right pool parity width rows fits shape = record {
  pool = fits;
  group = (omega arith, omega arith);
  parity = shape.few_lost;
  widths = shape.wide;
  rows = shape.high;
  reflow = inl (refl, refl, refl);
  area = omega arith;
  out = (omega (arith, one-le-pow width 2 (omega arith)), omega (arith, count_none width));
  count = omega arith;
  digest = sha256_is_digest [];
  births = record { growing = (refl, tt); few = omega arith; wide = shape.wide.0; last = refl; begun = (omega arith, tt) };
}
