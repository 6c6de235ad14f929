use Rattle.std.proofs.Common.{◌≡◌, ℕ, ◌-◌, ◌/◌, ◌^◌, ◌<◌, get_or, length}
use Rattle.gf_parity.specs.Field.{product}
use Rattle.gf_solve.proofs.products.times_each.Given as goal

-- the products with the highest bits so far
abbrev pub invariant-loop-bit : goal.invariant-loop-bit
invariant-loop-bit l = record {
  long : length l.sum ≡ 16;
  lanes : (lane : ℕ) → lane < 16 → get_or l.sum lane 0 ≡ product (get_or l.bytes lane 0) (l.factor / 2 ^ (8 - l.bit));
}
