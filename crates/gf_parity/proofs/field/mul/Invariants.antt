use Rattle.std.proofs.Common.{◌≡◌, ◌-◌, ◌/◌, ◌^◌}
use Rattle.gf_parity.specs.Field.{product}
use Rattle.gf_parity.proofs.field.mul.Given as goal

-- the product with the highest bits so far
abbrev pub invariant-loop-bit : goal.invariant-loop-bit
invariant-loop-bit l = l.sum ≡ product l.left (l.right / 2 ^ (8 - l.bit))
