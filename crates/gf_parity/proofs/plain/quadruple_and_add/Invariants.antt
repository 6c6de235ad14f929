use Rattle.std.proofs.Common.{◌≡◌, ℕ, ◌<◌, ◌≤◌, get_or}
use Rattle.std.specs.Prelude.{bit_xor}
use Rattle.gf_parity.specs.Field.{product}
use Rattle.gf_parity.proofs.plain.quadruple_and_add.Given as goal

-- the bytes so far are summed up, the others are as they were
abbrev pub invariant-loop-at : goal.invariant-loop-at
invariant-loop-at l = record {
  below : (k : ℕ) → k < l.at → get_or l.out k 0 ≡ bit_xor (product 4 (get_or l.fn.out k 0)) (product 1 (get_or l.column k 0));
  above : (k : ℕ) → l.at ≤ k → get_or l.out k 0 ≡ get_or l.fn.out k 0;
}
