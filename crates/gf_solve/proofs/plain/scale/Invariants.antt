use Rattle.std.proofs.Common.{◌≡◌, ℕ, ◌<◌, ◌≤◌, get_or}
use Rattle.gf_parity.specs.Field.{product}
use Rattle.gf_solve.proofs.plain.scale.Given as goal

-- the bytes so far are multiplied, the others are as they were
abbrev pub invariant-loop-byte : goal.invariant-loop-byte
invariant-loop-byte l = record {
  below : (k : ℕ) → k < l.byte-index → get_or l.out k 0 ≡ product l.factor (get_or l.fn.out k 0);
  bytes : (k : ℕ) → k < l.byte-index → get_or l.fn.out k 0 < 256;
  above : (k : ℕ) → l.byte-index ≤ k → get_or l.out k 0 ≡ get_or l.fn.out k 0;
}
