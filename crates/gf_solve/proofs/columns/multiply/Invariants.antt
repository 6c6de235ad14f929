use Rattle.std.proofs.Common.{◌≡◌, ℕ, ◌*◌, ◌<◌, ◌≤◌, get_or}
use Rattle.gf_parity.specs.Field.{product}
use Rattle.gf_solve.proofs.columns.multiply.Given as goal

-- the bytes so far are multiplied, the others are as they were
abbrev pub invariant-loop-part : goal.invariant-loop-part
invariant-loop-part l = record {
  below : (place : ℕ) → place < l.part * 16 → get_or l.out place 0 ≡ product l.factor (get_or l.fn.out place 0);
  above : (place : ℕ) → l.part * 16 ≤ place → get_or l.out place 0 ≡ get_or l.fn.out place 0;
}
