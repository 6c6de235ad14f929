use Rattle.std.proofs.Common.{◌≡◌, ℕ, ◌<◌, ◌≤◌, [], get_or, true, false}
use Rattle.gf_parity.specs.Parity.{parity_column}
use Rattle.gf_solve.specs.Row.{is_masked}
use Rattle.gf_solve.proofs.solving.fill_parities.Given as goal

-- the lost parities so far are made, the others are as they were
abbrev pub invariant-loop-which : goal.invariant-loop-which
invariant-loop-which l = record {
  filled : (k : ℕ) → k < l.which → is_masked l.lost k ≡ true → get_or l.parities k [] ≡ parity_column k l.content;
  same : (k : ℕ) → k < l.which → is_masked l.lost k ≡ false → get_or l.parities k [] ≡ get_or l.fn.parities k [];
  later : (k : ℕ) → l.which ≤ k → get_or l.parities k [] ≡ get_or l.fn.parities k [];
}
