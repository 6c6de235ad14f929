use Rattle.std.proofs.Common.{◌≡◌, ℕ, ◌<◌, ◌≤◌, false}
use Rattle.gf_solve.specs.Row.{is_masked}
use Rattle.gf_solve.proofs.looking.next_lost.Given as goal

-- none so far
abbrev pub invariant-loop-column : goal.invariant-loop-column
invariant-loop-column l = (other : ℕ) → l.from ≤ other → other < l.column → is_masked l.lost other ≡ false
