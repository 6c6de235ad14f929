use Rattle.std.proofs.Common.{◌≡◌, ◌≤◌}
use Rattle.gf_solve.specs.Row.{is_masked, count_lost}
use Rattle.gf_solve.proofs.looking.lost_among.Given as goal

-- those so far
abbrev pub invariant-loop-column : goal.invariant-loop-column
invariant-loop-column l = record {
  counted : l.count ≡ count_lost (is_masked l.lost) 0 l.column;
  few : l.count ≤ l.column;
}
