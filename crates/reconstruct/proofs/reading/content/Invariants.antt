use Rattle.std.proofs.Common.{◌≡◌, ◌*◌, ◌<◌, length}
use Rattle.std.specs.Prelude.{min}
use Rattle.reconstruct.specs.Rows.{IsContent, AreFull}
use Rattle.reconstruct.proofs.reading.content.Given as goal

-- the sectors so far
abbrev pub invariant-loop-number : goal.invariant-loop-number
invariant-loop-number l = record {
  long : length l.bytes.items ≡ min l.len (512 * l.number);
  value : IsContent l.layout l.rows l.bytes.items;
  full : 0 < l.number → AreFull l.rows;
}
