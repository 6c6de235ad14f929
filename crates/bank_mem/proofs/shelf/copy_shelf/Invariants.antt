use Rattle.std.proofs.Common.{◌≡◌, ◌<◌, ℕ, length}
use Rattle.bank_mem.specs.Record.{content}
use Rattle.bank_mem.proofs.shelf.copy_shelf.Given as goal

abbrev pub invariant-loop-row : goal.invariant-loop-row
invariant-loop-row l = record {
  len : length l.copy.items ≡ l.row-index;
  held : (d x : ℕ) → d < l.row-index → content l.copy.items d x ≡ content l.shelf d x;
}
