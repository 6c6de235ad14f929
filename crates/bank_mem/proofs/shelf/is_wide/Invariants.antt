use Rattle.std.proofs.Common.{◌≡◌, ◌<◌, ℕ, Some, slice_get, length, Vec, List}
use Rattle.std.specs.declared.alloc.Global.{Global}
use Rattle.bank_mem.proofs.shelf.is_wide.Given as goal

abbrev pub invariant-loop-row : goal.invariant-loop-row
invariant-loop-row l = (d : ℕ) (v : Vec (List ℕ) Global) → d < l.row-index → slice_get l.shelf d ≡ Some v
    → length v.items ≡ l.sectors
