use Rattle.std.proofs.Common.{ℕ, ◌<◌}
use Rattle.bank_trait.specs.Disk.{Unchanged}
use Rattle.raidzx.specs.Rings.{SlotShowsNone}
use Rattle.raidzx.proofs.seen.first_seen.Given as goal

abbrev pub invariant-loop-slot : goal.invariant-loop-slot
invariant-loop-slot g l = record {
  unchanged : Unchanged (g.B.Bank.disk l.fn.bank) (g.B.Bank.disk l.bank);
  none : (slot : ℕ) → slot < l.slot → SlotShowsNone (g.B.Bank.disk l.fn.bank) l.device l.first l.end slot;
}
