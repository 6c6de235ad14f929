use Rattle.bank_trait.specs.Disk.{Unchanged}
use Rattle.raidzx.proofs.after.tell_taken.Given as goal

abbrev pub invariant-loop-item : goal.invariant-loop-item
invariant-loop-item g l = Unchanged (g.B.Bank.disk l.fn.bank) (g.B.Bank.disk l.bank)
