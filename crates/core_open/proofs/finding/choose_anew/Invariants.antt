use Rattle.std.proofs.Common.{◌≡◌, ◌-◌}
use Rattle.bank_trait.specs.Disk.{Unchanged}
use Rattle.uberblock_ring.specs.Devices.{count_below, IsWithin}
use Rattle.core_open.specs.Failing.{HaveFailedSince}
use Rattle.core_open.proofs.finding.choose_anew.Given as goal

abbrev pub invariant-loop-candidates : goal.invariant-loop-candidates
invariant-loop-candidates g l = record {
  unchanged : Unchanged (g.B.Bank.disk l.fn.bank) (g.B.Bank.disk l.bank);
  ubers : l.rings.ubers.items ≡ l.fn.rings.ubers.items;
  taken : l.rings.taken ≡ l.fn.rings.taken;
  within : IsWithin l.fn.rings.silent l.rings.silent;
  since : HaveFailedSince (g.B.Bank.disk l.fn.bank) (g.B.Bank.disk l.bank) l.fn.rings.silent l.rings.silent;
}

abbrev pub decreases-loop-candidates : goal.decreases-loop-candidates
decreases-loop-candidates g l = 16 - count_below l.rings.silent 16
