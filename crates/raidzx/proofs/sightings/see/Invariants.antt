use Rattle.bank_trait.specs.Disk.{Unchanged}
use Rattle.raidzx.proofs.Seeing.{AreSeenBefore}
use Rattle.raidzx.proofs.sightings.see.Given as goal

abbrev pub invariant-loop-place : goal.invariant-loop-place
invariant-loop-place g l = record {
  unchanged : Unchanged (g.B.Bank.disk l.fn.bank) (g.B.Bank.disk l.bank);
  seen : AreSeenBefore (g.B.Bank.disk l.fn.bank) (g.B.Bank.disk l.bank) l.place l.sightings;
}
