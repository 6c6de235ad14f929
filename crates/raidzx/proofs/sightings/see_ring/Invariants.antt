use Rattle.std.specs.Prelude.{◌≡◌}
use Rattle.bank_trait.specs.Disk.{Unchanged}
use Rattle.raidzx.proofs.Seeing.{SeesSlots}
use Rattle.raidzx.proofs.sightings.see_ring.Given as goal

abbrev pub invariant-loop-slot : goal.invariant-loop-slot
invariant-loop-slot g l = record {
  unchanged : Unchanged (g.B.Bank.disk l.fn.bank) (g.B.Bank.disk l.bank);
  unread : l.sightings.unread ≡ l.fn.sightings.unread;
  sees : SeesSlots (g.B.Bank.disk l.fn.bank) l.place l.slot l.fn.sightings.list.items l.sightings.list.items;
}
