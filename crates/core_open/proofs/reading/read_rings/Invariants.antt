use Rattle.bank_trait.specs.Disk.{Image, Unchanged}
use Rattle.core_open.specs.RingUbers.{AreByDevice, AreRight, AreShown, AreTaken}
use Rattle.core_open.specs.Failing.{HaveFailed}
use Rattle.core_open.specs.Holds.{HoldsImage, shape_of}
use Rattle.core_open.proofs.reading.read_rings.Given as goal

abbrev pub invariant-loop-device : goal.invariant-loop-device
invariant-loop-device g l = record {
  unchanged : Unchanged (g.B.Bank.disk l.fn.bank) (g.B.Bank.disk l.bank);
  silent : HaveFailed (g.B.Bank.disk l.fn.bank) (g.B.Bank.disk l.bank) l.rings.silent;
  right : AreRight l.device l.rings.ubers.items;
  order : AreByDevice l.rings.ubers.items;
  shown : (image : Image) → HoldsImage (g.B.Bank.disk l.fn.bank) image
      → AreShown (shape_of (g.B.Bank.disk l.fn.bank)) l.rings.silent image l.device l.rings.ubers.items;
  taken : (image : Image) → HoldsImage (g.B.Bank.disk l.fn.bank) image
      → AreTaken (shape_of (g.B.Bank.disk l.fn.bank)) l.rings.silent image l.device l.rings.taken;
}
