use Rattle.std.proofs.Common.{◌≡◌}
use Rattle.bank_trait.specs.Disk.{Image}
use Rattle.core_open.specs.RingUbers.{AreTaken}
use Rattle.core_open.specs.Holds.{HoldsImage, shape_of}
use Rattle.core_open.proofs.ReadTo.{IsReading}
use Rattle.core_open.proofs.Taken.{IsTakenTo}
use Rattle.core_open.proofs.reading.read_ring.Given as goal

abbrev pub invariant-loop-slot : goal.invariant-loop-slot
invariant-loop-slot g l = record {
  reading : IsReading l.device l.slot l.fn.rings.silent (g.B.Bank.disk l.fn.bank) (g.B.Bank.disk l.bank)
      l.fn.rings.ubers.items l.rings.ubers.items;
  taking : (image : Image) → HoldsImage (g.B.Bank.disk l.fn.bank) image
      → AreTaken (shape_of (g.B.Bank.disk l.fn.bank)) l.fn.rings.silent image l.device l.fn.rings.taken
      → IsTakenTo (shape_of (g.B.Bank.disk l.fn.bank)) l.fn.rings.silent image l.device l.slot l.rings.taken;
  same : l.rings.silent ≡ l.fn.rings.silent;
}
