use Rattle.bank_trait.specs.Disk.{Image, Unchanged}
use Rattle.core_open.specs.Candidates.{FirstFits, FirstHasRoom, FirstIsGiven}
use Rattle.core_open.specs.Holds.{HoldsImage, shape_of}
use Rattle.core_open.proofs.Newest.{AreFrom, AreNewestOf}
use Rattle.core_open.proofs.choice.newest_candidates.Given as goal

abbrev pub invariant-loop-ring_uber : goal.invariant-loop-ring_uber
invariant-loop-ring_uber g l = record {
  unchanged : Unchanged (g.B.Bank.disk l.fn.bank) (g.B.Bank.disk l.bank);
  from : AreFrom l.rings.ubers.items l.ring_uber-index l.candidates.ubers.items;
  fits : FirstFits l.candidates.ubers.items l.candidates.entries.items;
  room : FirstHasRoom (g.B.Bank.disk l.fn.bank).sectors l.candidates.ubers.items;
  given : FirstIsGiven (g.B.Bank.disk l.fn.bank) l.rings.silent l.candidates.ubers.items l.candidates.entries.items
      l.candidates.giver;
  newest : (image : Image) → HoldsImage (g.B.Bank.disk l.fn.bank) image
      → AreNewestOf (shape_of (g.B.Bank.disk l.fn.bank)) l.rings.silent image l.pool l.rings.ubers.items l.ring_uber-index
      l.candidates.ubers.items l.candidates.entries.items;
}
