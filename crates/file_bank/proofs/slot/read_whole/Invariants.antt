-- The front of the sector is there, up to where it is filled; each turn has filled more, or has raised
-- the file's count of faults.
use Rattle.std.proofs.Common.{◌≡◌, ◌⊎◌, ◌<◌, ◌≤◌, ℕ, List, Some, take}
use Rattle.bank_trait.specs.Causes.{FaultCounted}
use Rattle.file_bank.proofs.slot.read_whole.Given as goal

abbrev pub invariant-loop-turn : goal.invariant-loop-turn
invariant-loop-turn g l = record {
  room : l.filled < 512;
  same : g.F.BlockFile.contents l.file ≡ g.F.BlockFile.contents l.fn.file;
  front : (bytes : List ℕ) → (g.F.BlockFile.contents l.fn.file).reads l.sector ≡ Some bytes
      → take l.filled l.into ≡ take l.filled bytes;
  later : g.F.BlockFile.faults l.fn.file ≤ g.F.BlockFile.faults l.file;
  goes_on : (l._turn ≤ l.filled) ⊎ FaultCounted (g.F.BlockFile.faults l.fn.file) (g.F.BlockFile.faults l.file);
}
