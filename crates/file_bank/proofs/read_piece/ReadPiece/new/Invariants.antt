use Rattle.std.proofs.Common.{◌≡◌, length}
use Rattle.file_bank.proofs.read_piece.ReadPiece.new.Given as goal

abbrev pub invariant-loop-sector : goal.invariant-loop-sector
invariant-loop-sector l = length l.sectors.items ≡ l._sector
