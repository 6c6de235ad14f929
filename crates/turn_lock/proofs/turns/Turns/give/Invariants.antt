use Rattle.std.proofs.Common.{Some}
use Rattle.turn_lock.proofs.turns.Turns.give.Given as goal

-- the entry that is given
abbrev pub ghosts-end_with : goal.ghosts-end_with
ghosts-end_with g a = record { entry = Some a.entry.now }
