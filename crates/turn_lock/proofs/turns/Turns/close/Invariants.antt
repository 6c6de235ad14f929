use Rattle.std.proofs.Common.{Some}
use Rattle.turn_lock.proofs.turns.Turns.close.Given as goal

-- the lock's own base
abbrev pub ghosts-wait_to_close : goal.ghosts-wait_to_close
ghosts-wait_to_close g a = record { base = Some a.shared.now.key }
