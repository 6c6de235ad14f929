use Rattle.std.proofs.Common.{Some}
use Rattle.turn_lock.proofs.turns.Turns.take.Given as goal

-- the lock's own base
abbrev pub ghosts-wait_for_turn : goal.ghosts-wait_for_turn
ghosts-wait_for_turn g a = record { base = Some a.shared.now.key }
