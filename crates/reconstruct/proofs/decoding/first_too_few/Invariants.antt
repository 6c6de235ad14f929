use Rattle.std.proofs.Common.{ℕ, ◌<◌}
use Rattle.reconstruct.specs.Lost.{HasTooFew}
use Rattle.reconstruct.proofs.decoding.first_too_few.Given as goal

-- the rows so far have enough
abbrev pub invariant-loop-row : goal.invariant-loop-row
invariant-loop-row l = (row : ℕ) → row < l.row → HasTooFew l.layout l.lost row → ⊥
