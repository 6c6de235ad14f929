use Rattle.core_turns.proofs.Words.{ℕ, ◌<◌, HasSameRow}
use Rattle.core_turns.proofs.solving.has_same_columns.Given as goal

abbrev pub invariant-loop-row : goal.invariant-loop-row
invariant-loop-row l = (row : ℕ) → row < l.row → HasSameRow l.layout l.one l.other row
