use Rattle.core_turns.proofs.Words.{◌≡◌, ℕ, ◌<◌, column_at}
use Rattle.core_turns.proofs.solving.has_same_row.Given as goal

abbrev pub invariant-loop-column : goal.invariant-loop-column
invariant-loop-column l = (column : ℕ) → column < l.column
    → column_at l.one.rows l.fn.row column ≡ column_at l.other.rows l.fn.row column
