-- A column of a block's rows that is lent, to be written in its place.
use Rattle.std.specs.Prelude.{ℕ, List}
use Rattle.std.specs.Borrow.{Array, Fml, Lends, MutBor, u8}
use Rattle.reconstruct.specs.Rows.{Rows, with_column}
use Rattle.reconstruct.specs.contracts.rows.Rows.{the_row}

-- The rows end with what is left behind the reference in that column.
abbrev pub LendsColumn : MutBor Rows → ℕ → ℕ → MutBor (List ℕ) → Fml
LendsColumn rows row column place = Lends the_row (Array u8 512) rows place (with_column rows.now row column)
