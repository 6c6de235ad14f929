-- Columns that are a read's own, or had by others too.
use Rattle.std.specs.Prelude.{⊤}
use Rattle.core_client.specs.declared.columns.Columns.{Columns}
use Rattle.core_client.specs.declared.columns.Columns.TheVariants.{Own, Shared}
use Rattle.core_client.specs.declared.columns_read.ColumnsRead.{ColumnsRead}

-- the columns themselves
abbrev pub columns_had : Columns → ColumnsRead
columns_had (Own read) = read
columns_had (Shared read) = read

-- No other has them.
abbrev pub IsOwn : Columns → Type 0
IsOwn (Own read) = ⊤
IsOwn (Shared read) = ⊥
