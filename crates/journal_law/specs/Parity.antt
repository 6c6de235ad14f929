-- One parity for all groups of a run.
use Rattle.std.specs.Prelude.{List, Contains}
use Rattle.core_state.specs.Keeps.{HaveParity, Kept}

-- The groups have the parity of each of these.
abbrev pub HaveParityOf : List Kept → List Kept → Type 0
HaveParityOf known groups = (group : Kept) → Contains known group → HaveParity group.uber.parity groups
