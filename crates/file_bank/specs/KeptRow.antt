-- The sectors that are kept, as contracts see them.
use Rattle.std.specs.Prelude.{List}
use Rattle.file_bank.specs.Row.{KeptSector, kept_row}
use Rattle.file_bank.specs.declared.kept_row.KeptRow.{KeptRow}

-- each with the moment of its write
abbrev pub sectors_kept : KeptRow → List KeptSector
sectors_kept kept = kept_row kept.moments.items kept.sectors.items
