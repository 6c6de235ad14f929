use Rattle.std.proofs.Common.{◌≡◌, replicate}
use Rattle.bank_trait.specs.Regions.{zero_sector}
use Rattle.bank_mem.proofs.shelf.blank_row.Given as goal

abbrev pub invariant-loop-sector : goal.invariant-loop-sector
invariant-loop-sector l = l.row.items ≡ replicate l._sector zero_sector
