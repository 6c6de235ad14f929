use Rattle.std.proofs.Common.{◌≡◌, replicate}
use Rattle.bank_trait.specs.Regions.{zero_sector}
use Rattle.file_bank.proofs.mem_file.blank.Given as goal

abbrev pub invariant-loop-sector : goal.invariant-loop-sector
invariant-loop-sector l = l.all.items ≡ replicate l._sector zero_sector
