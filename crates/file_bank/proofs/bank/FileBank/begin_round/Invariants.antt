-- The bank tells what it told, so far, and no call has failed.
use Rattle.std.proofs.Common.{◌≡◌, ◌↔◌, ℕ, length}
use Rattle.bank_trait.specs.Causes.{NoneFailed}
use Rattle.bank_trait.specs.Disk.{Unchanged}
use Rattle.file_bank.specs.FileBank.{LacksFile, disk_of, file_faults}
use Rattle.file_bank.proofs.bank.FileBank.begin_round.Given as goal

abbrev pub invariant-loop-number : goal.invariant-loop-number
invariant-loop-number g l = record {
  unchanged : Unchanged (disk_of g.F.BlockFile.contents l.fn.self) (disk_of g.F.BlockFile.contents l.self);
  len : length l.self.files.items ≡ length l.fn.self.files.items;
  counts : NoneFailed (disk_of g.F.BlockFile.contents l.fn.self).faults
      (disk_of g.F.BlockFile.contents l.self).faults;
  file_faults : NoneFailed (file_faults g.F.BlockFile.faults l.fn.self) (file_faults g.F.BlockFile.faults l.self);
  lacks : (device : ℕ) → LacksFile l.self device ↔ LacksFile l.fn.self device;
}
