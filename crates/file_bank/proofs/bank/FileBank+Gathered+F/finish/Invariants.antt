-- The bank tells what it told, so far, and the devices up to here have handed over.
use Rattle.std.proofs.Common.{◌≡◌, ◌<◌, ◌≤◌, ℕ, length, slice_index}
use Rattle.bank_trait.specs.Disk.{Unchanged}
use Rattle.file_bank.specs.FileBank.{HasHandedOver, disk_of}
use Rattle.file_bank.specs.Gathered.{told_of}
use Rattle.file_bank.proofs.bank.FileBank+Gathered+F.finish.Given as goal

abbrev pub invariant-loop-number : goal.invariant-loop-number
invariant-loop-number g l = record {
  unchanged : Unchanged (disk_of (told_of g.F.RowFile.contents) l.fn.self)
      (disk_of (told_of g.F.RowFile.contents) l.self);
  len : length l.self.files.items ≡ length l.fn.self.files.items;
  handed : (device : ℕ) → device < l.number → slice_index l.fn.self.faults.items device ≡ 0
      → HasHandedOver l.self device;
  later : (device : ℕ) → l.number ≤ device
      → slice_index l.self.faults.items device ≡ slice_index l.fn.self.faults.items device;
}
