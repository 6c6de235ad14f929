-- The bank tells what it told, so far, and the devices up to here are forgotten.
use Rattle.std.proofs.Common.{◌≡◌, ◌<◌, ℕ, None, length, slice_index_or}
use Rattle.bank_trait.specs.Disk.{Unchanged}
use Rattle.file_bank.specs.FileBank.{disk_of}
use Rattle.file_bank.specs.Gathered.{told_of}
use Rattle.file_bank.specs.ReadAhead.{HasForgotten, ahead_contents}
use Rattle.file_bank.proofs.bank.FileBank+Gathered+ReadAhead+F.forget_reads.Given as goal

abbrev pub invariant-loop-number : goal.invariant-loop-number
invariant-loop-number g l = record {
  unchanged : Unchanged (disk_of (told_of (ahead_contents g.F.RowFile.contents)) l.fn.self)
      (disk_of (told_of (ahead_contents g.F.RowFile.contents)) l.self);
  len : length l.self.files.items ≡ length l.fn.self.files.items;
  forgotten : (device : ℕ) → device < l.number → HasForgotten (slice_index_or l.self.files.items device None);
}
