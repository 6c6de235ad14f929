-- What is left of the row, over the file so far, is the whole row over the file that was there.
use Rattle.std.proofs.Common.{◌≡◌, ◌+◌, ◌/◌, ◌≤◌, ℕ, drop}
use Rattle.file_bank.specs.MemFile.{file_of, faults_of}
use Rattle.file_bank.specs.Row.{TellsSame, HasRisingMoments, AllKeptBy, kept_row, with_row}
use Rattle.file_bank.proofs.mem_file.MemFileRowFile.write_row.Given as goal

abbrev pub invariant-loop-index : goal.invariant-loop-index
invariant-loop-index l = record {
  same : TellsSame (with_row (file_of l.fn.self) (l.offset / 512) (kept_row l.moments l.row))
      (with_row (file_of l.self) (l.offset / 512 + l.index) (drop l.index (kept_row l.moments l.row)));
  length : (file_of l.self).length ≡ (file_of l.fn.self).length;
  rising : HasRisingMoments (file_of l.self).last (drop l.index (kept_row l.moments l.row));
  last : (moment : ℕ) → (file_of l.fn.self).last ≤ moment → AllKeptBy moment (kept_row l.moments l.row)
      → (file_of l.self).last ≤ moment;
  faults : faults_of l.self ≡ faults_of l.fn.self;
}
