use Rattle.std.proofs.Common.{◌∙◌}
use Rattle.file_bank.specs.FileBank.{disk_of}
use Rattle.file_bank.specs.Gathered.{told_of}
use Rattle.file_bank.specs.ReadAhead.{HasForgotten, ahead_contents}
use Rattle.file_bank.proofs.Finished.{one_more, unchanged_then}
use Rattle.file_bank.proofs.bank.FileBank+Gathered+ReadAhead+F.forget_reads.Goals as goal

pub loop-number-preserved : goal.loop-number-preserved
loop-number-preserved g c = record {
  unchanged = unchanged_then (disk_of (told_of (ahead_contents g.F.RowFile.contents)) c.args.self.now)
      (disk_of (told_of (ahead_contents g.F.RowFile.contents)) c.loop-number.self)
      (disk_of (told_of (ahead_contents g.F.RowFile.contents)) c.forget_device.new.self)
      c.loop-number.invariant.unchanged c.forget_device.ensures.unchanged;
  len = c.forget_device.ensures.len ∙ c.loop-number.invariant.len;
  forgotten = one_more HasForgotten c.loop-number.self.files.items c.forget_device.new.self.files.items
      c.loop-number.number c.loop-number.invariant.forgotten c.forget_device.ensures.forgotten
      c.forget_device.ensures.others;
}
