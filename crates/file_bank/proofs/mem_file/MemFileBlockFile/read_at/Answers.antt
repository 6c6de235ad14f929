use Rattle.std.proofs.Common.{◌∙◌, ◌/◌, arith}
use Rattle.std.proofs.lemmas.Option.{get_or_from_slice_get}
use Rattle.file_bank.proofs.Pieces.{given}
use Rattle.file_bank.proofs.mem_file.MemFileBlockFile.read_at.Goals as goal

pub returns-then-fails_now-clause-counts : goal.returns-then-fails_now-clause-counts
returns-then-fails_now-clause-counts c = record {
  later = c.fails_now.ensures.later;
  failed = c.fails_now.ensures.counts c.if-fails_now.true;
  well = tt;
}

pub returns-clause-bytes : goal.returns-clause-bytes
returns-clause-bytes c = λ bytes is.
    given _ _ c.args.into.now _ _ _ _ (omega (arith, c.min-count.ensures)) c.copy_from_slice.ensures.len
    c.copy_from_slice.ensures.after
    (c.index-sector.ensures ∙ get_or_from_slice_get c.args.self.now.present.items (c.args.offset / 512) bytes c.index-sector.result.now is)
