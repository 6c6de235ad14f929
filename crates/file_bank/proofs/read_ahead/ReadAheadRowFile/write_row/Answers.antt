use Rattle.std.proofs.Common.{refl, sym, ◌∙◌}
use Rattle.file_bank.proofs.Ahead.{row_leaves}
use Rattle.file_bank.proofs.read_ahead.ReadAheadRowFile.write_row.Goals as goal

pub invariant_of-self : goal.invariant_of-self
invariant_of-self g c = record {
  right = λ x there bytes is.
      let was = c.forget.ensures.beside x there in
      c.forget.ensures.same x ∙ c.args.self.now.right x was.0 bytes
      (sym (row_leaves _ _ _ _ _ _ c.requires.paired refl _ c.write_row.ensures.handed x was.1) ∙ is);
}
