use Rattle.std.proofs.Common.{sym, ◌∙◌}
use Rattle.file_bank.specs.KeptRow.{sectors_kept}
use Rattle.file_bank.specs.RowLaws.{row_length}
use Rattle.file_bank.proofs.gathered.GatheredBlockFile.length.Goals as goal

pub returns : goal.returns
returns g c = c.length.ensures
    ∙ sym (row_length (g.F.RowFile.contents c.args.self.now.file) c.args.self.now.kept.first
    (sectors_kept c.args.self.now.kept))
