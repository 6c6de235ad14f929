use Rattle.std.proofs.Common.{arith}
use Rattle.file_bank.specs.Gathered.{told_of}
use Rattle.file_bank.specs.KeptRow.{sectors_kept}
use Rattle.file_bank.specs.RowLaws.{row_length}
use Rattle.file_bank.proofs.KeptRows.{row_long, kept_piece, beside_long}
use Rattle.file_bank.proofs.Rows.{read_beside, passed_on}
use Rattle.file_bank.proofs.gathered.GatheredBlockFile.read_at.Goals as goal

pub returns-then-has-clause-bytes : goal.returns-then-has-clause-bytes
returns-then-has-clause-bytes g c = λ bytes is.
    kept_piece _ _ _ _ _ _ c.args.self.now.kept.paired (c.has.ensures.kept c.if-has.true).0
    (c.has.ensures.kept c.if-has.true).1 c.read.ensures.bytes bytes is

pub read_at-outcome-requires-clause-inside : goal.read_at-outcome-requires-clause-inside
read_at-outcome-requires-clause-inside g c =
    omega (
      arith,
      c.requires.inside,
      row_length (g.F.RowFile.contents c.args.self.now.file) c.args.self.now.kept.first
          (sectors_kept c.args.self.now.kept),
    )

pub returns-clause-bytes : goal.returns-clause-bytes
returns-clause-bytes g c =
    let long = row_long _ _ c.args.self.now.kept.paired in
    passed_on (g.F.RowFile.contents c.args.self.now.file) (told_of g.F.RowFile.contents c.args.self.now) _ _ _ _
    c.count_call.ensures.same
    (read_beside (g.F.RowFile.contents c.args.self.now.file) c.args.self.now.kept.first _
    (sectors_kept c.args.self.now.kept)
    (beside_long _ _ _ _ long (c.has.ensures.beside c.if-has.false)))
    c.read_at-outcome.ensures.bytes
