use Rattle.std.proofs.Common.{◌≤◌, arith}
use Rattle.std.proofs.Common.{◌∙◌}
use Rattle.std.proofs.lemmas.List.{take_at}
use Rattle.file_bank.proofs.Ahead.{by_place}
use Rattle.file_bank.proofs.read_piece.ReadPiece.fill.Goals as goal

pub returns-clause-right : goal.returns-clause-right
returns-clause-right g c = λ x there bytes is.
    let from : c.restart_at.new.self.first ≤ x = omega (
      arith,
      there.0,
      c.restart_at.ensures.first,
      c.restart_at.ensures.from,
    ) in
    by_place (g.F.RowFile.contents c.args.file.now) c.read_front.new.list _ c.restart_at.new.self.first c.args.sector
    c.args.count x bytes c.restart_at.ensures.first from there.1 c.in_ok-read_front.ensures.bytes
    (take_at c.read_front.new.list _ c.restart_at.new.self.sectors.len
    (c.read_front.ensures.len ∙ c.deref_mut.ensures.len)) is
