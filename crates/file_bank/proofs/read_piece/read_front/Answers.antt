use Rattle.std.proofs.Common.{◌≡◌, ◌*◌, ◌/◌, arith, length, sym, take}
use Rattle.std.proofs.lemmas.List.{length-take-le}
use Rattle.file_bank.proofs.Ahead.{front_given}
use Rattle.file_bank.proofs.read_piece.read_front.Goals as goal

pub returns-clause-bytes : goal.returns-clause-bytes
returns-clause-bytes g c =
    let at : c.args.sector * 512 / 512 ≡ c.args.sector = omega arith in
    let long : c.args.count ≡ length (take c.args.count c.args.list.now) =
    sym (length-take-le _ c.args.list.now c.requires.room) in
    front_given (g.F.RowFile.contents c.args.file.now) _ c.args.sector _ c.args.count _ _ _ c.read_row.ensures.bytes
    at long
