use Rattle.std.proofs.Common.{arith}
use Rattle.file_bank.specs.RowLaws.{gathered_lawful}
use Rattle.file_bank.proofs.Rows.{same_failed_write, same_refl, same_err_write, written_from}
use Rattle.file_bank.proofs.gathered.Gathered.write_kept.Goals as goal

pub returns-then-self-clause-written : goal.returns-then-self-clause-written
returns-then-self-clause-written g c =
    same_failed_write _ _ _ (same_refl _)
    (gathered_lawful _ _ _ _ (g.met.F.RowFile.lawful c.args.self.now.file) c.args.self.now.kept.whole
    c.args.self.now.paced c.args.self.now.by)
    c.requires.later (omega (arith, c.requires.later)) _ _ _

pub returns-in_err-make_room-clause-written : goal.returns-in_err-make_room-clause-written
returns-in_err-make_room-clause-written g c =
    same_err_write _ _ _ _ _ _ c.from_residual.ensures.0 c.make_room.ensures.same
    (gathered_lawful _ _ _ _ (g.met.F.RowFile.lawful c.args.self.now.file) c.args.self.now.kept.whole
    c.args.self.now.paced c.args.self.now.by)
    c.requires.later (omega (arith, c.requires.later, c.make_room.ensures.last))

pub returns-clause-written : goal.returns-clause-written
returns-clause-written g c =
    written_from _ _ _ _ c.make_room.ensures.same
    (gathered_lawful _ _ _ _ (g.met.F.RowFile.lawful c.args.self.now.file) c.args.self.now.kept.whole
    c.args.self.now.paced c.args.self.now.by)
    (gathered_lawful _ _ _ _ (g.met.F.RowFile.lawful c.make_room.new.self.file) c.make_room.new.self.kept.whole
    c.make_room.new.self.paced c.make_room.new.self.by)
    c.requires.later (omega (arith, c.requires.later, c.make_room.ensures.last)) _ _ _ c.keep.ensures.written
