use Rattle.std.proofs.Common.{arith}
use Rattle.file_bank.specs.RowLaws.{gathered_lawful}
use Rattle.file_bank.proofs.Rows.{same_failed_sync, same_refl, same_err_sync, settled_same, synced_kept}
use Rattle.file_bank.proofs.gathered.Gathered.sync_all.Goals as goal

pub returns-then-self-clause-settled : goal.returns-then-self-clause-settled
returns-then-self-clause-settled g c =
    same_failed_sync _ _ _ (same_refl _)
    (gathered_lawful _ _ _ _ (g.met.F.RowFile.lawful c.args.self.now.file) c.args.self.now.kept.whole
    c.args.self.now.paced c.args.self.now.by)
    c.requires.later (omega (arith, c.requires.later)) _

pub returns-in_err-hand_over-clause-settled : goal.returns-in_err-hand_over-clause-settled
returns-in_err-hand_over-clause-settled g c =
    same_err_sync _ _ _ _ c.from_residual.ensures.0 c.hand_over.ensures.same
    (gathered_lawful _ _ _ _ (g.met.F.RowFile.lawful c.args.self.now.file) c.args.self.now.kept.whole
    c.args.self.now.paced c.args.self.now.by)
    c.requires.later (omega (arith, c.requires.later, c.hand_over.ensures.last))

pub returns-in-None-clause-settled : goal.returns-in-None-clause-settled
returns-in-None-clause-settled g c =
    synced_kept _ _ _ _ _ _ _ _ c.in_ok-hand_over.ensures.emptied c.hand_over.ensures.same
    (gathered_lawful _ _ _ _ (g.met.F.RowFile.lawful c.args.self.now.file) c.args.self.now.kept.whole
    c.args.self.now.paced c.args.self.now.by)
    (g.met.F.RowFile.lawful c.hand_over.new.self.file) c.requires.later
    (omega (arith, c.requires.later, c.hand_over.ensures.last, c.hand_over.new.self.paced)) c.sync.ensures.settled

pub returns-in-Some-Whole-clause-settled : goal.returns-in-Some-Whole-clause-settled
returns-in-Some-Whole-clause-settled g c =
    synced_kept _ _ _ _ _ _ _ _ c.in_ok-hand_over.ensures.emptied c.hand_over.ensures.same
    (gathered_lawful _ _ _ _ (g.met.F.RowFile.lawful c.args.self.now.file) c.args.self.now.kept.whole
    c.args.self.now.paced c.args.self.now.by)
    (g.met.F.RowFile.lawful c.hand_over.new.self.file) c.requires.later
    (omega (arith, c.requires.later, c.hand_over.ensures.last, c.hand_over.new.self.paced)) c.end_sync.ensures.settled

pub returns-in_ok-end_late_sync-in-Some-Late-clause-settled :
    goal.returns-in_ok-end_late_sync-in-Some-Late-clause-settled
returns-in_ok-end_late_sync-in-Some-Late-clause-settled g c =
    synced_kept _ _ _ _ _ _ _ _ c.in_ok-hand_over.ensures.emptied c.hand_over.ensures.same
    (gathered_lawful _ _ _ _ (g.met.F.RowFile.lawful c.args.self.now.file) c.args.self.now.kept.whole
    c.args.self.now.paced c.args.self.now.by)
    (g.met.F.RowFile.lawful c.hand_over.new.self.file) c.requires.later
    (omega (arith, c.requires.later, c.hand_over.ensures.last, c.hand_over.new.self.paced))
    (settled_same _ _ _ _ _ c.in_ok-end_late_sync-in-Some-Late.ensures.same c.sync-in-Some-Late.ensures.settled)
