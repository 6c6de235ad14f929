use Rattle.file_bank.proofs.KeptRows.{row_dropped, whole_dropped}
use Rattle.file_bank.proofs.kept_row.KeptRow.drop_front.Goals as goal

pub invariant_of-self-clause-whole : goal.invariant_of-self-clause-whole
invariant_of-self-clause-whole c =
    whole_dropped c.args.self.now.moments.items _ c.args.self.now.sectors.items _ c.args.count
    c.drop_first.ensures.items c.drop_first-2.ensures.items c.args.self.now.whole

pub returns-clause-row : goal.returns-clause-row
returns-clause-row c =
    row_dropped c.args.self.now.moments.items _ c.args.self.now.sectors.items _ c.args.count
    c.drop_first.ensures.items c.drop_first-2.ensures.items
