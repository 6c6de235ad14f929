use Rattle.file_bank.proofs.KeptRows.{row_pushed, whole_pushed}
use Rattle.file_bank.proofs.kept_row.KeptRow.push.Goals as goal

pub invariant_of-self-clause-whole : goal.invariant_of-self-clause-whole
invariant_of-self-clause-whole c =
    whole_pushed _ _ _ _ _ _ c.args.self.now.paired c.push_reserved.ensures.items c.push_copied.ensures.items
    c.told-bytes c.args.self.now.whole

pub returns-clause-row : goal.returns-clause-row
returns-clause-row c =
    row_pushed _ _ _ _ _ _ c.args.self.now.paired c.push_reserved.ensures.items c.push_copied.ensures.items
