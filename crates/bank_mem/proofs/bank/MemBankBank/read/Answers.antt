use Rattle.bank_mem.proofs.Steps.{same_view}
use Rattle.bank_mem.proofs.bank.MemBankBank.read.Goals as goal

pub returns-clause-well : goal.returns-clause-well
returns-clause-well c =
    same_view c.args.self.now.sectors c.args.self.now.first.items c.args.self.now.present.items
    c.args.self.now.calls.items c.args.self.now.plan.faults.items _
    (c.fails_now.ensures.well c.if-fails_now.false)
