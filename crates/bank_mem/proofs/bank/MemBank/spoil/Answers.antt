use Rattle.bank_mem.proofs.Placed.{placed_more, same_sector}
use Rattle.bank_mem.proofs.Steps.{spoiled_with, spoiled_leads}
use Rattle.bank_mem.proofs.bank.MemBank.spoil.Goals as goal

pub invariant_of-self-2-clause-same : goal.invariant_of-self-2-clause-same
invariant_of-self-2-clause-same c =
    spoiled_leads _ _ _ _ _ _ _ _ _ c.in_ok-push.ensures.items c.put_sector.ensures.held
    c.args.self.now.same

pub invariant_of-self-2-clause-wide : goal.invariant_of-self-2-clause-wide
invariant_of-self-2-clause-wide c = c.put_sector.ensures.width _ c.args.self.now.wide

pub returns-clause-ok : goal.returns-clause-ok
returns-clause-ok c =
    spoiled_with _ _ _ _ _ _ _ _ _ _ _ _ c.filled_sector-bytes.ensures c.in_ok-push.ensures.items
    c.put_sector.ensures.len c.put_sector.ensures.held

pub invariant_of-self-2-clause-placed : goal.invariant_of-self-2-clause-placed
invariant_of-self-2-clause-placed c =
    placed_more _ _ _ _ _ _ c.in_ok-push.ensures.items c.put_sector.ensures.len
    c.requires.device (same_sector _ _ c.requires.sector) c.args.self.now.placed
