use Rattle.std.proofs.Common.{◌≡◌, [], ◌∷◌, ◌++◌, rules}
use Rattle.bank_mem.specs.declared.record.Call.TheVariants.{Write}
use Rattle.bank_mem.proofs.Placed.{placed_more, placed_noted, same_sector}
use Rattle.bank_mem.proofs.Steps.{wrote, wrote_leads, write_noted, noted_leads}
use Rattle.bank_mem.proofs.bank.MemBankBank.write.Goals as goal

pub invariant_of-self-clause-same : goal.invariant_of-self-clause-same
invariant_of-self-clause-same c = noted_leads _ _ _ _ _ _ _ _ c.note.ensures c.args.self.now.same

pub returns-then-fails_now-clause-wrote : goal.returns-then-fails_now-clause-wrote
returns-then-fails_now-clause-wrote c =
    write_noted _ _ _ _ _ _ _ _ _ _ _ _ c.note.ensures c.fails_now.ensures.faults
    (c.fails_now.ensures.counted c.if-fails_now.true) (c.fails_now.ensures.once c.if-fails_now.true)

pub invariant_of-self-2-clause-same : goal.invariant_of-self-2-clause-same
invariant_of-self-2-clause-same c =
    let one_more : c.push.new.self.items ≡ c.args.self.now.calls.items ++ Write c.args.self.now.plan.total c.args.device c.args.sector c.args.from.now ∷ [] = search rules in
    wrote_leads _ _ _ _ _ _ _ _ _ one_more c.put_sector.ensures.held c.args.self.now.same

pub returns-clause-wrote : goal.returns-clause-wrote
returns-clause-wrote c =
    let one_more : c.push.new.self.items ≡ c.args.self.now.calls.items ++ Write c.args.self.now.plan.total c.args.device c.args.sector c.args.from.now ∷ [] = search rules in
    wrote _ _ _ _ _ _ _ _ _ _ _ _ one_more c.put_sector.ensures.len c.fails_now.ensures.faults
    (c.fails_now.ensures.well c.if-fails_now.false) c.put_sector.ensures.held

pub invariant_of-self-2-clause-wide : goal.invariant_of-self-2-clause-wide
invariant_of-self-2-clause-wide c = c.put_sector.ensures.width _ c.args.self.now.wide

pub invariant_of-self-clause-placed : goal.invariant_of-self-clause-placed
invariant_of-self-clause-placed c =
    placed_noted _ _ _ _ _ c.note.ensures c.requires.device (same_sector _ _ c.requires.sector) c.args.self.now.placed

pub invariant_of-self-2-clause-placed : goal.invariant_of-self-2-clause-placed
invariant_of-self-2-clause-placed c =
    let one_more : c.push.new.self.items ≡ c.args.self.now.calls.items ++ Write c.args.self.now.plan.total c.args.device c.args.sector c.args.from.now ∷ [] = search rules in
    placed_more _ _ _ _ _ _ one_more c.put_sector.ensures.len c.requires.device (same_sector _ _ c.requires.sector) c.args.self.now.placed
