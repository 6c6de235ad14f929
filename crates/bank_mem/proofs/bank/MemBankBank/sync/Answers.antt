use Rattle.std.proofs.Common.{◌≡◌, [], ◌∷◌, ◌++◌, refl, rules}
use Rattle.bank_mem.specs.declared.record.Call.TheVariants.{Sync}
use Rattle.bank_mem.proofs.Placed.{placed_more}
use Rattle.bank_mem.proofs.Steps.{synced, synced_leads}
use Rattle.bank_mem.proofs.bank.MemBankBank.sync.Goals as goal

pub invariant_of-self-else-is_err-clause-same : goal.invariant_of-self-else-is_err-clause-same
invariant_of-self-else-is_err-clause-same c =
    let one_more : c.push.new.self.items ≡ c.args.self.now.calls.items ++ Sync c.args.self.now.plan.total c.args.device ∷ [] = search rules in
    synced_leads _ _ _ _ _ _ one_more c.args.self.now.same

pub returns-clause-synced : goal.returns-clause-synced
returns-clause-synced c =
    let one_more : c.push.new.self.items ≡ c.args.self.now.calls.items ++ Sync c.args.self.now.plan.total c.args.device ∷ [] = search rules in
    synced _ _ _ _ _ _ _ _ _ one_more c.fails_now.ensures.faults (c.fails_now.ensures.well c.if-fails_now.false) c.args.self.now.same

pub invariant_of-self-else-is_err-clause-placed : goal.invariant_of-self-else-is_err-clause-placed
invariant_of-self-else-is_err-clause-placed c =
    let one_more : c.push.new.self.items ≡ c.args.self.now.calls.items ++ Sync c.args.self.now.plan.total c.args.device ∷ [] = search rules in
    placed_more _ _ _ _ _ _ one_more refl c.requires (λ x is. absurd (cc)) c.args.self.now.placed
