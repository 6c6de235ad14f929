use Rattle.std.proofs.Common.{◌≡◌, [], ◌∷◌, ◌++◌, rules, arith, refl, ap, ◌∙◌}
use Rattle.bank_trait.specs.Causes.{counted}
use Rattle.file_bank.specs.declared.record.Call.TheVariants.{Sync}
use Rattle.file_bank.proofs.MemSteps.{by_more, synced, synced_leads, sync_failed}
use Rattle.file_bank.proofs.mem_file.MemFileBlockFile.sync.Goals as goal

pub returns-then-fails_now-clause-settled : goal.returns-then-fails_now-clause-settled
returns-then-fails_now-clause-settled c = sync_failed _ _ _ _ _ _ _ refl c.requires c.args.self.now.by

pub returns-then-is_err-clause-settled : goal.returns-then-is_err-clause-settled
returns-then-is_err-clause-settled c =
    let same : c.push.new.self.items ≡ c.args.self.now.calls.items = search rules in
    sync_failed _ _ _ _ _ _ _ same c.requires c.args.self.now.by

pub invariant_of-self-2-clause-by : goal.invariant_of-self-2-clause-by
invariant_of-self-2-clause-by c =
    let one_more : c.push.new.self.items ≡ c.args.self.now.calls.items
    ++ Sync c.args.moment ∷ [] = search rules in
    by_more _ _ _ _ _ one_more refl c.requires c.args.self.now.by

pub invariant_of-self-2-clause-same : goal.invariant_of-self-2-clause-same
invariant_of-self-2-clause-same c =
    let one_more : c.push.new.self.items ≡ c.args.self.now.calls.items
    ++ Sync c.args.moment ∷ [] = search rules in
    synced_leads _ _ _ _ _ _ one_more c.requires c.args.self.now.by c.args.self.now.same

pub returns-clause-settled : goal.returns-clause-settled
returns-clause-settled c =
    let one_more : c.push.new.self.items ≡ c.args.self.now.calls.items
    ++ Sync c.args.moment ∷ [] = search rules in
    synced _ _ _ _ _ _ one_more c.requires c.args.self.now.by c.args.self.now.same

pub returns-then-fails_now-clause-counts : goal.returns-then-fails_now-clause-counts
returns-then-fails_now-clause-counts c = record {
  later = c.fails_now.ensures.later;
  failed = c.fails_now.ensures.counts c.if-fails_now.true;
  well = tt;
}

pub returns-then-is_err-clause-counts : goal.returns-then-is_err-clause-counts
returns-then-is_err-clause-counts c = record {
  later = omega (arith, c.fails_now.ensures.later, c.count_fault.ensures.later);
  failed = c.count_fault.ensures.faults ∙ ap counted (c.fails_now.ensures.well c.if-fails_now.false);
  well = tt;
}
