use Rattle.std.proofs.Common.{◌≡◌, ◌<◌, ◌/◌, [], ◌∷◌, ◌++◌, length, rules, arith, refl, ap, ◌∙◌}
use Rattle.bank_trait.specs.Causes.{counted}
use Rattle.file_bank.specs.declared.record.Call.TheVariants.{Write}
use Rattle.file_bank.proofs.MemSteps.{by_more, wrote, wrote_leads, set_whole, write_failed}
use Rattle.file_bank.proofs.MemRows.{wrote_tells}
use Rattle.file_bank.proofs.mem_file.MemFileBlockFile.write_at.Goals as goal

pub returns-then-fails_now-clause-written : goal.returns-then-fails_now-clause-written
returns-then-fails_now-clause-written c = write_failed _ _ _ _ _ _ _ _ _ refl c.requires.later c.args.self.now.by

pub returns-then-is_err-clause-written : goal.returns-then-is_err-clause-written
returns-then-is_err-clause-written c =
    let same : c.push.new.self.items ≡ c.args.self.now.calls.items = search rules in
    write_failed _ _ _ _ _ _ _ _ _ same c.requires.later c.args.self.now.by

pub invariant_of-self-2-clause-by : goal.invariant_of-self-2-clause-by
invariant_of-self-2-clause-by c =
    let one_more : c.push.new.self.items ≡ c.args.self.now.calls.items
    ++ Write c.args.moment (c.args.offset / 512) c.args.from.now ∷ [] = search rules in
    by_more _ _ _ _ _ one_more refl c.requires.later c.args.self.now.by

pub invariant_of-self-2-clause-same : goal.invariant_of-self-2-clause-same
invariant_of-self-2-clause-same c =
    let one_more : c.push.new.self.items ≡ c.args.self.now.calls.items
    ++ Write c.args.moment (c.args.offset / 512) c.args.from.now ∷ [] = search rules in
    let below : c.args.offset / 512 < length c.args.self.now.present.items = omega arith in
    wrote_leads _ _ _ _ _ _ _ _ one_more c.requires.later below c.args.self.now.by c.args.self.now.same

pub invariant_of-self-2-clause-whole : goal.invariant_of-self-2-clause-whole
invariant_of-self-2-clause-whole c =
    let below : c.args.offset / 512 < length c.args.self.now.present.items = omega arith in
    set_whole _ _ _ below c.told-from c.args.self.now.whole

pub returns-clause-written : goal.returns-clause-written
returns-clause-written c =
    let one_more : c.push.new.self.items ≡ c.args.self.now.calls.items
    ++ Write c.args.moment (c.args.offset / 512) c.args.from.now ∷ [] = search rules in
    let below : c.args.offset / 512 < length c.args.self.now.present.items = omega arith in
    wrote _ _ _ _ _ _ _ _ one_more c.requires.later below c.args.self.now.by

pub returns-then-fails_now-clause-counts : goal.returns-then-fails_now-clause-counts
returns-then-fails_now-clause-counts c = record {
  later = c.fails_now.ensures.later;
  failed = c.fails_now.ensures.counts c.if-fails_now.true;
  well = tt;
}

pub returns-then-is_err-clause-counts : goal.returns-then-is_err-clause-counts
returns-then-is_err-clause-counts c = record {
  later = omega (arith, c.fails_now.ensures.later, c.count_fault.ensures.later);
  failed = c.count_fault.ensures.faults ∙ ap counted (c.fails_now.ensures.well c.if-fails_now.false);
  well = tt;
}

pub returns-clause-exact : goal.returns-clause-exact
returns-clause-exact c =
    let one_more : c.push.new.self.items ≡ c.args.self.now.calls.items
    ++ Write c.args.moment (c.args.offset / 512) c.args.from.now ∷ [] = search rules in
    let below : c.args.offset / 512 < length c.args.self.now.present.items = omega arith in
    wrote_tells _ _ _ _ _ _ _ _ one_more c.requires.later below c.args.self.now.by
