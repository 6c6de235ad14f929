use Rattle.std.proofs.Common.{◌≡◌, ◌+◌, ◌-◌, ◌^◌, ◌≤◌, inl, arith, rules}
use Rattle.file_bank.specs.Files.{FileEndsBefore, shown}
use Rattle.file_bank.proofs.Causes.{in_bank, not_asked, or_lacks}
use Rattle.file_bank.proofs.Joined.{wrote_one}
use Rattle.file_bank.proofs.bank.FileBankBank.write.Goals as goal

pub returns-clause-wrote : goal.returns-clause-wrote
returns-clause-wrote g c =
    let next : c.in-Some.moment ≡ c.args.self.now.clock + 1 = search rules in
    wrote_one g.F.BlockFile.contents g.met.F.BlockFile.lawful c.args.self.now.files.items _ _ _ _ _ _ _
    _ c.requires.device c.index_mut.ensures.value next c.args.self.now.paced _ _ _
    c.write_sector-outcome.ensures.written c.note-2.ensures.counts

pub returns-clause-cause : goal.returns-clause-cause
returns-clause-cause g c =
    or_lacks _ _ _ _ _ (λ full. omega (arith, full, c.in-Some.ensures.0))
    (in_bank g.F.BlockFile.faults c.args.self.now.files.items _ _ _ c.requires.device c.index_mut.ensures.value
    (λ file. FileEndsBefore (shown g.F.BlockFile.contents file) c.args.sector) _ c.write_sector-outcome.ensures.cause)

pub returns-in_default-clause-cause : goal.returns-in_default-clause-cause
returns-in_default-clause-cause g c =
    let full : 2 ^ 64 - 1 ≤ c.args.self.now.clock = omega (arith, c.in_default.ensures) in
    not_asked _ _ _ (inl full)
