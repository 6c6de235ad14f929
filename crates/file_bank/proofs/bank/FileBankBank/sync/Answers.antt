use Rattle.std.proofs.Common.{◌≡◌, ◌+◌, ◌-◌, ◌<◌, ◌^◌, ◌≤◌, length, None, inl, arith, rules}
use Rattle.file_bank.specs.FileBank.{disk_of}
use Rattle.file_bank.proofs.Begun.{caused_after, synced_after}
use Rattle.file_bank.proofs.Causes.{in_bank, not_asked, or_lacks}
use Rattle.file_bank.proofs.Joined.{synced_one}
use Rattle.file_bank.proofs.bank.FileBankBank.sync.Goals as goal

pub returns-clause-synced : goal.returns-clause-synced
returns-clause-synced g c =
    let next : c.in-Some.moment ≡ c.begin_round.new.self.clock + 1 = search rules in
    let there : c.args.device < length c.begin_round.new.self.files.items =
    omega (arith, c.requires, c.begin_round.ensures.unchanged.goes_on.later.devices) in
    synced_after (disk_of g.F.BlockFile.contents c.args.self.now)
    (disk_of g.F.BlockFile.contents c.begin_round.new.self) _ c.begin_round.ensures.unchanged c.begin_round.ensures.counts _ _
    (synced_one g.F.BlockFile.contents g.met.F.BlockFile.lawful c.begin_round.new.self.files.items _ _ _ _ _ _ _
    _ there c.index_mut.ensures.value next c.begin_round.new.self.paced _
    c.sync_file-outcome.ensures.settled c.note-2.ensures.counts)

pub returns-clause-cause : goal.returns-clause-cause
returns-clause-cause g c =
    let there : c.args.device < length c.begin_round.new.self.files.items =
    omega (arith, c.requires, c.begin_round.ensures.unchanged.goes_on.later.devices) in
    or_lacks _ _ _ _ _ (λ full. omega (arith, full, c.in-Some.ensures.0, c.begin_round.ensures.unchanged.clock))
    (caused_after _ _ _ _ _ _ (c.begin_round.ensures.lacks c.args.device)
    (c.begin_round.ensures.file_faults c.args.device)
    (in_bank g.F.BlockFile.faults c.begin_round.new.self.files.items _ _ _ there c.index_mut.ensures.value
    (λ file. file ≡ None) _ c.sync_file-outcome.ensures.cause))

pub returns-in_default-clause-cause : goal.returns-in_default-clause-cause
returns-in_default-clause-cause g c =
    let full : 2 ^ 64 - 1 ≤ c.args.self.now.clock =
    omega (arith, c.in_default.ensures, c.begin_round.ensures.unchanged.clock) in
    caused_after _ _ _ _ _ _ (λ lacks. lacks, λ lacks. lacks) (c.begin_round.ensures.file_faults c.args.device)
    (not_asked _ _ _ (inl full))
