use Rattle.std.proofs.Common.{◌≡◌, length, take, slice_index}
use Rattle.bank_mem.specs.Record.{content, held_durably, replay}
use Rattle.bank_mem.specs.Sound.{AllWide}
use Rattle.bank_mem.specs.CrashSteps.{tear_of}
use Rattle.bank_mem.proofs.Left.{IsLeft}
use Rattle.bank_mem.proofs.bank.MemBank.crash_at.Given as goal

abbrev pub invariant-loop-index : goal.invariant-loop-index
invariant-loop-index l = record {
  len : length l.images.items ≡ length l.self.present.items;
  wide : AllWide l.images.items l.self.sectors;
  left : IsLeft (slice_index l.syncs.items) (tear_of l.tears) l.index
      (replay (held_durably (content l.self.first.items)) (take l.index l.record))
      (content l.images.items);
}
