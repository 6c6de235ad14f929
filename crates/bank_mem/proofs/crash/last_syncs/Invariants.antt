use Rattle.std.proofs.Common.{◌≡◌, ℕ, length, slice_index}
use Rattle.bank_mem.proofs.Syncs.{SyncedBelow}
use Rattle.bank_mem.proofs.crash.last_syncs.Given as goal

abbrev pub invariant-loop-index : goal.invariant-loop-index
invariant-loop-index l = record {
  len : length l.syncs.items ≡ l.devices;
  syncs : (d : ℕ) → SyncedBelow l.calls l.index d (slice_index l.syncs.items d);
}
