use Rattle.std.proofs.Common.{◌≡◌, ◌+◌, ◌*◌, ◌++◌, length, take}
use Rattle.std.specs.Prelude.{flat_map}
use Rattle.block_record.specs.Page.{entry_bytes}
use Rattle.block_record.proofs.encode.put_entries.Given as goal

abbrev pub invariant-loop-entry : goal.invariant-loop-entry
invariant-loop-entry l = record {
  len : length l.sector ≡ length l.fn.sector + 64 * l.entry-index;
  bytes : l.sector ≡ l.fn.sector ++ flat_map entry_bytes (take l.entry-index l.entries);
}
