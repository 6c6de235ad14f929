-- What is read of a bank in memory, and what its sectors could hold.
use Rattle.std.proofs.Common.{◌≡◌, ℕ, List, Some, ◌∙◌}
use Rattle.std.specs.Prelude.{Contains}
use Rattle.bank_mem.specs.declared.record.Call.{Call}
use Rattle.bank_mem.specs.Record.{Shelf}
use Rattle.bank_mem.specs.Sound.{LeadsTo}
use Rattle.bank_mem.specs.MemBank.{view}
use Rattle.bank_mem.specs.Laws.{last_lawful, last_read}

-- Law: What is read of a sector in memory is one of what it could hold.
pub reads_could : (sectors : ℕ) (first now : Shelf) (calls : List Call) (faults : List ℕ)
    → LeadsTo first calls now → (d x : ℕ) (bytes : List ℕ)
    → (view sectors first now calls faults).reads d x ≡ Some bytes
    → Contains ((view sectors first now calls faults).could (view sectors first now calls faults).clock d x) bytes
reads_could sectors first now calls faults leads d x bytes is =
    (last_lawful first calls).reads_could d x bytes (last_read first now calls leads d x ∙ is)
