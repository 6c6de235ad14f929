-- A bank in memory as contracts see it.
use Rattle.std.specs.Prelude.{◌≡◌, ℕ, List, length, take, slice_index}
use Rattle.bank_trait.specs.Disk.{Disk}
use Rattle.bank_mem.specs.Listed.{IsListedCall}
use Rattle.bank_mem.specs.Record.{Shelf, content, held_durably, replay}
use Rattle.bank_mem.specs.declared.record.Call.{Call}
use Rattle.bank_mem.specs.declared.bank.MemBank.{MemBank}

-- The clock is the number of writes and syncs on record.
abbrev pub view : ℕ → Shelf → Shelf → List Call → List ℕ → Disk
view sectors first now calls faults = record {
  devices = length now;
  sectors = sectors;
  reads = content now;
  faults = slice_index faults;
  clock = length calls;
  leaves = λ t. (replay (held_durably (content first)) (take t calls)).stays;
  could = λ t. (replay (held_durably (content first)) (take t calls)).could;
}

-- the devices
abbrev pub mem_disk : MemBank → Disk
mem_disk b = view b.sectors b.first.items b.present.items b.calls.items b.plan.faults.items

-- how many calls were made on each device
abbrev pub made_on : MemBank → ℕ → ℕ
made_on b = slice_index b.plan.made.items

-- the calls that fail, by device and number
abbrev pub listed_calls : MemBank → List (ℕ × ℕ)
listed_calls b = b.plan.fails.items

-- from which number on all calls of a device fail
abbrev pub listed_starts : MemBank → List (ℕ × ℕ)
listed_starts b = b.plan.starts.items

-- The same calls are listed to fail.
abbrev pub SamePlan : MemBank → MemBank → Type 0
SamePlan old new =
    (listed_calls new ≡ listed_calls old) × (listed_starts new ≡ listed_starts old)

-- The next call on this device is listed to fail.
abbrev pub FailsNext : MemBank → ℕ → Type 0
FailsNext b device = IsListedCall (listed_calls b) (listed_starts b) device (made_on b device)
