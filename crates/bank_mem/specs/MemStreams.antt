-- A source and a sink in memory as contracts see them.
use Rattle.std.specs.Prelude.{ℕ, List, drop, Contains}
use Rattle.bank_mem.specs.declared.source.MemSource.{MemSource}
use Rattle.bank_mem.specs.declared.sink.MemSink.{MemSink}

-- the bytes that are left
abbrev pub bytes_left : MemSource → List ℕ
bytes_left s = drop s.at s.bytes.items

-- how often a read has failed
abbrev pub read_faults : MemSource → ℕ
read_faults s = s.faults

-- how many reads were made
abbrev pub reads_made : MemSource → ℕ
reads_made s = s.made

-- the reads that fail, by number
abbrev pub listed_reads : MemSource → List ℕ
listed_reads s = s.fails.items

-- the bytes taken so far
abbrev pub bytes_taken : MemSink → List ℕ
bytes_taken s = s.bytes.items

-- how many bytes it takes in all
abbrev pub room_of : MemSink → ℕ
room_of s = s.room

-- how often a write has failed
abbrev pub write_faults : MemSink → ℕ
write_faults s = s.faults

-- how many writes were made
abbrev pub writes_made : MemSink → ℕ
writes_made s = s.made

-- the writes that fail, by number
abbrev pub listed_writes : MemSink → List ℕ
listed_writes s = s.fails.items

-- The next read is listed to fail.
abbrev pub ReadFailsNext : MemSource → Type 0
ReadFailsNext s = Contains (listed_reads s) (reads_made s)

-- The next write is listed to fail.
abbrev pub WriteFailsNext : MemSink → Type 0
WriteFailsNext s = Contains (listed_writes s) (writes_made s)
