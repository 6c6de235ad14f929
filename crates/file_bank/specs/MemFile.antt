-- A file in memory as contracts see it.
use Rattle.std.specs.Prelude.{◌≡◌, ℕ, List, Contains, Option, Some, None, if◌then◌else◌}
use Rattle.bank_trait.specs.Causes.{counted}
use Rattle.file_bank.specs.BlockFile.{Contents}
use Rattle.file_bank.specs.Record.{contents_of}
use Rattle.file_bank.specs.declared.mem_file.MemFile.{MemFile}

-- what it holds
abbrev pub file_of : MemFile → Contents
file_of file = contents_of file.first.items file.present.items file.calls.items file.last

-- what it held when a sync was begun
abbrev pub file_begun : MemFile → Option Contents
file_begun file = if file.begun then Some (file_of file) else None

-- how often a call has failed
abbrev pub faults_of : MemFile → ℕ
faults_of file = file.plan.faults

-- how many calls were made
abbrev pub calls_made : MemFile → ℕ
calls_made file = file.plan.made

-- the calls that fail, by number
abbrev pub listed_calls_of : MemFile → List ℕ
listed_calls_of file = file.plan.fails.items

-- the most bytes that a read gives
abbrev pub piece_of : MemFile → ℕ
piece_of file = file.piece

-- The next call is listed to fail.
abbrev pub FailsNextOn : MemFile → Type 0
FailsNextOn file = Contains (listed_calls_of file) (calls_made file)

-- One call was made, and for all others the same are listed to fail and reads give as many bytes.
pub record OneCallMade (old new : MemFile) : Type 0 where
  pub made : calls_made new ≡ counted (calls_made old)
  pub listed : listed_calls_of new ≡ listed_calls_of old
  pub piece : piece_of new ≡ piece_of old
