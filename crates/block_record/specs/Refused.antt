-- Where a reader says that a page goes wrong.
use Rattle.std.specs.Prelude.{◌≡◌, ℕ, List, ⊤}
use Rattle.block_record.specs.declared.read.IndexRefused.{IndexRefused}
use Rattle.block_record.specs.declared.read.IndexRefused.TheVariants.{BadIndex, NoMemory}
use Rattle.block_record.specs.Index.{IsWrongEntry}

-- Refused at this byte, or for want of memory.
abbrev pub IsBadAt : ℕ → IndexRefused → Type 0
IsBadAt at_byte (BadIndex found) = found ≡ at_byte
IsBadAt at_byte NoMemory = ⊤

-- Refused where an entry is wrong, or for want of memory.
abbrev pub IsWrongAt : List ℕ → ℕ → IndexRefused → Type 0
IsWrongAt bytes count (BadIndex found) = IsWrongEntry bytes count found
IsWrongAt bytes count NoMemory = ⊤
