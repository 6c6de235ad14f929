-- What a script that is read from a source may say of it.
use Rattle.std.specs.Prelude.{◌≡◌, ◌⊎◌, ℕ, ◌+◌, ◌<◌, List, length, Option, Some, Result, Err, ⊤}
use Rattle.bank_trait.specs.Causes.{FaultCounted}
use Rattle.client_script.specs.declared.refused.ParseRefused.{ParseRefused}
use Rattle.client_script.specs.declared.refused.ParseRefused.TheVariants as parse
use Rattle.client_script.specs.declared.refused.ReadRefused.{ReadRefused}
use Rattle.client_script.specs.declared.refused.ReadRefused.TheVariants.{SourceFault, ScriptFault, Limit, NoMemory}
use Rattle.client_script.specs.declared.line_fault.LineFault.{LineFault}
use Rattle.client_script.specs.Faults.{IsFaultFor}
use Rattle.client_script.specs.Script.{Script, most_bytes, IsOverLimit, reached_by}

-- the most reads of a script: each gives one byte at least, but for the last
abbrev pub most_reads : ℕ
most_reads = most_bytes + 1

-- a refusal of the bytes that were read
abbrev pub read_refusal : ParseRefused → ReadRefused
read_refusal (parse.ScriptFault line why) = ScriptFault line why
read_refusal (parse.Limit reached) = Limit reached
read_refusal parse.NoMemory = NoMemory

-- A source tells its bytes, and none of its reads failed.
pub record IsToldWell (left : Option (List ℕ)) (bytes : List ℕ) (before now : ℕ) : Type 0 where
  pub told : left ≡ Some bytes
  pub well : FaultCounted before now → ⊥

-- Why the bytes of a source were not all read.
abbrev pub IsUnreadFor : Option (List ℕ) → ℕ → ℕ → ReadRefused → Type 0
IsUnreadFor left before now SourceFault = FaultCounted before now
IsUnreadFor left before now (ScriptFault line why) = ⊥
IsUnreadFor left before now (Limit reached) = (reached ≡ most_bytes + 1)
    × ((bytes : List ℕ) → left ≡ Some bytes → most_bytes < length bytes)
IsUnreadFor left before now NoMemory = ⊤

-- Why there is no script.
abbrev pub IsNotReadFor : Option (List ℕ) → ℕ → ℕ → ReadRefused → Type 0
IsNotReadFor left before now SourceFault = FaultCounted before now
IsNotReadFor left before now (ScriptFault line why) =
    (bytes : List ℕ) → left ≡ Some bytes → IsFaultFor bytes line why
IsNotReadFor left before now (Limit reached) = (bytes : List ℕ) → left ≡ Some bytes
    → (over : IsOverLimit bytes) × (reached ≡ reached_by bytes over)
IsNotReadFor left before now NoMemory = ⊤

-- The answer is this, unless there was no memory.
abbrev pub IsReadUnlessNoMemory : Result Script ReadRefused → Result Script ReadRefused → Type 0
IsReadUnlessNoMemory result answer = (result ≡ answer) ⊎ (result ≡ Err NoMemory)

-- The answer is that this line breaks the grammar, and why, unless there was no memory.
abbrev pub IsReadFaultUnlessNoMemory : Result Script ReadRefused → ℕ → Type 0
IsReadFaultUnlessNoMemory result line =
    ((why : LineFault) × (result ≡ Err (ScriptFault line why))) ⊎ (result ≡ Err NoMemory)
